use Rattle.std.proofs.Common.{◌≡◌, ◌∙◌, ◌-◌, ℕ, codes, decimal, ap₂, arith}
use Rattle.rr_run.specs.Replacings.{aside_text}
use Rattle.rr_run.proofs.ReplacingLemmas.{planned_again, in_eight}
use Rattle.rr_run.proofs.replacing.planned_text.Goals as goal

pub returns : goal.returns
returns c =
    let dir = c.args.dir.now in
    let plan = c.args.plan.now in
    let node : c.from.result ≡ c.args.node = (let i = c.index.ensures.value in let f = c.from.ensures in omega (arith, i, f)) in
    let more : c.saturating_sub-more.result ≡ plan.bound.least - plan.decided = c.saturating_sub-more.ensures ∙ ap₂ (λ (m k : ℕ). m - k) c.least.ensures c.decided.ensures in
    in_eight c.new-text.result.items c.push_bytes.new.out.items c.push_number.new.out.items c.push_bytes-2.new.out.items c.push_number-2.new.out.items
    c.push_bytes-3.new.out.items c.push_number-3.new.out.items c.push_bytes-4.new.out.items c.push_aside.new.out.items (codes "node ") (decimal c.from.result)
    (codes " would be replaced: ") (decimal c.decided-2.result) (codes " decided commands, ") (decimal c.saturating_sub-more.result) (codes " more to decide\n")
    (aside_text (codes "would move aside: ") dir c.args.node c.aside.result) c.new-text.ensures.items
    c.in_ok-push_bytes.ensures.ok c.in_ok-push_number.ensures.ok c.in_ok-push_bytes-2.ensures.ok c.in_ok-push_number-2.ensures.ok c.in_ok-push_bytes-3.ensures.ok
    c.in_ok-push_number-3.ensures.ok c.in_ok-push_bytes-4.ensures.ok c.in_ok-push_aside.ensures.ok
    ∙ planned_again dir c.from.result c.args.node c.decided-2.result plan.decided c.saturating_sub-more.result plan.bound.least c.aside.result plan.aside node c.decided-2.ensures more c.aside.ensures
