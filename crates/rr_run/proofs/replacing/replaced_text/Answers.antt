use Rattle.std.proofs.Common.{◌≡◌, ◌∙◌, ℕ, Option, codes, decimal, ap, arith}
use Rattle.rr_run.specs.Replacings.{aside_text, replaced_text}
use Rattle.rr_run.proofs.ReplacingLemmas.{in_six, replaced_again}
use Rattle.rr_run.proofs.replacing.replaced_text.Goals as goal

pub returns : goal.returns
returns c =
    let dir = c.args.dir.now in
    let node : c.from.result ≡ c.args.node = (let i = c.index.ensures.value in let f = c.from.ensures in omega (arith, i, f)) in
    in_six c.new-text.result.items c.push_bytes.new.out.items c.push_number.new.out.items c.push_bytes-2.new.out.items c.push_number-2.new.out.items
    c.push_bytes-3.new.out.items c.push_aside.new.out.items (codes "node ") (decimal c.from.result) (codes " replaced: ") (decimal c.count.result)
    (codes " decided commands\n") (aside_text (codes "moved aside: ") dir c.args.node c.aside.result) c.new-text.ensures.items c.in_ok-push_bytes.ensures.ok c.in_ok-push_number.ensures.ok
    c.in_ok-push_bytes-2.ensures.ok c.in_ok-push_number-2.ensures.ok c.in_ok-push_bytes-3.ensures.ok c.in_ok-push_aside.ensures.ok
    ∙ replaced_again dir c.from.result c.args.node c.count.result c.args.replaced.now.count c.aside.result c.args.replaced.now.aside node c.count.ensures c.aside.ensures
