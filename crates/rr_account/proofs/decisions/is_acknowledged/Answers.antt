use Rattle.std.proofs.Common.{◌+◌, ◌∙◌, ℕ, subst, sym}
use Rattle.rr_account.specs.Decisions.{HeardFrom}
use Rattle.rr_account.proofs.HeardLaws.{heard_none, heard_majority}
use Rattle.rr_account.proofs.decisions.is_acknowledged.Goals as goal

pub loop-left-init : goal.loop-left-init
loop-left-init c =
    subst (λ (set : ℕ). HeardFrom c.args.seen.now (c.args.place + 1) c.args.place c.args.node c.args.instance c.args.round set) (sym c.empty-set.ensures)
    (heard_none c.args.seen.now c.args.place c.args.node c.args.instance c.args.round)

pub returns-then-is_majority : goal.returns-then-is_majority
returns-then-is_majority c = λ is.
    heard_majority c.args.nodes c.args.seen.now _ c.args.place c.args.node c.args.instance c.args.round c.in-Some.more c.in-Some.ensures (sym c.is_majority.ensures ∙ c.if-is_majority.true)
