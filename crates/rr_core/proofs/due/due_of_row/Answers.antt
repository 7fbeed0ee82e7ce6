use Rattle.std.proofs.Common.{sym, subst, Some, IfSome}
use Rattle.rr_types.specs.Standings.{round_of}
use Rattle.rr_core.specs.Dues.{due_in, MovesBelowLast}
use Rattle.rr_core.proofs.DueLemmas.{open_due}
use Rattle.rr_core.proofs.due.due_of_row.Goals as goal

pub returns-in-Some-clause-value : goal.returns-in-Some-clause-value
returns-in-Some-clause-value c = open_due c.args.step.now.state c.args.instance c.args.row.now.tally _ c.args.row.now.standing _ _ c.in-Some.ensures.0 c.in-Some.ensures.1 c.due_of_open.ensures.value

pub returns-in-Some-clause-moves : goal.returns-in-Some-clause-moves
returns-in-Some-clause-moves c = subst (λ d. IfSome c.due_of_open.result (λ f. MovesBelowLast (round_of (Some d)) (due_in f))) (sym c.in-Some.ensures.0) c.due_of_open.ensures.moves
