-- What was heard of the round from here on, where the node didn't open.
use Rattle.rr_account.specs.Decisions.{HeardFrom}
use Rattle.rr_account.proofs.decisions.is_acknowledged.Given as goal

abbrev pub invariant-loop-left : goal.invariant-loop-left
invariant-loop-left l = HeardFrom l.seen l.left l.fn.place l.fn.node l.fn.instance l.fn.round l.set

abbrev pub decreases-loop-left : goal.decreases-loop-left
decreases-loop-left l = l.left
