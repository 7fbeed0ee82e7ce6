-- The commands so far are the same in both lists.
use Rattle.std.proofs.Common.{◌≡◌, ◌≤◌, drop, length}
use Rattle.rr_model.specs.NodeState.{decided_prefix}
use Rattle.rr_threads.specs.Agreeing.{do_agree}
use Rattle.rr_threads.proofs.agreeing.do_agree.Given as goal

abbrev pub invariant-loop-place : goal.invariant-loop-place
invariant-loop-place l =
    (l.place ≤ length (decided_prefix l.fn.one))
    × (do_agree (drop l.place (decided_prefix l.fn.one)) (drop l.place (decided_prefix l.fn.other)) ≡ do_agree (decided_prefix l.fn.one) (decided_prefix l.fn.other))
