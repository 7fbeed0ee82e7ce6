use Rattle.std.proofs.Common.{◌≡◌, ◌++◌, drop, length}
use Rattle.rr_window.proofs.publisher.move_waiting.Given as goal

abbrev pub invariant-loop-addition : goal.invariant-loop-addition
invariant-loop-addition g l = (drop l.writer.behind l.writer.log.items ++ l.waiting.items ≡ drop l.initial.writer.behind l.initial.writer.log.items ++ l.initial.waiting.items) × (l.writer.desk ≡ l.initial.writer.desk)

abbrev pub decreases-loop-addition : goal.decreases-loop-addition
decreases-loop-addition g l = length l.waiting.items
