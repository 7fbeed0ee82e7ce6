use Rattle.std.proofs.Common.{◌≡◌, ◌≤◌, length}
use Rattle.rr_threads.proofs.script_run.readers.Given as goal

abbrev pub invariant-loop-made : goal.invariant-loop-made
invariant-loop-made l = (l.made ≤ l.fn.nodes) × (length l.readers.items ≡ l.made)
