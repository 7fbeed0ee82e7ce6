-- The changes so far, and those that the traces that are left tell.
use Rattle.std.proofs.Common.{◌≡◌, ◌++◌, drop}
use Rattle.rr_window.specs.Watches.{told_behind}
use Rattle.rr_window.proofs.trace.tell_all.Given as goal

abbrev pub invariant-traces : goal.invariant-traces
invariant-traces l = l.changes.items ++ told_behind l.prefix l.count (drop l.trace-index l.traces) ≡ l.initial.changes.items ++ told_behind l.prefix l.count l.traces
