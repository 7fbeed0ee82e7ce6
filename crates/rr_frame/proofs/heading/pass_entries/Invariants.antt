use Rattle.std.proofs.Common.{◌≡◌, ◌-◌}
use Rattle.rr_frame.specs.SnapshotFormat.{entries_at}
use Rattle.rr_frame.specs.Headings.{nothing, told}
use Rattle.rr_frame.proofs.heading.pass_entries.Given as goal

-- what is left is passed as the whole is
abbrev pub invariant-loop : goal.invariant-loop
invariant-loop l = told nothing (entries_at l.version l.nodes l.node l.low (l.count - l.counter) l.reader) ≡ told nothing (entries_at l.version l.nodes l.node 0 l.count l.fn.reader)
