use Rattle.std.proofs.Common.{◌≡◌, ◌-◌}
use Rattle.rr_frame.specs.SnapshotFormat.{entries_at}
use Rattle.rr_frame.proofs.Loops.{with_front}
use Rattle.rr_frame.proofs.snapshot.read_entries.Given as goal

abbrev pub invariant-loop : goal.invariant-loop
invariant-loop l = with_front l.entries.items (entries_at l.version l.nodes l.node l.low (l.count - l.counter) l.reader) ≡ entries_at l.version l.nodes l.node 0 l.count l.fn.reader
