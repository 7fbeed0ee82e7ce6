-- The bytes are what was read, and no count of faults fell.
use Rattle.std.proofs.Common.{◌≡◌, ◌≤◌, ◌-◌, ◌^◌, length}
use Rattle.std.specs.Prelude.{vec_len}
use Rattle.std.specs.Io.KnownBytes.{Consumes}
use Rattle.rr_stream.proofs.whole.read_all.Given as goal

abbrev pub invariant-reads : goal.invariant-reads
invariant-reads g l =
    record {
      read : Consumes (g.I.Source.reading l.initial.input).remaining (g.I.Source.reading l.input).remaining l.bytes.items;
      faults : (g.I.Source.reading l.initial.input).faults ≤ (g.I.Source.reading l.input).faults;
      room : length l.room ≡ 65536;
    }

abbrev pub decreases-reads : goal.decreases-reads
decreases-reads g l = 2 ^ 64 - vec_len l.bytes
