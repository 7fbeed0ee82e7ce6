-- An interrupted call has read nothing, and is no fault.
use Rattle.std.proofs.Common.{◌≡◌}
use Rattle.std.specs.Io.KnownBytes.{Keeps}
use Rattle.rr_stream.proofs.counted.CountedSource.read.Given as goal

abbrev pub invariant-turns : goal.invariant-turns
invariant-turns g l =
    record {
      kept : Keeps (g.R.Read.remaining l.initial.self.stream) (g.R.Read.remaining l.self.stream);
      faults : l.self.faults ≡ l.initial.self.faults;
    }
