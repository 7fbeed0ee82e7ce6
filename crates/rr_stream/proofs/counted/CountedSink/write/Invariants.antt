-- An interrupted call has taken nothing, and is no fault.
use Rattle.std.proofs.Common.{◌≡◌}
use Rattle.std.specs.Io.KnownBytes.{Keeps}
use Rattle.rr_stream.proofs.counted.CountedSink.write.Given as goal

abbrev pub invariant-turns : goal.invariant-turns
invariant-turns g l =
    record {
      kept : Keeps (g.W.Write.contents l.initial.self.stream) (g.W.Write.contents l.self.stream);
      faults : l.self.faults ≡ l.initial.self.faults;
    }
