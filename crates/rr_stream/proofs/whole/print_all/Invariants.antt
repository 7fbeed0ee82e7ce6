-- What is gone from the rest was taken, and no count of faults fell.
use Rattle.std.proofs.Common.{◌≡◌, ◌≤◌, ℕ, List, ◌++◌, length}
use Rattle.std.specs.Io.KnownBytes.{Appends}
use Rattle.rr_stream.proofs.whole.print_all.Given as goal

abbrev pub invariant-loop-rest : goal.invariant-loop-rest
invariant-loop-rest g l =
    record {
      taken : (front : List ℕ) × (l.initial.rest ≡ front ++ l.rest) × Appends (g.O.Sink.printing l.initial.out).contents (g.O.Sink.printing l.out).contents front;
      faults : (g.O.Sink.printing l.initial.out).faults ≤ (g.O.Sink.printing l.out).faults;
    }

abbrev pub decreases-loop-rest : goal.decreases-loop-rest
decreases-loop-rest g l = length l.rest
