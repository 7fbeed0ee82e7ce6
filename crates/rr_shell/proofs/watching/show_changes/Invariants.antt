-- What was told is said, and it is the changes of a piece of a list.
use Rattle.std.specs.List.{flat_map}
use Rattle.rr_shell.specs.Watches.{bytes_of, change_said, IsAdded, IsPiece}
use Rattle.rr_shell.proofs.watching.show_changes.Given as goal

abbrev pub invariant-looks : goal.invariant-looks
invariant-looks g l =
    record {
      piece : IsPiece (bytes_of l.prefix) (g.A.Asked.told l.asked);
      added : IsAdded (g.O.Sink.printing l.initial.out) (g.O.Sink.printing l.out) (flat_map (change_said l.json) (g.A.Asked.told l.asked));
    }
