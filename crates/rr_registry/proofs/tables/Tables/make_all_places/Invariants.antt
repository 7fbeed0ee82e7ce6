use Rattle.std.proofs.Common.{◌≡◌, IsTrue, take}
use Rattle.std.specs.List.{All}
use Rattle.rr_registry.specs.Tables.{kept_in, has_places, HasFreeOnlyFor}
use Rattle.rr_registry.proofs.tables.Tables.make_all_places.Given as goal

-- the commands so far have their places
abbrev pub invariant-loop-command : goal.invariant-loop-command
invariant-loop-command l =
    record {
      kept : kept_in l.self ≡ kept_in l.fn.self;
      count : l.self.names.bound ≡ l.fn.self.names.bound;
      made : All (λ c. IsTrue (has_places l.self c)) (take l.command-index l.commands);
      free : HasFreeOnlyFor l.self l.commands;
    }
