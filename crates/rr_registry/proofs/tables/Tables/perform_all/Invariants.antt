use Rattle.std.proofs.Common.{◌≡◌, drop}
use Rattle.rr_types.specs.declared.command.Command.{Command}
use Rattle.rr_registry.specs.Kept.{applied_all}
use Rattle.rr_registry.specs.Tables.{kept_in, has_places, IsCounted, HasFreeNamesOnlyFor, HasFreeRepliesOnlyFor}
use Rattle.rr_registry.proofs.tables.Tables.perform_all.Given as goal

-- what is left leads to what all the commands lead to
abbrev pub invariant-loop-command : goal.invariant-loop-command
invariant-loop-command l =
    record {
      kept : applied_all (kept_in l.self) (drop l.command-index l.commands) ≡ applied_all (kept_in l.fn.self) l.commands;
      counted : IsCounted l.self.names;
      places : (c : Command) → has_places l.self c ≡ has_places l.fn.self c;
      names : HasFreeNamesOnlyFor l.self l.commands;
      replies : HasFreeRepliesOnlyFor l.self (drop l.command-index l.commands);
    }
