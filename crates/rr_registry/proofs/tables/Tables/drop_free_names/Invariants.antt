use Rattle.std.proofs.Common.{◌≡◌, [], drop}
use Rattle.rr_registry.specs.Tables.{kept_in, IsCounted, HasFreeNamesOnlyFor, HasFreeRepliesOnlyFor}
use Rattle.rr_registry.proofs.tables.Tables.drop_free_names.Given as goal

-- the free names are those of the commands that are left
abbrev pub invariant-loop-command : goal.invariant-loop-command
invariant-loop-command l =
    record {
      kept : kept_in l.self ≡ kept_in l.fn.self;
      count : l.self.names.bound ≡ l.fn.self.names.bound;
      counted : IsCounted l.self.names;
      names : HasFreeNamesOnlyFor l.self (drop l.command-index l.commands);
      replies : HasFreeRepliesOnlyFor l.self [];
    }
