use Rattle.std.proofs.Common.{◌≡◌, ◌++◌}
use Rattle.std.specs.Prelude.{All}
use Rattle.rr_model.specs.NodeParts.{messages_to}
use Rattle.rr_state.specs.Owing.{IsOwn}
use Rattle.rr_core.specs.Places.{reached}
use Rattle.rr_core.proofs.owing.push_to_reached.Given as goal

abbrev pub invariant-loop-index : goal.invariant-loop-index
invariant-loop-index l = (l.owed.items ≡ l.initial.owed.items ++ messages_to l.from l.body l.backing (reached l.reach l.from l.index)) × All (IsOwn l.from) l.owed.items
