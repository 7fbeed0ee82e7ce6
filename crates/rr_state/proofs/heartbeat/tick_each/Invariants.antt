use Rattle.std.proofs.Common.{◌≡◌, ◌++◌, take, drop}
use Rattle.rr_model.specs.NodeDetector.{all_ticked}
use Rattle.rr_state.proofs.heartbeat.tick_each.Given as goal

abbrev pub invariant-loop-index : goal.invariant-loop-index
invariant-loop-index l = l.watches ≡ all_ticked (take l.index l.initial.watches) ++ drop l.index l.initial.watches
