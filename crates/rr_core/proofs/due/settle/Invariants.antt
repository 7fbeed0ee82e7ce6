use Rattle.std.proofs.Common.{◌≡◌, ◌-◌, ◌^◌}
use Rattle.rr_model.specs.NodeDue.{settle, settle_within}
use Rattle.rr_core.specs.Steps.{stepped}
use Rattle.rr_core.proofs.due.settle.Given as goal

abbrev pub invariant-loop-turn : goal.invariant-loop-turn
invariant-loop-turn l = stepped (settle_within (2 ^ 54 - l.turn)) l.step ≡ stepped settle l.initial.step
