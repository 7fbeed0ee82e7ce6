use Rattle.std.proofs.Common.{◌≡◌, drop}
use Rattle.rr_model.specs.NodeParts.{restate_all}
use Rattle.rr_core.specs.Steps.{stepped}
use Rattle.rr_core.proofs.restating.restate_all.Given as goal

abbrev pub invariant-loop-instance : goal.invariant-loop-instance
invariant-loop-instance l = stepped (restate_all (drop l.instance-index l.instances)) l.step ≡ stepped (restate_all l.instances) l.initial.step
