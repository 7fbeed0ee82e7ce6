use Rattle.std.proofs.Common.{ap, sym, subst}
use Rattle.rr_types.specs.Promises.{take_on_all}
use Rattle.rr_state.specs.Listed.{Listed, KeepsPromised}
use Rattle.rr_state.proofs.instances.Instances.commands_after.Goals as goal

pub commands_after-requires-clause-keeps : goal.commands_after-requires-clause-keeps
commands_after-requires-clause-keeps c = subst (λ es. KeepsPromised es (take_on_all es c.args.facts.now)) (sym (ap (λ (t : Listed). t.marked) c.self.view_is)) c.requires
