use Rattle.std.proofs.Common.{ap, sym, ◌∙◌}
use Rattle.rr_model.specs.NodeState.{Backing}
use Rattle.rr_core.proofs.RoundLemmas.{restate_proposing}
use Rattle.rr_core.proofs.restating.restate_open.Goals as goal

pub returns-in_ok-owe_everyone-in-Some : goal.returns-in_ok-owe_everyone-in-Some
returns-in_ok-owe_everyone-in-Some c =
    record {
      ok = restate_proposing c.args.instance c.args.at.now _ c.args.step.now _ _ _ _ c.requires (sym c.in-Some.ensures) c.round.ensures.value (ap (λ (b : Backing). b.proposed) c.backing.view_is ∙ c.backing_or_none-backing.ensures.proposed) c.in_ok-owe_coordinator.ensures.ok c.in_ok-owe_everyone-in-Some.ensures.ok;
    }
