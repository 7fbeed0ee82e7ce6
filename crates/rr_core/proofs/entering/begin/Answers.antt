use Rattle.std.proofs.Common.{◌≡◌, ℕ, ap, ◌∙◌}
use Rattle.rr_types.specs.Rounds.{Estimated}
use Rattle.rr_model.specs.NodeParts.{enter_with}
use Rattle.rr_core.specs.Steps.{stepped}
use Rattle.rr_core.proofs.RoundLemmas.{begins}
use Rattle.rr_core.proofs.entering.begin.Goals as goal

pub returns : goal.returns
returns c =
    record {
      ok = let estimate : c.at-estimate.result ≡ record { round = 1; stamp = 0; command = c.args.command.now } = c.at-estimate.ensures ∙ ap (λ (r : ℕ). record { round = r; stamp = 0; command = c.args.command.now }) c.at.ensures in
          begins c.args.instance c.args.command.now c.args.step.now c.enter_with.new.step c.requires.unnamed c.requires.free (c.in_ok-enter_with.ensures.ok ∙ ap (λ (e : Estimated). stepped (enter_with c.args.instance e) c.args.step.now) estimate);
    }
