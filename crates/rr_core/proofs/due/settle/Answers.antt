use Rattle.std.proofs.Common.{◌≡◌, ℕ, ◌-◌, ◌^◌, ap, sym, ◌∙◌, arith}
use Rattle.rr_model.specs.NodeState.{NodeState}
use Rattle.rr_model.specs.NodeDue.{settle_within}
use Rattle.rr_core.specs.Steps.{Stepped, stepped}
use Rattle.rr_core.proofs.DueLemmas.{settle_none}
use Rattle.rr_core.proofs.due.settle.Goals as goal

pub returns : goal.returns
returns c =
    record {
      ok = let spent : 2 ^ 54 - c.loop-turn.turn ≡ 0 = omega arith in
          let same : NodeState → Stepped = λ t. record { base = c.loop-turn.step.base; state = t } in
          sym (ap same (settle_none c.loop-turn.step.state)) ∙ ap (λ (n : ℕ). stepped (settle_within n) c.loop-turn.step) (sym spent) ∙ c.loop-turn.invariant;
    }
