use Rattle.std.proofs.Common.{arith, [], ◌∷◌, take, ap, sym, ◌∙◌, subst}
use Rattle.rr_model.specs.NodeState.{Watch}
use Rattle.rr_state.specs.Padded.{IsPadded}
use Rattle.rr_state.proofs.WatchLemmas.{fresh_padded, fresh_front}
use Rattle.rr_state.proofs.heartbeat.Heartbeat.new.Goals as goal

pub invariant_of-result : goal.invariant_of-result
invariant_of-result c =
    subst (λ (w : Watch). IsPadded c.args.nodes (w ∷ w ∷ w ∷ w ∷ w ∷ w ∷ w ∷ [])) (sym c.new-fresh.ensures) (fresh_padded _ (omega (arith, c.count-count.ensures.value, c.count-count.ensures.range)))

pub returns : goal.returns
returns c =
    ap (λ (w : Watch). take c.args.nodes (w ∷ w ∷ w ∷ w ∷ w ∷ w ∷ w ∷ [])) c.new-fresh.ensures ∙ fresh_front _ (omega (arith, c.count-count.ensures.value, c.count-count.ensures.range))
