-- A node that is refused an input since the rounds are out stays as it is.
use Rattle.std.proofs.Common.{◌≡◌, ◌∙◌, ◌⊎◌, inl, inr, Some, Result, Ok, Err, ap, sym}
use Rattle.std.specs.Prelude.{IfErr, OnErr}
use Rattle.rr_types.specs.declared.input.Input.{Input}
use Rattle.rr_types.specs.declared.message.Message.{Message}
use Rattle.rr_types.specs.declared.refusal.Refusal.{Refusal}
use Rattle.rr_types.specs.declared.refusal.Refusal.TheVariants.{OutOfMemory, RoundsOut, BadEvent}
use Rattle.rr_model.specs.NodeState.{NodeState}
use Rattle.rr_model.specs.NodeStep.{node_step, refusal_of}
use Rattle.rr_text.specs.Taped.{Taped}
use Rattle.rr_text.specs.declared.tape_event.TapeEvent.{TapeEvent}
use Rattle.rr_turn.specs.Recorded.{HasNoPlace}

no_memory : (e : Refusal) → e ≡ OutOfMemory → e ≡ RoundsOut → ⊥
no_memory e m is = let both : OutOfMemory ≡ RoundsOut = sym m ∙ is in cc

no_event : (e : Refusal) {n : _} → e ≡ BadEvent n → e ≡ RoundsOut → ⊥
no_event e {n} b is = let both : BadEvent n ≡ RoundsOut = sym b ∙ is in cc

refused : (input : Input Message) (s t : NodeState) (e : Refusal) → t ≡ s → (e ≡ OutOfMemory) ⊎ (refusal_of input s ≡ Some e) → e ≡ RoundsOut → (t ≡ s) × (refusal_of input s ≡ Some RoundsOut)
refused input s t e same cause is = elim cause [ inl m ↦ absurd (no_memory e m is) | inr h ↦ (same, h ∙ ap (λ (x : Refusal). Some x) is) ]

-- where it is told without a tape
pub rounds_by : (input : Input Message) (s t : NodeState) (r : Result (Unit {0}) Refusal) → IfErr r (λ e. (e ≡ OutOfMemory) ⊎ (refusal_of input s ≡ Some e)) → OnErr r (t ≡ s)
    → IfErr r (λ e. e ≡ RoundsOut → (t ≡ s) × (refusal_of input s ≡ Some RoundsOut))
rounds_by input s t (Ok x) cause same = tt
rounds_by input s t (Err e) cause same = refused input s t e same cause

-- and with one
pub rounds_on : (input : Input Message) (s t : NodeState) (tape : Taped) (event : TapeEvent) (r : Result (Unit {0}) Refusal)
    → IfErr r (λ e. ((t ≡ s) × ((e ≡ OutOfMemory) ⊎ (refusal_of input s ≡ Some e))) ⊎ ((t ≡ node_step input s) × HasNoPlace tape event e))
    → IfErr r (λ e. e ≡ RoundsOut → (t ≡ s) × (refusal_of input s ≡ Some RoundsOut))
rounds_on input s t tape event (Ok x) cause = tt
rounds_on input s t tape event (Err e) cause =
    λ is. elim cause [ inl h ↦ refused input s t e h.0 h.1 is | inr h ↦ absurd (elim h.1 [ inl m ↦ no_memory e m is | inr b ↦ no_event e b.0 is ]) ]
