-- What an input changes makes the node's step.
use Rattle.std.proofs.Common.{◌≡◌, ◌^◌, ◌<◌, ◌≤◌, true, false, ltb, ◌⊎◌, inl, inr, Result, Ok, Err, IfErr, ap, sym, ◌∙◌, refl, Some, None}
use Rattle.std.proofs.lemmas.Bool.{lt-ltb, le-ltb}
use Rattle.rr_types.specs.declared.input.Input.{Input}
use Rattle.rr_types.specs.declared.message.Message.{Message}
use Rattle.rr_types.specs.declared.refusal.Refusal.{Refusal}
use Rattle.rr_types.specs.declared.refusal.Refusal.TheVariants.{TooLarge, OutOfMemory}
use Rattle.rr_model.specs.NodeState.{NodeState, next_number}
use Rattle.rr_model.specs.NodeDue.{settle}
use Rattle.rr_model.specs.NodeStep.{taken_in, node_step, input_refusal, refusal_of}
use Rattle.rr_core.specs.Steps.{Stepped, stepped, Changed, combined, IsFitting}
use Rattle.rr_core.specs.Changes.{IsSettled, IsStep}

-- the node's step: what the input does at once, and then all that is due
pub step_is : (input : Input Message) (s : NodeState) → node_step input s ≡ settle (taken_in input s)
unfolding node_step
step_is input s = refl

-- where an input is allowed for what it is, the next number tells
allowed : (input : Input Message) (s : NodeState) → input_refusal input s ≡ None → next_number (node_step input s) < 2 ^ 64 → refusal_of input s ≡ None
unfolding refusal_of
allowed input s e l = let t : ltb (next_number (node_step input s)) (2 ^ 64) ≡ true = lt-ltb _ _ l in rw (e, t) refl

too_large : (input : Input Message) (s : NodeState) → input_refusal input s ≡ None → 2 ^ 64 ≤ next_number (node_step input s) → refusal_of input s ≡ Some TooLarge
unfolding refusal_of
too_large input s e l = let t : ltb (next_number (node_step input s)) (2 ^ 64) ≡ false = le-ltb _ _ l in rw (e, t) refl

pub refused : (input : Input Message) (s : NodeState) (r : Refusal) → input_refusal input s ≡ Some r → refusal_of input s ≡ Some r
unfolding refusal_of
refused input s r e = rw e refl

-- a step that is settled
pub settled : (s t : Stepped) (c : Changed) → t ≡ stepped settle s → combined t.base c ≡ t.state → next_number t.state < 2 ^ 64 → IsFitting t.base c → IsSettled s.base s.state c
settled s t c e f l k = record {
  done = ap (λ (u : Stepped). combined u.base c) (sym e) ∙ f ∙ ap (λ (u : Stepped). u.state) e;
  room = rw (ap (λ (u : Stepped). u.state) e) at l;
  fits = rw (ap (λ (u : Stepped). u.base) e) at k;
}

-- what the input has done at once, settled, makes the node's step
pub is_step : (input : Input Message) (s : NodeState) (t : Stepped) (c : Changed) → t ≡ record { base = s; state = taken_in input s } → input_refusal input s ≡ None → IsSettled t.base t.state c → IsStep input s c
is_step input s t c e r h =
    let base : t.base ≡ s = ap (λ (u : Stepped). u.base) e in
    let state : settle t.state ≡ node_step input s = ap (λ (u : Stepped). settle u.state) e ∙ sym (step_is input s) in
    record {
      done = ap (λ (x : NodeState). combined x c) (sym base) ∙ h.done ∙ state;
      allowed = allowed input s r (rw state at h.room);
      fits = rw base at h.fits;
    }

-- what is refused at the end of a step
pub refused_of : {C : Type 0} → (input : Input Message) (s : NodeState) (t : Stepped) (r : Result C Refusal) → t ≡ record { base = s; state = taken_in input s } → input_refusal input s ≡ None
    → IfErr r (λ e. (e ≡ OutOfMemory) ⊎ ((e ≡ TooLarge) × (2 ^ 64 ≤ next_number (settle t.state)))) → IfErr r (λ e. (e ≡ OutOfMemory) ⊎ (refusal_of input s ≡ Some e))
refused_of input s t (Ok c) e n h = h
refused_of input s t (Err x) e n (inl m) = inl m
refused_of input s t (Err x) e n (inr l) =
    let state : settle t.state ≡ node_step input s = ap (λ (u : Stepped). settle u.state) e ∙ sym (step_is input s) in
    inr (too_large input s n (rw state at l.1) ∙ ap Some (sym l.0))
