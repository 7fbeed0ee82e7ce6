-- What an input changes can be taken on, and the state with it is kept.
use Rattle.std.proofs.Common.{◌≡◌, ◌^◌, ◌<◌, ℕ, Bool, true, false, ltb, List, ap, sym, ◌∙◌, refl, subst, Option, Some, None, is_some, Result, Ok, Err, OnOk, OnErr}
use Rattle.std.proofs.lemmas.Bool.{ltb-true}
use Rattle.std.specs.declared.alloc.AllocError.{AllocError}
use Rattle.rr_types.specs.declared.refusal.Refusal.{Refusal}
use Rattle.rr_types.specs.declared.command.RequestNo.{RequestNo}
use Rattle.rr_types.specs.declared.command.Reply.{Reply}
use Rattle.rr_types.specs.declared.promise.Entry.{Entry}
use Rattle.rr_types.specs.Registry.{has_request}
use Rattle.rr_types.specs.Promises.{IsAscending}
use Rattle.rr_registry.specs.Kept.{Kept, kept_of, kept_reply}
use Rattle.rr_model.specs.NodeState.{NodeState, next_number, open_instances, decided_prefix}
use Rattle.rr_types.specs.declared.input.Input.{Input}
use Rattle.rr_types.specs.declared.message.Message.{Message}
use Rattle.rr_types.specs.declared.input.Input.TheVariants.{Submit, Suspect, Tick, Advance, Hear}
use Rattle.rr_model.specs.NodeStep.{taken_in, node_step, input_refusal, refusal_of, restored, started}
use Rattle.rr_core.specs.Steps.{Changed, combined}
use Rattle.rr_core.specs.Changes.{IsStep}
use Rattle.rr_core.proofs.InputSteps.{step_is}
use Rattle.rr_core.specs.Lawful.{IsLawful}
use Rattle.rr_core.specs.Kept.{IsKept}
use Rattle.rr_core.specs.Taken.{CanBeTaken}
use Rattle.rr_core.proofs.MarkLemmas.{replied_where}
use Rattle.rr_core.proofs.CoreLemmas as core
use Rattle.rr_core.proofs.StepLaws as law

-- a step that is allowed has a number for the next fact
has_room : (input : Input Message) (s : NodeState) → refusal_of input s ≡ None → next_number (node_step input s) < 2 ^ 64
unfolding refusal_of
has_room input s h = by (input_refusal input s) refl (ltb (next_number (node_step input s)) (2 ^ 64)) refl
  where
    by : (x : Option Refusal) → input_refusal input s ≡ x → (b : Bool) → ltb (next_number (node_step input s)) (2 ^ 64) ≡ b → next_number (node_step input s) < 2 ^ 64
    by x e true g = ltb-true _ _ g
    by None e false g = absurd (let k = rw (e, g) at h in cc)
    by (Some y) e false g = absurd (let k = rw e at h in cc)

-- and stays lawful
taken_lawful : (input : Input Message) (s : NodeState) → IsLawful s → IsLawful (taken_in input s)
unfolding taken_in
taken_lawful (Submit c) s h = core.submit_lawful c s h
taken_lawful (Hear m) s h = core.hear_lawful m s h
taken_lawful (Suspect set) s h = core.suspect_lawful set s h
taken_lawful Tick s h = core.tick_lawful s h
taken_lawful Advance s h = core.advance_lawful s h

stays_lawful : (input : Input Message) (s : NodeState) → IsLawful s → IsLawful (node_step input s)
stays_lawful input s h = rw (step_is input s) (law.settle_lawful _ (taken_lawful input s h))

-- what an input changes can be taken on
pub taken_on : (input : Input Message) (s : NodeState) (c : Changed) → IsStep input s c → CanBeTaken s c
taken_on input s c d = record {
  lawful = λ h. subst IsLawful (sym d.done) (stays_lawful input s h);
  room = subst (λ (t : NodeState). next_number t < 2 ^ 64) (sym d.done) (has_room input s d.allowed);
  fits = d.fits;
}

-- the state with it is kept
pub taken_kept : (s t : NodeState) (k : Kept) (c : Changed) → CanBeTaken s c → t ≡ combined s c → IsKept s k → IsKept t k
taken_kept s t k c d e kept = rw e record { lawful = d.lawful kept.lawful; room = d.room; kept = kept.kept }

pub held : (s : NodeState) (k : Kept) (q : RequestNo) (x : Option Reply) → IsKept s k → x ≡ kept_reply k q → is_some x ≡ has_request (decided_prefix s) q
held s k q x kept e = ap is_some e ∙ replied_where s k kept q

-- a started node is kept
pub started_kept : (n p next : ℕ) (es : List Entry) (k : Kept) (t : NodeState) → IsAscending es → next < 2 ^ 64 → k ≡ kept_of (decided_prefix t) → t ≡ started n p es next → IsKept t k
unfolding started
started_kept n p next es k t a m e f = core.start_kept n p next es k (restored n p es next) t (open_instances (restored n p es next)) a m e refl f

-- what an input changes can be taken on by the state itself
pub taken_at : (input : Input Message) (s t : NodeState) (c : Changed) → s ≡ t → IsStep input s c → CanBeTaken t c
taken_at input s t c e d = subst (λ (u : NodeState). CanBeTaken u c) e (taken_on input s c d)

-- the state is kept, whether memory was there or wanting
pub commit_kept : (s t : NodeState) (k : Kept) (c : Changed) (r : Result (Unit {0}) AllocError) → CanBeTaken s c → OnOk r (t ≡ combined s c) → OnErr r (t ≡ s) → IsKept s k → IsKept t k
commit_kept s t k c (Ok u) d ok err kept = taken_kept s t k c d ok kept
commit_kept s t k c (Err e) d ok err kept = rw err kept
