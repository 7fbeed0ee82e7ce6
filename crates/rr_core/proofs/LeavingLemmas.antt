-- The tests of the code find and remove the message and the request that the definitions name.
use Rattle.std.proofs.Common.{◌≡◌, ℕ, Bool, true, false, cond, eqb, List, [], ◌∷◌, ap, sym, ◌∙◌, refl, Some}
use Rattle.std.specs.Prelude.{find}
use Rattle.rr_types.specs.declared.command.Command.{Command}
use Rattle.rr_types.specs.declared.command.RequestNo.{RequestNo}
use Rattle.rr_types.specs.Registry.{has_request}
use Rattle.rr_model.specs.NodeState.{Owed}
use Rattle.rr_model.specs.NodeStep.{may_leave, without_first_leaving, without_first_held}
use Rattle.rr_types.specs.Registry.{is_same_request}
use Rattle.std.proofs.lemmas.Bool.{eq-eqb, false≢true}
use Rattle.rr_state.specs.Arrived.{without_first}
use Rattle.rr_state.specs.Owing as mark
use Rattle.rr_state.proofs.SameLemmas.{request_is}

-- tests that agree find the same
pub find_same : {X : Type 0} (p q : X → Bool) (xs : List X) → ((x : X) → p x ≡ q x) → find p xs ≡ find q xs
find_same p q [] h = refl
find_same p q (x ∷ xs) h = rw (h x, find_same p q xs h) refl

-- the definitions' words for what is left
pub without_leaving : (m : ℕ) (os : List Owed) → mark.without_first (may_leave m) os ≡ without_first_leaving m os
without_leaving m [] = refl
without_leaving m (o ∷ os) = ap (λ (r : List Owed). cond (may_leave m o) os (o ∷ r)) (without_leaving m os)

pub without_held : (held : List Command) (p : RequestNo → Bool) (qs : List RequestNo) → ((q : RequestNo) → p q ≡ has_request held q) → without_first p qs ≡ without_first_held held qs
without_held held p [] h = refl
without_held held p (q ∷ qs) h = rw (h q, without_held held p qs h) refl

-- the request that was found is the first of its number
pub found_left : (p : RequestNo → Bool) (qs : List RequestNo) (q : RequestNo) → find p qs ≡ Some q → without_first (λ w. is_same_request w q) qs ≡ without_first p qs
found_left p [] q h = refl
found_left p (w ∷ qs) q h = by (found_left p qs q) (p w) (is_same_request w q) refl refl h
  where
    by : (find p qs ≡ Some q → without_first (λ w. is_same_request w q) qs ≡ without_first p qs) → (a b : Bool) → p w ≡ a → is_same_request w q ≡ b → cond a (Some w) (find p qs) ≡ Some q → without_first (λ w. is_same_request w q) (w ∷ qs) ≡ without_first p (w ∷ qs)
    by more true true e f g = rw (e, f) refl
    by more true false e f g = absurd (false≢true (sym f ∙ itself w q (cc)))
      where
        itself : (v u : RequestNo) → v ≡ u → is_same_request v u ≡ true
        itself v u s = let a : eqb v.client u.client ≡ true = eq-eqb _ _ (ap (λ (x : RequestNo). x.client) s) in let b : eqb v.seq u.seq ≡ true = eq-eqb _ _ (ap (λ (x : RequestNo). x.seq) s) in rw (a, b) refl
    by more false true e f g = absurd (false≢true (sym e ∙ ap p (request_is w q f) ∙ passes qs g))
      where
        passes : (vs : List RequestNo) → find p vs ≡ Some q → p q ≡ true
        passes [] k = absurd (cc)
        passes (v ∷ vs) k = on (passes vs) (p v) refl k
          where
            on : (find p vs ≡ Some q → p q ≡ true) → (c : Bool) → p v ≡ c → cond c (Some v) (find p vs) ≡ Some q → p q ≡ true
            on rest true i j = (let same : v ≡ q = cc in ap p (sym same) ∙ i)
            on rest false i j = rest j
    by more false false e f g = rw (e, f) (ap (λ (r : List RequestNo). w ∷ r) (more g))
