-- The reduction suspects exactly those whom receipts named and who stayed silent since: it is complete, and invents nothing.
use Rattle.std.proofs.Common.{◌≡◌, ◌≢◌, ℕ, ◌<◌, ◌⊎◌, inl, inr, Bool, true, false, ◌==◌, ◌&&◌, ◌||◌, not, IsTrue, List, [], ◌∷◌, ap, sym, ◌∙◌, refl, subst}
use Rattle.std.proofs.lemmas.Bool.{false≢true, ne_eqb, eqb-false}
use Rattle.rr_types.specs.Nodes.{has_member}
use Rattle.rr_model.specs.NodeDetector.{reduced}
use Rattle.rr_state.specs.Receipts.{Receipt, output_after, IsSilent, IsTold, IsNamed, IsWhatWasTold, IsCompleteOver, InventsNothing}
use Rattle.rr_state.proofs.SetLemmas.{reduced_has}

-- what a receipt leaves of node c
left : (s c : ℕ) (r : Receipt) → c < 7 → IsTrue (has_member (reduced s r.from r.set) c) → (r.from ≢ c) × (IsTrue (has_member s c) ⊎ IsTrue (has_member r.set c))
left s c r l m = at (c == r.from) refl (has_member s c) (has_member r.set c) (subst IsTrue (reduced_has s r.from r.set c l) m)
  where
    at : (b : Bool) → (c == r.from) ≡ b → (x y : Bool) → IsTrue (not b && (x || y)) → (r.from ≢ c) × (IsTrue x ⊎ IsTrue y)
    at true e x y m = absurd (false≢true m)
    at false e true y m = (λ f. eqb-false _ _ e (sym f), inl refl)
    at false e false y m = (λ f. eqb-false _ _ e (sym f), inr m)

put : (s c : ℕ) (r : Receipt) → c < 7 → r.from ≢ c → IsTrue (has_member s c) ⊎ IsTrue (has_member r.set c) → IsTrue (has_member (reduced s r.from r.set) c)
put s c r l n h =
    let f : (c == r.from) ≡ false = ne_eqb _ _ (λ e. n (sym e)) in
    subst IsTrue (sym (reduced_has s r.from r.set c l ∙ ap (λ b. not b && (has_member s c || has_member r.set c)) f)) (at (has_member s c) (has_member r.set c) h)
  where
    at : (x y : Bool) → IsTrue x ⊎ IsTrue y → IsTrue (x || y)
    at true y h = refl
    at false y (inl h) = absurd (false≢true h)
    at false y (inr h) = h

pub what_was_told : (s c : ℕ) (rs : List Receipt) → IsWhatWasTold s c rs
what_was_told s c [] l = (λ m. inl (m, tt), λ h. elim h [ inl a ↦ a.0 | inr b ↦ absurd b ])
what_was_told s c (r ∷ rs) l =
    let ih = what_was_told (reduced s r.from r.set) c rs l in (
      λ m. elim (ih.0 m) [
        | inl a ↦ (let p = left s c r l a.0 in elim p.1 [ inl x ↦ inl (x, (p.0, a.1)) | inr x ↦ inr (inl (x, (p.0, a.1))) ])
        | inr t ↦ inr (inr t)
      ],
      λ h. ih.1 (elim h [
        | inl a ↦ inl (put s c r l a.1.0 (inl a.0), a.1.1)
        | inr t ↦ elim t [ inl b ↦ inl (put s c r l b.1.0 (inr b.0), b.1.1) | inr u ↦ inr u ]
      ]),
    )

-- a named node that stays silent was told
told : (c : ℕ) (rs : List Receipt) → IsSilent c rs → IsNamed c rs → IsTold c rs
told c [] h n = n
told c (r ∷ rs) h (inl m) = inl (m, h)
told c (r ∷ rs) h (inr n) = inr (told c rs h.1 n)

pub complete : (s c : ℕ) (rs : List Receipt) → IsCompleteOver s c rs
complete s c rs l h n = (what_was_told s c rs l).1 (inr (told c rs h n))

named : (c : ℕ) (rs : List Receipt) → IsTold c rs → IsNamed c rs
named c [] t = t
named c (r ∷ rs) (inl m) = inl m.0
named c (r ∷ rs) (inr t) = inr (named c rs t)

pub invents_nothing : (s c : ℕ) (rs : List Receipt) → InventsNothing s c rs
invents_nothing s c rs l n e = at (has_member (output_after s rs) c) refl
  where
    at : (b : Bool) → has_member (output_after s rs) c ≡ b → b ≡ false
    at false f = refl
    at true f = elim ((what_was_told s c rs l).0 f) [
      | inl a ↦ absurd (false≢true (sym e ∙ a.0))
      | inr t ↦ absurd (n (named c rs t))
    ]
