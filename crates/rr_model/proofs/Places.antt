-- The places of a member in a list, which of two comes first, and what one more member adds.
use Rattle.std.proofs.Common.{◌≡◌, ℕ, ◌<◌, ◌⊎◌, inl, inr, zero, suc, List, [], ◌∷◌, ◌++◌, length, get_or, Contains, refl, ap, sym, arith, le_of_suc-le-suc, length-append}

-- a place where x stands in the list
pub record Place {A : Type 0} (xs : List A) (x : A) : Type 0 where
  pub before : List A
  pub after : List A
  pub is : xs ≡ before ++ x ∷ after

-- the place by its index
pub place_at : {A : Type 0} → (xs : List A) (x : A) (k : ℕ) → k < length xs → get_or xs k x ≡ x → Place xs x
place_at [] x k l e = absurd (omega arith)
place_at (y ∷ ys) x zero l e = record { before = []; after = ys; is = ap (λ z. z ∷ ys) e }
place_at (y ∷ ys) x (suc k) l e =
    let r : Place ys x = place_at ys x k (le_of_suc-le-suc l) e in
    record { before = y ∷ r.before; after = r.after; is = ap (λ zs. y ∷ zs) r.is }

-- what a list contains stands somewhere in it
pub place_of : {A : Type 0} → (xs : List A) (x : A) → Contains xs x → Place xs x
place_of xs x c = place_at xs x c.0 c.1 c.2

-- the member of a list with one member
pub Contains-split : {A : Type 0} → (a b : List A) (x : A) → Contains (a ++ x ∷ b) x
Contains-split [] b x = (0, omega arith, refl)
Contains-split (y ∷ a) b x = let r : Contains (a ++ x ∷ b) x = Contains-split a b x in (suc r.0, omega arith, r.2)

-- of two places in a list one is first, or they are the same
pub order : {A : Type 0} → (a b c d : List A) (f g : A) → a ++ f ∷ b ≡ c ++ g ∷ d → ((a ≡ c) × (f ≡ g)) ⊎ (((mid : List A) × (c ≡ a ++ f ∷ mid)) ⊎ ((mid : List A) × (a ≡ c ++ g ∷ mid)))
order [] b [] d f g e = inl (refl, cc)
order [] b (y ∷ c) d f g e = inr (inl (c, let h : y ≡ f = cc in ap (λ z. z ∷ c) h))
order (x ∷ a) b [] d f g e = inr (inr (a, let h : x ≡ g = cc in ap (λ z. z ∷ a) h))
order {A} (x ∷ a) b (y ∷ c) d f g e =
    let h : x ≡ y = cc in
    let t : a ++ f ∷ b ≡ c ++ g ∷ d = cc in
    elim (order a b c d f g t) [
      | inl s ↦ inl (let p : a ≡ c = s.0 in cc, s.1)
      | inr r ↦ elim r [
        | inl m ↦ inr (inl (m.0, let p : c ≡ a ++ f ∷ m.0 = m.1 in cc))
        | inr m ↦ inr (inr (m.0, let p : a ≡ c ++ g ∷ m.0 = m.1 in cc))
      ]
    ]

-- a place in a list with one more member at its end: it is the last, or it was there
pub place_push : {A : Type 0} → (a b xs : List A) (f g : A) → xs ++ g ∷ [] ≡ a ++ f ∷ b → ((a ≡ xs) × (f ≡ g)) ⊎ ((rest : List A) × (xs ≡ a ++ f ∷ rest))
place_push {A} a b xs f g e = elim (order a b xs [] f g (sym e)) [
  | inl s ↦ inl s
  | inr r ↦ elim r [
    | inl m ↦ inr m
    | inr m ↦ absurd (too_long m.0 m.1)
  ]
]
  where
    too_long : (mid : List A) → a ≡ xs ++ g ∷ mid → ⊥
    too_long mid h =
        let e2 : length (xs ++ g ∷ []) ≡ length (a ++ f ∷ b) = ap length e in
        let h2 : length a ≡ length (xs ++ g ∷ mid) = ap length h in
        omega (arith, length-append xs (g ∷ []), length-append a (f ∷ b), length-append xs (g ∷ mid), e2, h2)
