-- A round that a majority can enter, coordinated by one of its members.
use Rattle.std.proofs.Common.{◌≡◌, ℕ, ◌+◌, ◌*◌, ◌<◌, ◌≤◌, ◌⊎◌, inl, inr, zero, suc, Bool, true, false, IsTrue, Option, None, Some, refl, sym, ◌∙◌, subst, arith}
use Rattle.std.proofs.lemmas.Bool.{false≢true, cases_lt}
use Rattle.std.proofs.lemmas.Nat.{mod-mul-add}
use Rattle.rr_types.specs.declared.command.Command.{Command}
use Rattle.rr_types.specs.declared.promise.Standing.{Standing}
use Rattle.rr_types.specs.declared.promise.Standing.TheVariants.{Decided, Open}
use Rattle.rr_types.specs.Rounds.{majority_of, coordinator_of}
use Rattle.rr_types.specs.Standings.{is_undecided, round_of, stamp_of}
use Rattle.rr_model.specs.Lawful.{count_below, HasMajority}
use Rattle.rr_model.proofs.Quorums.{majorities_meet}
use Rattle.rr_model.proofs.Reaches.{In}

-- a node of the set at which the number is largest
abbrev pub Largest : ℕ → (ℕ → Bool) → (ℕ → ℕ) → Type 0
Largest n set t = (q : ℕ) × In n set q × ((k : ℕ) → In n set k → t k ≤ t q)

below : (n : ℕ) (set : ℕ → Bool) (k : ℕ) → In (suc n) set k → In n set k ⊎ (k ≡ n)
below n set k m = elim (cases_lt k n) [
  | inl l ↦ inl (l, m.1)
  | inr l ↦ inr (let x : k < suc n = m.0 in omega arith)
]

larger : (n : ℕ) (set : ℕ → Bool) (t : ℕ → ℕ) → set n ≡ true → Largest n set t ⊎ ((k : ℕ) → In n set k → ⊥) → Largest (suc n) set t
larger n set t e (inr none) = (
  n,
  (omega arith, e),
  λ k m. elim (below n set k m) [
    | inl x ↦ absurd (none k x)
    | inr x ↦ subst (λ z. t k ≤ t z) x (let l : t k ≤ t k = omega arith in l)
  ],
)
larger n set t e (inl r) = elim (cases_lt (t r.0) (t n)) [
  | inl l ↦ (
    n,
    (omega arith, e),
    λ k m. elim (below n set k m) [
      | inl x ↦ (let y : t k ≤ t r.0 = r.2 k x in omega arith)
      | inr x ↦ subst (λ z. t k ≤ t z) x (let y : t k ≤ t k = omega arith in y)
    ],
  )
  | inr l ↦ (
    r.0,
    (let y : r.0 < n = r.1.0 in omega arith, r.1.1),
    λ k m. elim (below n set k m) [
      | inl x ↦ r.2 k x
      | inr x ↦ subst (λ z. t z ≤ t r.0) (sym x) l
    ],
  )
]

largest_by : (n : ℕ) (set : ℕ → Bool) (t : ℕ → ℕ) → Largest n set t ⊎ ((k : ℕ) → In n set k → ⊥) → (b : Bool) → set n ≡ b → Largest (suc n) set t ⊎ ((k : ℕ) → In (suc n) set k → ⊥)
largest_by n set t before true e = inl (larger n set t e before)
largest_by n set t (inl r) false e = inl (
  r.0,
  (let y : r.0 < n = r.1.0 in omega arith, r.1.1),
  λ k m. elim (below n set k m) [
    | inl x ↦ r.2 k x
    | inr x ↦ absurd (false≢true (sym e ∙ subst (λ z. set z ≡ true) x m.1))
  ],
)
largest_by n set t (inr none) false e = inr (λ k m. elim (below n set k m) [
  | inl x ↦ none k x
  | inr x ↦ absurd (false≢true (sym e ∙ subst (λ z. set z ≡ true) x m.1))
])

largest_or : (n : ℕ) (set : ℕ → Bool) (t : ℕ → ℕ) → Largest n set t ⊎ ((k : ℕ) → In n set k → ⊥)
largest_or zero set t = inr (λ k m. let l : k < 0 = m.0 in omega arith)
largest_or (suc n) set t = largest_by n set t (largest_or n set t) (set n) refl

pub some_member : (n : ℕ) (set : ℕ → Bool) → majority_of n ≤ count_below set n → (q : ℕ) × In n set q
some_member n set enough =
    let all : HasMajority n (λ q. set q ≡ true) = record { members = set; enough = enough; each = λ q l m. m } in
    let x : (q : ℕ) × (q < n) × (set q ≡ true) × (set q ≡ true) = majorities_meet n (λ q. set q ≡ true) (λ q. set q ≡ true) all all in
    (x.0, (x.1, x.2))

-- in a majority there is such a node
pub largest : (n : ℕ) (set : ℕ → Bool) (t : ℕ → ℕ) → majority_of n ≤ count_below set n → Largest n set t
largest n set t enough = elim (largest_or n set t) [
  | inl r ↦ r
  | inr none ↦ (let x : (q : ℕ) × In n set q = some_member n set enough in absurd (none x.0 x.1))
]

-- a bound of numbers
pub bound : (n : ℕ) (f : ℕ → ℕ) → (b : ℕ) × ((q : ℕ) → q < n → f q ≤ b)
bound zero f = (0, λ q l. absurd (omega arith))
bound (suc n) f =
    let r : (b : ℕ) × ((q : ℕ) → q < n → f q ≤ b) = bound n f in (
      r.0 + f n,
      λ q l. elim (cases_lt q n) [
        | inl x ↦ (let y : f q ≤ r.0 = r.1 q x in omega arith)
        | inr x ↦ subst (λ z. f z ≤ r.0 + f n) (let z : n ≡ q = omega arith in z) (let y : f n ≤ r.0 + f n = omega arith in y)
      ],
    )

-- a round for the nodes of the set, by where they stand, and its coordinator, whose stamp is largest
pub record Plan (n : ℕ) (set : ℕ → Bool) (S : ℕ → Option Standing) : Type 0 where
  pub p : ℕ
  pub member : In n set p
  pub r : ℕ
  pub coordinates : p ≡ coordinator_of r n
  pub later : (q : ℕ) → In n set q → round_of (S q) < r
  pub above_stamps : (q : ℕ) → In n set q → stamp_of (S q) < r
  pub largest : (q : ℕ) → In n set q → stamp_of (S q) ≤ stamp_of (S p)
  pub enough : majority_of n ≤ count_below set n
  pub undecided : (q : ℕ) → In n set q → IsTrue (is_undecided (S q))

beyond : (b n : ℕ) → 1 ≤ n → b < (b + 1) * n
beyond b zero l = absurd (omega arith)
beyond b (suc n) l = grind arith

-- there is one
pub plan : (n : ℕ) (set : ℕ → Bool) (S : ℕ → Option Standing) → majority_of n ≤ count_below set n → ((q : ℕ) → In n set q → IsTrue (is_undecided (S q))) → Plan n set S
plan n set S enough undecided =
    let x : Largest n set (λ q. stamp_of (S q)) = largest n set (λ q. stamp_of (S q)) enough in
    let b : (b : ℕ) × ((q : ℕ) → q < n → round_of (S q) + stamp_of (S q) ≤ b) = bound n (λ q. round_of (S q) + stamp_of (S q)) in
    let exists : x.0 < n = x.1.0 in
    let far : b.0 < (b.0 + 1) * n = beyond b.0 n (omega arith) in
    record {
      p = x.0;
      member = x.1;
      r = (b.0 + 1) * n + x.0;
      coordinates = sym (mod-mul-add (b.0 + 1) n x.0 exists);
      later = λ q m. let y : round_of (S q) + stamp_of (S q) ≤ b.0 = b.1 q m.0 in omega arith;
      above_stamps = λ q m. let y : round_of (S q) + stamp_of (S q) ≤ b.0 = b.1 q m.0 in omega arith;
      largest = x.2;
      enough = enough;
      undecided = undecided;
    }

decided_or : (s : Option Standing) → ((v : Command) × (s ≡ Some (Decided v))) ⊎ IsTrue (is_undecided s)
decided_or None = inr refl
decided_or (Some (Decided v)) = inl (v, refl)
decided_or (Some (Open o)) = inr refl

-- some node of the set has decided, or none has
pub some_decided : (n : ℕ) (set : ℕ → Bool) (S : ℕ → Option Standing) → ((q : ℕ) × In n set q × (v : Command) × (S q ≡ Some (Decided v))) ⊎ ((q : ℕ) → In n set q → IsTrue (is_undecided (S q)))
some_decided zero set S = inr (λ q m. let l : q < 0 = m.0 in absurd (omega arith))
some_decided (suc n) set S = elim (some_decided n set S) [
  | inl x ↦ inl (x.0, (let y : x.0 < n = x.1.0 in omega arith, x.1.1), x.2, x.3)
  | inr none ↦ by none (set n) refl (decided_or (S n))
]
  where
    by : ((q : ℕ) → In n set q → IsTrue (is_undecided (S q))) → (b : Bool) → set n ≡ b → ((v : Command) × (S n ≡ Some (Decided v))) ⊎ IsTrue (is_undecided (S n)) → ((q : ℕ) × In (suc n) set q × (v : Command) × (S q ≡ Some (Decided v))) ⊎ ((q : ℕ) → In (suc n) set q → IsTrue (is_undecided (S q)))
    by none true e (inl d) = inl (n, (omega arith, e), d.0, d.1)
    by none b e (inr u) = inr (λ q m. elim (below n set q m) [
      | inl x ↦ none q x
      | inr x ↦ subst (λ z. IsTrue (is_undecided (S z))) (sym x) u
    ])
    by none false e (inl d) = inr (λ q m. elim (below n set q m) [
      | inl x ↦ none q x
      | inr x ↦ absurd (false≢true (sym e ∙ subst (λ z. set z ≡ true) x m.1))
    ])
