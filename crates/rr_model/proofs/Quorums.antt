-- Two sets with more than n members below n meet, and so do two majorities.
use Rattle.std.proofs.Common.{◌≡◌, ℕ, ◌+◌, ◌<◌, zero, suc, Bool, true, false, if◌then◌else◌, refl, arith}
use Rattle.rr_model.specs.Lawful.{count_below, HasMajority}

-- a node below n that is in both sets
pub record InBoth (a b : ℕ → Bool) (n : ℕ) : Type 0 where
  pub node : ℕ
  pub exists : node < n
  pub first : a node ≡ true
  pub second : b node ≡ true

meet_one : (a b : ℕ → Bool) (n : ℕ) (x y : Bool) → a n ≡ x → b n ≡ y → suc n < (if x then suc (count_below a n) else count_below a n) + (if y then suc (count_below b n) else count_below b n) → (n < count_below a n + count_below b n → InBoth a b n) → InBoth a b (suc n)
meet_one a b n true true p q l ih = record { node = n; exists = omega arith; first = p; second = q }
meet_one a b n true false p q l ih = let r : InBoth a b n = ih (omega arith) in record { node = r.node; exists = let h : r.node < n = r.exists in omega arith; first = r.first; second = r.second }
meet_one a b n false true p q l ih = let r : InBoth a b n = ih (omega arith) in record { node = r.node; exists = let h : r.node < n = r.exists in omega arith; first = r.first; second = r.second }
meet_one a b n false false p q l ih = let r : InBoth a b n = ih (omega arith) in record { node = r.node; exists = let h : r.node < n = r.exists in omega arith; first = r.first; second = r.second }

-- two sets with more than n members below n have one in common
pub meet : (a b : ℕ → Bool) (n : ℕ) → n < count_below a n + count_below b n → InBoth a b n
meet a b zero l = absurd (omega arith)
meet a b (suc n) l = meet_one a b n (a n) (b n) refl refl l (meet a b n)

-- two majorities have a node in common
pub majorities_meet : (n : ℕ) (P Q : ℕ → Type 0) → (f : HasMajority n P) → (g : HasMajority n Q) → (q : ℕ) × (q < n) × P q × Q q
majorities_meet n P Q f g =
    let r : InBoth f.members g.members n = meet f.members g.members n (omega (arith, f.enough, g.enough)) in
    (r.node, r.exists, f.each r.node r.exists r.first, g.each r.node r.exists r.second)

-- a majority of one property is one of a weaker property
pub majority_of_weaker : (n : ℕ) (P Q : ℕ → Type 0) → ((q : ℕ) → P q → Q q) → HasMajority n P → HasMajority n Q
majority_of_weaker n P Q w f = record { members = f.members; enough = f.enough; each = λ q l m. w q (f.each q l m) }
