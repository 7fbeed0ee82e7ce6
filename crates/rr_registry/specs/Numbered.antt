-- Values numbered one after another, and lists whose numbers ascend.
use Rattle.std.specs.Prelude.{◌≡◌, ℕ, ◌+◌, ◌≤◌, List, [], ◌∷◌}

module _ {V : Type 0} where
  -- values, numbered one after another
  abbrev pub numbered : ℕ → List V → List (ℕ × V)
  numbered i [] = []
  numbered i (x ∷ xs) = (i, x) ∷ numbered (i + 1) xs

  -- the numbers ascend from one on
  abbrev pub AscendFrom : ℕ → List (ℕ × V) → Type 0
  AscendFrom low [] = Unit {0}
  AscendFrom low (e ∷ es) = (low ≤ e.0) × AscendFrom (e.0 + 1) es

  -- the first number
  abbrev pub IsFirst : ℕ → List (ℕ × V) → Type 0
  IsFirst k [] = ⊥
  IsFirst k (e ∷ es) = e.0 ≡ k
