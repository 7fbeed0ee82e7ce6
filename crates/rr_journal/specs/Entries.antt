-- Entries in two parts: those of the first instances without a gap, and those beyond.
use Rattle.std.specs.Prelude.{◌≡◌, ℕ, ◌+◌, List, [], ◌∷◌, length}
use Rattle.std.specs.Map.{values_of}
use Rattle.rr_types.specs.declared.promise.Entry.{Entry}
use Rattle.rr_types.specs.Promises.{AscendsFrom}

-- the entries are those of all instances from one on
abbrev pub AreFirst : ℕ → List Entry → Type 0
AreFirst i [] = Unit {0}
AreFirst i (e ∷ es) = (e.instance ≡ i) × AreFirst (i + 1) es

-- each entry stands at its instance
abbrev pub AreEntered : List (ℕ × Entry) → Type 0
AreEntered [] = Unit {0}
AreEntered (e ∷ es) = (e.0 ≡ e.1.instance) × AreEntered es

-- the entries from instance 0 on without a gap, and the others by their instances
pub record AreParted (front : List Entry) (beyond : List (ℕ × Entry)) : Type 0 where
  pub first : AreFirst 0 front
  pub entered : AreEntered beyond
  pub behind : AscendsFrom (length front) (values_of beyond)

-- the first entry stands at this instance
abbrev pub IsFirst : ℕ → List (ℕ × Entry) → Type 0
IsFirst k [] = ⊥
IsFirst k (e ∷ es) = e.0 ≡ k
