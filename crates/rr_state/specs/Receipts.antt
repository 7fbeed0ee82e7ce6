-- Whom the completeness reduction suspects after a list of received sets, and what it must do: complete, and inventing nothing.
use Rattle.std.specs.Prelude.{◌≡◌, ◌≢◌, ℕ, ◌<◌, ◌↔◌, ◌⊎◌, IsTrue, false, List, [], ◌∷◌}
use Rattle.rr_types.specs.Nodes.{has_member}
use Rattle.rr_model.specs.NodeDetector.{reduced}

-- a node has told whom it suspects
pub record Receipt : Type 0 where
  pub from : ℕ
  pub set : ℕ

-- the output after these receipts, from a set on
abbrev pub output_after : ℕ → List Receipt → ℕ
output_after s [] = s
output_after s (r ∷ rs) = output_after (reduced s r.from r.set) rs

-- no receipt came from node c
abbrev pub IsSilent : ℕ → List Receipt → Type 0
IsSilent c [] = Unit {0}
IsSilent c (r ∷ rs) = (r.from ≢ c) × IsSilent c rs

-- some receipt's set holds c, and neither that receipt nor a later one came from c
abbrev pub IsTold : ℕ → List Receipt → Type 0
IsTold c [] = ⊥
IsTold c (r ∷ rs) = (IsTrue (has_member r.set c) × IsSilent c (r ∷ rs)) ⊎ IsTold c rs

-- some receipt's set holds c
abbrev pub IsNamed : ℕ → List Receipt → Type 0
IsNamed c [] = ⊥
IsNamed c (r ∷ rs) = IsTrue (has_member r.set c) ⊎ IsNamed c rs

-- the output has c exactly where the set held it and no receipt came from c, or it was told
abbrev pub IsWhatWasTold : ℕ → ℕ → List Receipt → Type 0
IsWhatWasTold s c rs = c < 7 → IsTrue (has_member (output_after s rs) c) ↔ ((IsTrue (has_member s c) × IsSilent c rs) ⊎ IsTold c rs)

-- where nothing comes from c and one set holds it, the output has c at the end
abbrev pub IsCompleteOver : ℕ → ℕ → List Receipt → Type 0
IsCompleteOver s c rs = c < 7 → IsSilent c rs → IsNamed c rs → IsTrue (has_member (output_after s rs) c)

-- a node in no set that was received, and not in the output before, stays out
abbrev pub InventsNothing : ℕ → ℕ → List Receipt → Type 0
InventsNothing s c rs = c < 7 → (IsNamed c rs → ⊥) → has_member s c ≡ false → has_member (output_after s rs) c ≡ false
