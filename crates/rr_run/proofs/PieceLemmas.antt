-- A text that is written piece by piece, each behind the one before.
use Rattle.std.proofs.Common.{◌≡◌, ◌++◌, ◌∙◌, List, ℕ, ap, append_assoc}

-- a piece, and the rest behind it
pub piece : (old first rest mid new : List ℕ) → mid ≡ old ++ first → new ≡ mid ++ rest → new ≡ old ++ (first ++ rest)
piece old first rest mid new p q = q ∙ ap (λ (l : List ℕ). l ++ rest) p ∙ append_assoc old first rest

-- the same, of a piece that is known by another name
pub piece_so : (old first same rest mid new : List ℕ) → same ≡ first → mid ≡ old ++ same → new ≡ mid ++ rest → new ≡ old ++ (first ++ rest)
piece_so old first same rest mid new is p q = piece old first rest mid new (p ∙ ap (λ (l : List ℕ). old ++ l) is) q
