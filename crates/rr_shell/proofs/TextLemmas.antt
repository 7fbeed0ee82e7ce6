-- Texts that are appended in parts.
use Rattle.std.proofs.Common.{◌≡◌, ◌∙◌, ℕ, List, ◌∷◌, ◌++◌, ap, append_assoc, decimal}

pub with_number : (old text new : List ℕ) (mid : List ℕ) (m n : ℕ) → mid ≡ old ++ text → m ≡ n → new ≡ mid ++ 32 ∷ decimal m → new ≡ old ++ (text ++ 32 ∷ decimal n)
with_number old text new mid m n first same second =
    second ∙ ap (λ (l : List ℕ). l ++ 32 ∷ decimal m) first ∙ append_assoc old text (32 ∷ decimal m) ∙ ap (λ (k : ℕ). old ++ (text ++ 32 ∷ decimal k)) same

pub in_parts : (old front rest mid new : List ℕ) → mid ≡ old ++ front → new ≡ mid ++ rest → new ≡ old ++ (front ++ rest)
in_parts old front rest mid new first second = second ∙ ap (λ (l : List ℕ). l ++ rest) first ∙ append_assoc old front rest

pub in_three : (old a b c m1 m2 new : List ℕ) → m1 ≡ old ++ a → m2 ≡ m1 ++ b → new ≡ m2 ++ c → new ≡ old ++ (a ++ (b ++ c))
in_three old a b c m1 m2 new first second third = in_parts old a (b ++ c) m1 new first (in_parts m1 b c m2 new second third)

pub in_four : (old a b c d m1 m2 m3 new : List ℕ) → m1 ≡ old ++ a → m2 ≡ m1 ++ b → m3 ≡ m2 ++ c → new ≡ m3 ++ d → new ≡ old ++ (a ++ (b ++ (c ++ d)))
in_four old a b c d m1 m2 m3 new first second third fourth = in_parts old a (b ++ (c ++ d)) m1 new first (in_three m1 b c d m2 m3 new second third fourth)
