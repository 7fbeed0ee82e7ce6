-- Texts that grow by several pieces.
use Rattle.std.proofs.Common.{◌≡◌, ℕ, List, ◌++◌, ap, ◌∙◌, append_assoc}

pub three_more : (old a b c first second new : List ℕ) → first ≡ old ++ a → second ≡ first ++ b → new ≡ second ++ c → new ≡ old ++ (a ++ b ++ c)
three_more old a b c first second new one two three =
    three ∙ ap (λ (t : List ℕ). t ++ c) (two ∙ ap (λ (t : List ℕ). t ++ b) one ∙ append_assoc old a b) ∙ append_assoc old (a ++ b) c

pub four_more : (old a b c d first second third new : List ℕ) → first ≡ old ++ a → second ≡ first ++ b → third ≡ second ++ c → new ≡ third ++ d → new ≡ old ++ (a ++ b ++ c ++ d)
four_more old a b c d first second third new one two three four =
    four ∙ ap (λ (t : List ℕ). t ++ d) (three_more old a b c first second third one two three) ∙ append_assoc old (a ++ b ++ c) d

pub five_more : (old a b c d e first second third fourth new : List ℕ) → first ≡ old ++ a → second ≡ first ++ b → third ≡ second ++ c → fourth ≡ third ++ d → new ≡ fourth ++ e
    → new ≡ old ++ (a ++ b ++ c ++ d ++ e)
five_more old a b c d e first second third fourth new one two three four five =
    five ∙ ap (λ (t : List ℕ). t ++ e) (four_more old a b c d first second third fourth one two three four) ∙ append_assoc old (a ++ b ++ c ++ d) e
