-- Where a line ends, by a search for its line feed.
use Rattle.std.proofs.Common.{◌≡◌, ℕ, ◌<◌, ◌≤◌, arith, Bool, true, false, ◌==◌, List, length, get_or, refl, Option, Some, None}
use Rattle.std.specs.List.{position, position_or_len}
use Rattle.std.proofs.lemmas.Bool.{lt-ltb, le-ltb}
use Rattle.std.proofs.lemmas.List.Sums.{position_or_len_is}
use Rattle.memchr.specs.Find.{IsFirstByte, is_byte, Passes}

no_pass : (c : ℕ) (xs : List ℕ) (k : ℕ) → ¬ Passes (is_byte c) xs k → is_byte c (get_or xs k 0) ≡ false
no_pass c xs k n = by (is_byte c (get_or xs k 0)) refl
  where
    by : (b : Bool) → is_byte c (get_or xs k 0) ≡ b → b ≡ false
    by true e = absurd (n e)
    by false e = refl

-- the first place at which a search finds a byte is its position
pub first_is_position : (c : ℕ) (xs : List ℕ) (r : Option ℕ) → IsFirstByte (is_byte c) xs r → r ≡ position (λ b. b == c) xs
first_is_position c xs None nowhere =
    let end : position_or_len (is_byte c) xs ≡ length xs = position_or_len_is (is_byte c) xs (length xs) 0 (omega arith) (λ k l. no_pass c xs k (nowhere k (omega arith) l)) (λ l. absurd (omega arith)) in
    rw end (rw (le-ltb (length xs) (length xs) (omega arith)) refl)
first_is_position c xs (Some i) found =
    let at : position_or_len (is_byte c) xs ≡ i = position_or_len_is (is_byte c) xs i 0 (let h = found.0.high in omega arith) (λ k l. no_pass c xs k (found.0.before k (omega arith) l)) (λ l. found.1) in
    rw at (rw (lt-ltb i (length xs) found.0.high) refl)
