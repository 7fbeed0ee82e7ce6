-- Clients get places, one after another.
use Rattle.std.proofs.Common.{◌≡◌, ◌∙◌, ◌++◌, ◌∷◌, [], ◌+◌, ℕ, zero, suc, List, length, refl, sym, ap, arith}
use Rattle.std.specs.Prelude.{map}
use Rattle.std.specs.List.{range_with_len}

range_more : (a n : ℕ) → range_with_len a (suc n) ≡ range_with_len a n ++ (a + n) ∷ []
range_more a zero = let e : a ≡ a + 0 = omega arith in ap (λ k. k ∷ []) e
range_more a (suc n) = let e : (a + 1) + n ≡ a + suc n = omega arith in ap (λ l. a ∷ l) (range_more (a + 1) n ∙ ap (λ k. range_with_len (a + 1) n ++ k ∷ []) e)

map_more : {A B : Type 0} (f : A → B) (xs : List A) (x : A) → map f (xs ++ x ∷ []) ≡ map f xs ++ f x ∷ []
map_more f [] x = refl
map_more f (y ∷ ys) x = ap (λ l. f y ∷ l) (map_more f ys x)

-- one more is longer by one
pub length_more : {A : Type 0} (xs : List A) (x : A) → length (xs ++ x ∷ []) ≡ suc (length xs)
length_more [] x = refl
length_more (y ∷ ys) x = ap (λ n. suc n) (length_more ys x)

-- one more gets the next place
pub place_more : {A : Type 0} (f : A → ℕ) (xs : List A) (x : A) → map f xs ≡ range_with_len 0 (length xs) → f x ≡ length xs
    → map f (xs ++ x ∷ []) ≡ range_with_len 0 (length (xs ++ x ∷ []))
place_more f xs x row is =
    let same : length xs ≡ 0 + length xs = omega arith in
    map_more f xs x ∙ ap (λ l. l ++ f x ∷ []) row ∙ ap (λ k. range_with_len 0 (length xs) ++ k ∷ []) (is ∙ same)
    ∙ sym (range_more 0 (length xs)) ∙ ap (λ n. range_with_len 0 n) (sym (length_more xs x))

-- one more has come, and one fewer is left
pub left_fewer : {A B : Type 0} (f : A → B) (xs : List A) (x : A) (rest : List B) → map f (xs ++ x ∷ []) ++ rest ≡ map f xs ++ (f x ∷ rest)
left_fewer f [] x rest = refl
left_fewer f (y ∷ ys) x rest = ap (λ l. f y ∷ l) (left_fewer f ys x rest)
