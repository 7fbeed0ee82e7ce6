-- Beginnings of a list that grow by an element.
use Rattle.std.proofs.Common.{◌≡◌, ℕ, zero, suc, arith, ◌+◌, List, [], ◌∷◌, ◌++◌, length, take, refl, ap, ◌∙◌, sym, Some, append_assoc}
use mathlib.Core.List.{IsPrefix}
use Rattle.std.specs.Prelude.{slice_get}
use Rattle.std.proofs.lemmas.List.{take_more}
use Rattle.std.proofs.lemmas.Option.{slice_get_within, get_or_from_slice_get}

pub prefix_take : {A : Type 0} (n : ℕ) (xs : List A) → IsPrefix (take n xs) xs
prefix_take zero xs = (xs, refl)
prefix_take (suc n) [] = ([], refl)
prefix_take (suc n) (x ∷ xs) = let p = prefix_take n xs in (p.0, ap (λ ys. x ∷ ys) p.1)

-- what is at a place ends the elements up to it
pub take_get : {A : Type 0} (xs : List A) (n : ℕ) (x : A) → slice_get xs n ≡ Some x → take (n + 1) xs ≡ take n xs ++ x ∷ []
take_get {A} xs n x e = take_more xs n x (slice_get_within xs n x e) ∙ ap (λ (y : A). take n xs ++ y ∷ []) (get_or_from_slice_get xs n x x e)

pub length_more : {A : Type 0} (xs : List A) (x : A) → length (xs ++ x ∷ []) ≡ length xs + 1
length_more [] x = refl
length_more (y ∷ ys) x = let e = length_more ys x in omega arith

pub prefix_more : {A : Type 0} (xs ys : List A) (x : A) → IsPrefix xs ys → IsPrefix xs (ys ++ x ∷ [])
prefix_more xs ys x p = (p.0 ++ x ∷ [], sym (append_assoc xs p.0 (x ∷ [])) ∙ ap (λ zs. zs ++ x ∷ []) p.1)
