-- Two lists that are compared place by place.
use Rattle.std.proofs.Common.{◌≡◌, ◌∙◌, ◌+◌, ◌≤◌, ◌<◌, ℕ, true, false, Bool, List, [], ◌∷◌, None, Some, length, drop, take, refl, subst, ap, inl, inr, arith}
use Rattle.std.specs.Prelude.{slice_get}
use Rattle.std.specs.List.{All}
use Rattle.std.proofs.Math.ListN.{get_or}
use Rattle.std.proofs.lemmas.List.{take_all}
use Rattle.std.proofs.lemmas.List.Elements.{All-more, All-weaker}
use Rattle.std.proofs.lemmas.List.{at_drop_more, at_drop_all}
use Rattle.std.proofs.lemmas.Option.{slice_get_within, slice_get_cases, get_or_from_slice_get}
use Rattle.rr_types.specs.Commands.{is_same_command}
use Rattle.rr_types.specs.declared.command.Command.{Command}
use Rattle.rr_threads.specs.Agreeing.{do_agree, AgreeWithOne}

-- what is left of a list at a place begins with the command there
left_at : (F : List Command → Bool) (list : List Command) (n : ℕ) (c : Command) → slice_get list n ≡ Some c → F (drop n list) ≡ F (c ∷ drop (n + 1) list)
left_at F list n c found = at_drop_more F list n c (slice_get_within list n c found) ∙ ap (λ (d : Command). F (d ∷ drop (n + 1) list)) (get_or_from_slice_get list n c c found)

-- the comparison at a place is that of the two commands there, and goes on behind them
both_at : (xs ys : List Command) (n : ℕ) (c d : Command) → slice_get xs n ≡ Some c → slice_get ys n ≡ Some d → do_agree (drop n xs) (drop n ys) ≡ do_agree (c ∷ drop (n + 1) xs) (d ∷ drop (n + 1) ys)
both_at xs ys n c d p q = left_at (λ zs. do_agree zs (drop n ys)) xs n c p ∙ left_at (λ zs. do_agree (c ∷ drop (n + 1) xs) zs) ys n d q

pub agree_on : (xs ys : List Command) (n : ℕ) (c d : Command) → slice_get xs n ≡ Some c → slice_get ys n ≡ Some d → is_same_command c d ≡ true → do_agree (drop n xs) (drop n ys) ≡ do_agree (drop (n + 1) xs) (drop (n + 1) ys)
agree_on xs ys n c d p q same = both_at xs ys n c d p q ∙ rw same refl

pub differ_at : (xs ys : List Command) (n : ℕ) (c d : Command) → slice_get xs n ≡ Some c → slice_get ys n ≡ Some d → is_same_command c d ≡ false → do_agree (drop n xs) (drop n ys) ≡ false
differ_at xs ys n c d p q other = both_at xs ys n c d p q ∙ rw other refl

nothing_left : (xs : List Command) → do_agree xs [] ≡ true
nothing_left [] = refl
nothing_left (x ∷ xs) = refl

-- no place is left in the other list
pub agree_past : (xs ys : List Command) (n : ℕ) → slice_get ys n ≡ None → do_agree (drop n xs) (drop n ys) ≡ true
agree_past xs ys n none =
    elim ((slice_get_cases ys n).1) [
      | inl found ↦ let is = none in let has = found.2 in absurd cc
      | inr past ↦ at_drop_all (λ zs. do_agree (drop n xs) zs) ys n past.0 ∙ nothing_left (drop n xs)
    ]

-- no place is left in the first
pub agree_end : (xs ys : List Command) (n : ℕ) → length xs ≤ n → do_agree (drop n xs) (drop n ys) ≡ true
agree_end xs ys n past = at_drop_all (λ zs. do_agree zs (drop n ys)) xs n past

-- one more list is no longer than the longest so far, which has grown perhaps
pub none_longer : {X : Type 0} (xs : List X) (f : X → ℕ) (i a b : ℕ) (x : X) → i < length xs → x ≡ get_or xs i x → a ≤ b → f x ≤ b → All (λ p. f p ≤ a) (take i xs) → All (λ p. f p ≤ b) (take (i + 1) xs)
none_longer xs f i a b x within is grown here all =
    All-more (λ p. f p ≤ b) xs i x within (All-weaker (λ p. f p ≤ a) (λ p. f p ≤ b) (λ p few. omega (arith, few, grown)) (take i xs) all) (subst (λ y. f y ≤ b) is here)

-- one more list agrees
pub agrees_too : {X : Type 0} (xs : List X) (f : X → List Command) (whole : List Command) (i : ℕ) (x : X) → i < length xs → x ≡ get_or xs i x → do_agree (f x) whole ≡ true
    → All (λ p. do_agree (f p) whole ≡ true) (take i xs) → All (λ p. do_agree (f p) whole ≡ true) (take (i + 1) xs)
agrees_too xs f whole i x within is here all = All-more (λ p. do_agree (f p) whole ≡ true) xs i x within all (subst (λ y. do_agree (f y) whole ≡ true) is here)

-- one more list is empty
pub empty_too : {X : Type 0} (xs : List X) (f : X → List Command) (i : ℕ) (x : X) → i < length xs → x ≡ get_or xs i x → f x ≡ []
    → All (λ p. f p ≡ []) (take i xs) → All (λ p. f p ≡ []) (take (i + 1) xs)
empty_too xs f i x within is here all = All-more (λ p. f p ≡ []) xs i x within all (subst (λ y. f y ≡ []) is here)

-- empty lists agree with one another
pub none_to_agree : {X : Type 0} (xs : List X) (f : X → List Command) → All (λ p. f p ≡ []) xs → AgreeWithOne f xs
none_to_agree xs f all =
    let short : (p : _) → f p ≡ [] → length (f p) ≤ 0 = λ p none. omega (arith, ap length none) in
    let fits : (p : _) → f p ≡ [] → do_agree (f p) [] ≡ true = λ p none. ap (λ list. do_agree list []) none in
    ([], All-weaker (λ p. f p ≡ []) (λ p. length (f p) ≤ 0) short xs all, All-weaker (λ p. f p ≡ []) (λ p. do_agree (f p) [] ≡ true) fits xs all)

-- what holds of all that were seen holds of all, at the end
pub of_all : {X : Type 0} (xs : List X) (P : X → Type 0) (i : ℕ) → length xs ≤ i → All P (take i xs) → All P xs
of_all xs P i past all = subst (All P) (take_all i xs past) all
