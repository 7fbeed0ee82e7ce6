-- Steps in which words are printed.
use Rattle.std.proofs.Common.{decimal, map, ◌≡◌, ℕ, suc, ◌+◌, ◌-◌, ◌/◌, ◌%◌, ◌<◌, ◌≤◌, cond, eqb, List, [], ◌∷◌, ◌++◌, length, get_or, drop, refl, ap, ◌∙◌, sym, arith}
use Rattle.std.specs.List.{flat_map}
use Rattle.std.proofs.lemmas.Fmt.{decimal_digit, decimal_step}
use Rattle.std.proofs.lemmas.List.{at_drop_more, at_drop_all, append_assoc, append-nil}
use Rattle.rr_types.specs.declared.command.Command.{Command}
use Rattle.rr_types.specs.declared.binding.Binding.{Binding}
use Rattle.rr_text.specs.Words.{spaced, member_digits, hex_pair}
use Rattle.rr_text.specs.ReportTexts.{binding_text, line, command_words, decided_lines}

pub member_digits_step : (p bits : ℕ) → p < 7 → member_digits p (7 - p) bits ≡ cond (eqb (bits % 2) 1) ((48 + p) ∷ member_digits (p + 1) (7 - (p + 1)) (bits / 2)) (member_digits (p + 1) (7 - (p + 1)) (bits / 2))
member_digits_step p bits lt = let e : 7 - p ≡ suc (7 - (p + 1)) = omega arith in rw e refl

pub member_digits_end : (p bits : ℕ) → p ≡ 7 → member_digits p (7 - p) bits ≡ []
member_digits_end p bits e = let f : 7 - p ≡ 0 = omega arith in rw f refl

-- one more byte of a fill is printed
pub pairs_more : (out total : List ℕ) (bytes : List ℕ) (i : ℕ) → i < length bytes → out ++ flat_map hex_pair (drop i bytes) ≡ total → (out ++ hex_pair (get_or bytes i 0)) ++ flat_map hex_pair (drop (i + 1) bytes) ≡ total
pairs_more out total bytes i lt so_far =
    append_assoc out (hex_pair (get_or bytes i 0)) (flat_map hex_pair (drop (i + 1) bytes)) ∙ ap (λ (x : List ℕ). out ++ x) (sym (at_drop_more (flat_map hex_pair) bytes i 0 lt)) ∙ so_far

-- a member's digit is printed
pub members_one : (out : List ℕ) (p bits : ℕ) → p < 7 → bits % 2 ≡ 1 → (out ++ (48 + p) ∷ []) ++ member_digits (p + 1) (7 - (p + 1)) (bits / 2) ≡ out ++ member_digits p (7 - p) bits
members_one out p bits lt odd =
    let e : member_digits p (7 - p) bits ≡ (48 + p) ∷ member_digits (p + 1) (7 - (p + 1)) (bits / 2) = member_digits_step p bits lt ∙ rw odd refl in
    rw e (append_assoc out ((48 + p) ∷ []) (member_digits (p + 1) (7 - (p + 1)) (bits / 2)))

-- words after a first one
pub spaced_words : {X : Type 0} (f : X → List ℕ) (w : List ℕ) (xs : List X) → spaced (w ∷ map f xs) ≡ w ++ flat_map (λ x. 32 ∷ f x) xs
spaced_words f w [] = sym (append-nil w)
spaced_words f w (x ∷ xs) = ap (λ (t : List ℕ). w ++ 32 ∷ t) (spaced_words f (f x) xs)

-- one more of a list is printed
pub flat_map_on : {X : Type 0} (f : X → List ℕ) (out total : List ℕ) (xs : List X) (i : ℕ) (d x : X) → i < length xs → x ≡ get_or xs i d → out ++ flat_map f (drop i xs) ≡ total → (out ++ f x) ++ flat_map f (drop (i + 1) xs) ≡ total
flat_map_on f out total xs i d x lt is so_far =
    append_assoc out (f x) (flat_map f (drop (i + 1) xs)) ∙ ap (λ y. out ++ (f y ++ flat_map f (drop (i + 1) xs))) is ∙ ap (λ (y : List ℕ). out ++ y) (sym (at_drop_more (flat_map f) xs i d lt)) ∙ so_far

pub flat_map_end : {X : Type 0} (f : X → List ℕ) (out total : List ℕ) (xs : List X) (i : ℕ) → length xs ≤ i → out ++ flat_map f (drop i xs) ≡ total → out ≡ total
flat_map_end f out total xs i le so_far = sym (append-nil out) ∙ ap (λ (y : List ℕ). out ++ y) (sym (at_drop_all (flat_map f) xs i le)) ∙ so_far

pub decided_on : (out total : List ℕ) (cs : List Command) (i : ℕ) (d c : Command) → i < length cs → c ≡ get_or cs i d → out ++ decided_lines i (drop i cs) ≡ total → (out ++ line (decimal i ∷ command_words c)) ++ decided_lines (i + 1) (drop (i + 1) cs) ≡ total
decided_on out total cs i d c lt is so_far =
    append_assoc out (line (decimal i ∷ command_words c)) (decided_lines (i + 1) (drop (i + 1) cs)) ∙ ap (λ y. out ++ (line (decimal i ∷ command_words y) ++ decided_lines (i + 1) (drop (i + 1) cs))) is ∙ ap (λ (y : List ℕ). out ++ y) (sym (at_drop_more (decided_lines i) cs i d lt)) ∙ so_far

pub decided_end : (out total : List ℕ) (cs : List Command) (i j : ℕ) → length cs ≤ i → out ++ decided_lines j (drop i cs) ≡ total → out ≡ total
decided_end out total cs i j le so_far = sym (append-nil out) ∙ ap (λ (y : List ℕ). out ++ y) (sym (at_drop_all (decided_lines j) cs i le)) ∙ so_far

-- the count of decided commands, then the bound names
pub registry_words : (out : List ℕ) (decided : ℕ) (bs : List Binding) → (out ++ 32 ∷ decimal decided) ++ flat_map (λ b. 32 ∷ binding_text b) bs ≡ out ++ 32 ∷ spaced (decimal decided ∷ map binding_text bs)
registry_words out decided bs = append_assoc out (32 ∷ decimal decided) (flat_map (λ b. 32 ∷ binding_text b) bs) ∙ ap (λ (t : List ℕ). out ++ 32 ∷ t) (sym (spaced_words binding_text (decimal decided) bs))

-- the end of a refusal's line, whose number has one digit or is 10 to 19
pub one_digit : (n : ℕ) (name : List ℕ) → n < 10 → 32 ∷ (48 + n) ∷ 32 ∷ name ++ 10 ∷ [] ≡ 32 ∷ decimal n ++ 32 ∷ name ++ 10 ∷ []
one_digit n name lt = rw (decimal_digit n lt) refl

pub two_digits : (d : ℕ) (name : List ℕ) → d < 10 → 32 ∷ 49 ∷ (48 + d) ∷ 32 ∷ name ++ 10 ∷ [] ≡ 32 ∷ decimal (10 + d) ++ 32 ∷ name ++ 10 ∷ []
two_digits d name lt =
    let tens : (10 + d) / 10 ≡ 1 = omega arith in
    let ones : (10 + d) % 10 ≡ d = omega arith in
    let both : decimal (10 + d) ≡ 49 ∷ (48 + d) ∷ [] = decimal_step (10 + d) (omega arith) (omega arith) ∙ rw (tens, ones, decimal_digit 1 (omega arith)) refl in
    rw both refl
