-- Numbers in decimal: reading gives what was printed, and what is read is printed so.
use Rattle.std.proofs.Common.{◌≡◌, ℕ, zero, suc, ◌+◌, ◌-◌, ◌*◌, ◌^◌, ◌<◌, ◌≤◌, Bool, true, false, cond, ltb, eqb, leb, not, ◌&&◌, List, [], ◌∷◌, length, get_or, take, None, Some, decimal, refl, ap, ◌∙◌, sym, arith, ◌⊎◌, inl, inr}
use Rattle.std.specs.List.{list_all}
use Rattle.std.specs.Char.{digit_value}
use Rattle.std.specs.Str.Parse.{digits_value}
use Rattle.std.proofs.lemmas.List.{take_all}
use Rattle.std.proofs.lemmas.Fmt.{digits_decimal, digits_value-decimal, decimal_nonempty, first_decimal, decimal-digits_value, decimal_digit}
use Rattle.std.proofs.lemmas.Int.Digits.{digits_value_more}
use Rattle.std.proofs.lemmas.Str.Parse.{IsNumeralModel, IsDigitsTest, numerals_by_value, digits_value-take-le}
use Rattle.std.proofs.lemmas.List.Folds.{list_all_more}
use Rattle.std.proofs.lemmas.List.Recursion.{and_at}
use Rattle.std.proofs.lemmas.Bool.{and_parts, and_from, leb-true, ltb-true, le-ltb, lt-ltb, le-leb, not-true, eqb-false, ne_eqb, cases_Bool}
use Rattle.std.proofs.lemmas.Bool.Decides.{nat_tests}
use Rattle.std.proofs.lemmas.Option.{same_Some, cond_some}
use Rattle.rr_text.specs.Reading.{number_at, small_at, node_at}
use Rattle.rr_text.proofs.CutLemmas.{AtLeast, bind_some}
use Rattle.rr_text.specs.Numbers.{is_digit, is_number}

-- a digit is one of ten bytes
digit_range : (b : ℕ) → is_digit b ≡ true → (48 ≤ b) × (b ≤ 57)
digit_range b h = let p = and_parts (leb 48 b) (leb b 57) h in (leb-true 48 b p.0, leb-true b 57 p.1)

digit_value_is : (b : ℕ) → 48 ≤ b → b ≤ 57 → digit_value b ≡ b - 48
digit_value_is b low high = grind (arith, nat_tests)

digit_at : (ds : List ℕ) (i : ℕ) → i < length ds → list_all is_digit ds ≡ true → is_digit (get_or ds i 0) ≡ true
digit_at ds i lt h = and_at (list_all is_digit) is_digit refl (λ _ _. refl) ds i 0 lt h

-- where the bytes before a digit are digits, so are those up to it
pub digits_tested : (ds : List ℕ) (i : ℕ) → i < length ds → list_all is_digit (take i ds) ≡ true → is_digit (get_or ds i 0) ≡ true → list_all is_digit (take (i + 1) ds) ≡ true
digits_tested ds i lt before here = list_all_more is_digit ds i 0 lt ∙ and_from _ _ before here

-- the number that the digits up to this one write
pub digits_on : (ds : List ℕ) (i v : ℕ) → i < length ds → is_digit (get_or ds i 0) ≡ true → v ≡ digits_value 10 (take i ds) → v * 10 + (get_or ds i 0 - 48) ≡ digits_value 10 (take (i + 1) ds)
digits_on ds i v lt h e =
    let r = digit_range (get_or ds i 0) h in
    let m = digits_value_more 10 ds i lt in
    let d = digit_value_is (get_or ds i 0) r.0 r.1 in
    rw e (sym (rw (← d) m))

-- where the digits up to this one are too many, all of them are
pub digits_over : (ds : List ℕ) (i v : ℕ) → i < length ds → list_all is_digit ds ≡ true → v ≡ digits_value 10 (take i ds) → ¬ (v * 10 + (get_or ds i 0 - 48) < 2 ^ 64) → ltb (digits_value 10 ds) (2 ^ 64) ≡ false
digits_over ds i v lt h e over =
    let n = digits_on ds i v lt (digit_at ds i lt h) e in
    let le = digits_value-take-le 10 ds (i + 1) (omega arith) in
    le-ltb _ _ (omega (arith, n, le))

-- a byte that is no digit, or one digit too many, ends it
pub digits_stop : (ds : List ℕ) (i v : ℕ) → i < length ds → v ≡ digits_value 10 (take i ds) → ¬ ((is_digit (get_or ds i 0) ≡ true) × (v * 10 + (get_or ds i 0 - 48) < 2 ^ 64))
    → cond (list_all is_digit ds) (cond (ltb (digits_value 10 ds) (2 ^ 64)) (Some (digits_value 10 ds)) None) None ≡ None
digits_stop ds i v lt e stop = elim (cases_Bool (list_all is_digit ds)) [
  | inl h ↦ let over = digits_over ds i v lt h e (λ l. stop (digit_at ds i lt h, l)) in rw (h, over) refl
  | inr h ↦ rw h refl
]

pub digits_end : (ds : List ℕ) (i v : ℕ) → length ds ≤ i → list_all is_digit (take i ds) ≡ true → v ≡ digits_value 10 (take i ds) → v < 2 ^ 64
    → cond (list_all is_digit ds) (cond (ltb (digits_value 10 ds) (2 ^ 64)) (Some (digits_value 10 ds)) None) None ≡ Some v
digits_end ds i v le tested e lt =
    let all : list_all is_digit ds ≡ true = ap (list_all is_digit) (sym (take_all i ds le)) ∙ tested in
    let w : v ≡ digits_value 10 ds = e ∙ ap (digits_value 10) (take_all i ds le) in
    rw (all, ← w, lt-ltb v (2 ^ 64) lt) refl

tells : IsDigitsTest (λ ds. list_all is_digit ds ≡ true)
tells = record {
  empty = refl;
  parts = λ c cs h. let p = and_parts (is_digit c) (list_all is_digit cs) h in (digit_range c p.0, p.1);
  more = λ c cs r h. and_from (is_digit c) (list_all is_digit cs) (and_from (leb 48 c) (leb c 57) (le-leb 48 c r.0) (le-leb c 57 r.1)) h;
}

-- all words of digits
own : IsNumeralModel (λ ds. list_all is_digit ds ≡ true) (digits_value 10)
own = numerals_by_value (λ ds. list_all is_digit ds ≡ true) tells

is_number_from : (ds : List ℕ) → list_all is_digit ds ≡ true → 0 < length ds → (get_or ds 0 0 ≡ 48 → length ds ≡ 1) → is_number ds ≡ true
is_number_from [] h some first = absurd (omega arith)
is_number_from (b ∷ []) h some first = h
is_number_from (b ∷ c ∷ w) h some first =
    let apart : eqb b 48 ≡ false = ne_eqb b 48 (λ e. omega (arith, first e)) in
    rw (apart, h) refl

is_number_gives : (ds : List ℕ) → is_number ds ≡ true → (list_all is_digit ds ≡ true) × (0 < length ds) × (get_or ds 0 0 ≡ 48 → length ds ≡ 1)
is_number_gives [] h = absurd cc
is_number_gives (b ∷ []) h = (h, omega arith, λ e. refl)
is_number_gives (b ∷ c ∷ w) h =
    let p = and_parts (not (eqb b 48)) (list_all is_digit (b ∷ c ∷ w)) h in
    (p.1, omega arith, λ e. absurd (eqb-false b 48 (not-true (eqb b 48) p.0) e))

-- the first digit of a number above 0 isn't 0
decimal_first : (n : ℕ) → n < 2 ^ 64 → get_or (decimal n) 0 0 ≡ 48 → length (decimal n) ≡ 1
decimal_first zero lt e = ap length (decimal_digit 0 (omega arith))
decimal_first (suc n) lt e = absurd (omega (arith, first_decimal (suc n) (omega arith) lt, e))

pub decimal_is_number : (n : ℕ) → n < 2 ^ 64 → is_number (decimal n) ≡ true
decimal_is_number n lt = is_number_from (decimal n) (digits_decimal own n lt) (decimal_nonempty n lt) (decimal_first n lt)

-- a number that is printed is read again
pub number_again : (n : ℕ) → n < 2 ^ 64 → number_at (decimal n) ≡ Some n
number_again n lt =
    let v : digits_value 10 (decimal n) ≡ n = digits_value-decimal own n lt in
    rw (decimal_is_number n lt, v, lt-ltb n (2 ^ 64) lt) refl

guarded : {A : Type 0} (a b : Bool) (x y : A) → cond a (cond b (Some x) None) None ≡ Some y → (a ≡ true) × (b ≡ true) × (x ≡ y)
guarded true true x y e = (refl, refl, same_Some x y e)
guarded true false x y e = absurd cc
guarded false b x y e = absurd cc

-- a number that is read is printed so
pub number_takes : (w : List ℕ) (n : ℕ) → number_at w ≡ Some n → (decimal n ≡ w) × (n < 2 ^ 64)
number_takes w n e =
    let g = guarded (is_number w) (ltb (digits_value 10 w) (2 ^ 64)) (digits_value 10 w) n e in
    let is = is_number_gives w g.0 in
    let lt : digits_value 10 w < 2 ^ 64 = ltb-true _ _ g.1 in
    let same : digits_value 10 w ≡ n = g.2 in
    (ap decimal (sym same) ∙ decimal-digits_value own w is.0 is.1 is.2 lt, omega (arith, lt, same))

pub small_again : (n : ℕ) → n < 2 ^ 32 → small_at (decimal n) ≡ Some n
small_again n lt = rw (number_again n (omega arith), lt-ltb n (2 ^ 32) lt) refl

pub small_takes : (w : List ℕ) (n : ℕ) → small_at w ≡ Some n → (decimal n ≡ w) × (n < 2 ^ 32)
small_takes w n e =
    let b = bind_some (number_at w) (λ m. cond (ltb m (2 ^ 32)) (Some m) None) n e in
    let g = cond_some (ltb b.0 (2 ^ 32)) b.0 n b.2 in
    let lt : b.0 < 2 ^ 32 = ltb-true _ _ g.0 in
    let t = number_takes w b.0 b.1 in
    (ap decimal (sym g.1) ∙ t.0, omega (arith, lt, g.1))

pub node_again : (n p : ℕ) → n ≤ 7 → p < n → node_at n (decimal p) ≡ Some p
node_again n p few lt =
    let d : decimal p ≡ (48 + p) ∷ [] = decimal_digit p (omega arith) in
    let low : leb 48 (48 + p) ≡ true = le-leb 48 (48 + p) (omega arith) in
    let back : 48 + p - 48 ≡ p = omega arith in
    rw (d, low, back, lt-ltb p n lt) refl

pub node_takes : (n : ℕ) (w : List ℕ) (p : ℕ) → n ≤ 7 → node_at n w ≡ Some p → (decimal p ≡ w) × (p < n)
node_takes n [] p few e = absurd cc
node_takes n (b ∷ []) p few e =
    let g = cond_some (leb 48 b && ltb (b - 48) n) (b - 48) p e in
    let q = and_parts (leb 48 b) (ltb (b - 48) n) g.0 in
    let low : 48 ≤ b = leb-true 48 b q.0 in
    let lt : b - 48 < n = ltb-true _ _ q.1 in
    let is : 48 + p ≡ b = omega (arith, low, g.1) in
    (decimal_digit p (omega (arith, lt, g.1)) ∙ ap (λ c. c ∷ []) is, omega (arith, lt, g.1))
node_takes n (b ∷ c ∷ w) p few e = absurd cc

digits_plain : (ds : List ℕ) → list_all is_digit ds ≡ true → AtLeast 33 ds
digits_plain [] h = tt
digits_plain (b ∷ ds) h =
    let p = and_parts (is_digit b) (list_all is_digit ds) h in
    let r = digit_range b p.0 in
    (omega (arith, r.0), digits_plain ds p.1)

digits_high : (ds : List ℕ) → list_all is_digit ds ≡ true → AtLeast 48 ds
digits_high [] h = tt
digits_high (b ∷ ds) h =
    let p = and_parts (is_digit b) (list_all is_digit ds) h in
    let r = digit_range b p.0 in
    (omega (arith, r.0), digits_high ds p.1)

-- a number has no dot
pub decimal_high : (n : ℕ) → n < 2 ^ 64 → AtLeast 48 (decimal n)
decimal_high n lt = digits_high (decimal n) (digits_decimal own n lt)

-- a number has no space and no line feed
pub decimal_plain : (n : ℕ) → n < 2 ^ 64 → AtLeast 33 (decimal n)
decimal_plain n lt = digits_plain (decimal n) (digits_decimal own n lt)

pub number_plain : (w : List ℕ) → is_number w ≡ true → AtLeast 33 w
number_plain w h = digits_plain w (is_number_gives w h).0
