-- What is read of a field is what was written, and what was written is read again.
use Rattle.std.proofs.Common.{◌≡◌, ℕ, zero, suc, ◌+◌, ◌*◌, ◌/◌, ◌^◌, ◌<◌, ◌≤◌, Bool, true, false, cond, ltb, List, [], ◌∷◌, ◌++◌, length, get_or, take, drop, Result, Ok, Err, refl, sym, ap, subst, ◌∙◌, append_assoc, arith, inl, inr}
use Rattle.std.specs.Int.{byte_at, bytes_high_first}
use Rattle.std.proofs.Math.Nat.{mul-le-mul_right, add-mul, mod-lt}
use Rattle.std.proofs.lemmas.Bool.{cases_lt, ltb-false, le-ltb}
use Rattle.std.proofs.lemmas.List.{append-nil, take_at, drop_at, take-append-drop, length-append, length-take, get_or-drop, get_or-take, get_or_past}
use Rattle.byteorder.specs.Endian.{big_from}
use Rattle.byteorder.specs.Numbers.{big_from-cons, big_from-lt, big_from-take, big_number-reads_back, length-bytes_high_first}
use Rattle.std.specs.List.{list_all}
use Rattle.rr_frame.specs.Numbers.{number_bytes, number_in}
use Rattle.rr_frame.specs.Reading.{◌>>=◌, if_lawful, number_at, text_at, bytes_at}

-- numbers below 256
abbrev pub IsBytes : List ℕ → Type 0
IsBytes bytes = (i : ℕ) → get_or bytes i 0 < 256

pub IsBytes-drop : (n : ℕ) (bytes : List ℕ) → IsBytes bytes → IsBytes (drop n bytes)
IsBytes-drop n bytes h i = rw get_or-drop (h (n + i))

pub IsBytes-take : (n : ℕ) (bytes : List ℕ) → IsBytes bytes → IsBytes (take n bytes)
IsBytes-take n bytes h i =
    elim (cases_lt i n) [
      | inl lt ↦ rw (get_or-take n bytes i 0 lt) (h i)
      | inr le ↦ rw (get_or_past (take n bytes) i 0 (omega (arith, length-take n bytes))) (omega arith)
    ]

-- the value of a step that did not fail
pub bind_ok : {A B : Type 0} (r : Result A ℕ) (f : A → Result B ℕ) (y : B) → (r >>= f) ≡ Ok y → (x : A) × (r ≡ Ok x) × (f x ≡ Ok y)
bind_ok (Ok x) f y e = (x, refl, e)
bind_ok (Err d) f y e = absurd cc

-- a test that did not fail
pub if_lawful_ok : {A : Type 0} (b : Bool) (bytes : List ℕ) (x y : A) → if_lawful b bytes x ≡ Ok y → (b ≡ true) × (x ≡ y)
if_lawful_ok true bytes x y e = (refl, cc)
if_lawful_ok false bytes x y e = absurd cc

guard_ok : {A : Type 0} (b : Bool) (d : ℕ) (x y : A) → cond b (Err d) (Ok x) ≡ Ok y → (b ≡ false) × (x ≡ y)
guard_ok true d x y e = absurd cc
guard_ok false d x y e = (refl, cc)

abbrev read_as : {A : Type 0} → A → Result A ℕ
read_as x = Ok x

pub ok_is : {A : Type 0} (x y : A) → read_as x ≡ read_as y → x ≡ y
ok_is x y e = cc

-- what a reader took from the front
pub record Takes (bytes text rest : List ℕ) : Type 0 where
  pub parts : bytes ≡ text ++ rest
  pub rest_fits : IsBytes rest

pub Takes-then : (a x b y c : List ℕ) → Takes a x b → Takes b y c → Takes a (x ++ y) c
Takes-then a x b y c p q = record { parts = p.parts ∙ ap (λ (t : List ℕ). x ++ t) q.parts ∙ sym (append_assoc x y c); rest_fits = q.rest_fits }

-- ---- numbers

-- equal numbers of n bytes have equal bytes
pub big_from-same : (n : ℕ) (xs ys : List ℕ) → length xs ≡ n → length ys ≡ n → IsBytes xs → IsBytes ys → big_from 0 n xs ≡ big_from 0 n ys → xs ≡ ys
big_from-same zero [] [] a b p q e = refl
big_from-same zero [] (y ∷ ys) a b p q e = absurd (omega arith)
big_from-same zero (x ∷ xs) ys a b p q e = absurd (omega arith)
big_from-same (suc n) [] ys a b p q e = absurd (omega arith)
big_from-same (suc n) (x ∷ xs) [] a b p q e = absurd (omega arith)
big_from-same (suc n) (x ∷ xs) (y ∷ ys) a b p q e =
    let px : IsBytes xs = λ i. p (suc i) in
    let qy : IsBytes ys = λ i. q (suc i) in
    let ex = big_from-cons 0 n x xs in
    let ey = big_from-cons 0 n y ys in
    let bx = big_from-lt 0 n xs px in
    let by = big_from-lt 0 n ys qy in
    let whole : x * 256 ^ n + big_from 0 n xs ≡ y * 256 ^ n + big_from 0 n ys = omega (arith, e, ex, ey) in
    elim (cases_lt x y) [
      | inl lt ↦
          let top : (x + 1) * 256 ^ n ≤ y * 256 ^ n = mul-le-mul_right (256 ^ n) (omega arith) in
          absurd (omega (arith, top, add-mul x 1 (256 ^ n), whole, bx))
      | inr le ↦ elim (cases_lt y x) [
        | inl lt ↦
            let top : (y + 1) * 256 ^ n ≤ x * 256 ^ n = mul-le-mul_right (256 ^ n) (omega arith) in
            absurd (omega (arith, top, add-mul y 1 (256 ^ n), whole, by))
        | inr ge ↦
            let same : x ≡ y = omega arith in
            let rests : big_from 0 n xs ≡ big_from 0 n ys = omega (arith, whole, ap (λ (k : ℕ). k * 256 ^ n) same) in
            let tails = big_from-same n xs ys (omega arith) (omega arith) px qy rests in
            rw (same, tails) refl
      ]
    ]

byte_at-lt : (k x : ℕ) → byte_at k x < 256
byte_at-lt zero x = mod-lt x (omega arith)
byte_at-lt (suc k) x = mod-lt (x / 256 ^ suc k) (omega arith)

pub IsBytes-high_first : (n x : ℕ) → IsBytes (bytes_high_first n x)
IsBytes-high_first zero x i = omega arith
IsBytes-high_first (suc n) x zero = byte_at-lt n x
IsBytes-high_first (suc n) x (suc i) = IsBytes-high_first n x i

pub length-number_bytes : (n x : ℕ) → length (number_bytes n x) ≡ n
unfolding number_bytes
length-number_bytes n x = length-bytes_high_first n x

-- the bytes of the number in n bytes are these
number_back : (n : ℕ) (bytes : List ℕ) → n ≤ length bytes → IsBytes bytes → number_bytes n (number_in n bytes) ≡ take n bytes
unfolding number_bytes number_in
number_back n bytes le fits =
    let x : ℕ = big_from 0 n bytes in
    let len = length-bytes_high_first n x in
    let lt = big_from-lt 0 n bytes fits in
    let back : big_from 0 n (bytes_high_first n x ++ []) ≡ x = big_number-reads_back n x [] lt in
    let plain : big_from 0 n (bytes_high_first n x) ≡ x = ap (big_from 0 n) (sym (append-nil (bytes_high_first n x))) ∙ back in
    let taken : big_from 0 n (take n bytes) ≡ x = big_from-take 0 n n bytes (omega arith) in
    big_from-same n (bytes_high_first n x) (take n bytes) len (omega (arith, length-take n bytes)) (IsBytes-high_first n x) (IsBytes-take n bytes fits) (plain ∙ sym taken)

number_in-lt : (n : ℕ) (bytes : List ℕ) → IsBytes bytes → number_in n bytes < 256 ^ n
unfolding number_in
number_in-lt n bytes fits = big_from-lt 0 n bytes fits

number_in-again : (n x : ℕ) (rest : List ℕ) → x < 256 ^ n → number_in n (number_bytes n x ++ rest) ≡ x
unfolding number_in number_bytes
number_in-again n x rest lt = big_number-reads_back n x rest lt

pub number_takes : (n : ℕ) (bytes : List ℕ) (k : ℕ × List ℕ) → IsBytes bytes → number_at n bytes ≡ Ok k → Takes bytes (number_bytes n k.0) k.1 × (k.0 < 256 ^ n)
unfolding number_at
number_takes n bytes k fits e =
    let g = guard_ok (ltb (length bytes) n) (length bytes) (number_in n bytes, drop n bytes) k e in
    let long : n ≤ length bytes = ltb-false _ _ g.0 in
    subst (λ (p : ℕ × List ℕ). Takes bytes (number_bytes n p.0) p.1 × (p.0 < 256 ^ n)) g.1 (
      record { parts = rw (number_back n bytes long fits) (sym (take-append-drop n bytes)); rest_fits = IsBytes-drop n bytes fits },
      number_in-lt n bytes fits,
    )

pub number_again : (n x : ℕ) (rest : List ℕ) → x < 256 ^ n → number_at n (number_bytes n x ++ rest) ≡ Ok (x, rest)
unfolding number_at
number_again n x rest lt =
    let len = length-number_bytes n x in
    let long : ltb (length (number_bytes n x ++ rest)) n ≡ false = le-ltb _ _ (omega (arith, length-append (number_bytes n x) rest)) in
    rw (long, drop_at (number_bytes n x) rest n len, number_in-again n x rest lt) refl

-- ---- a step of reading

pub plain_takes : {B : Type 0} (n : ℕ) (bytes : List ℕ) (f : ℕ × List ℕ → Result B ℕ) (y : B) → IsBytes bytes → (number_at n bytes >>= f) ≡ Ok y
    → (k : ℕ × List ℕ) × Takes bytes (number_bytes n k.0) k.1 × (k.0 < 256 ^ n) × (f k ≡ Ok y)
plain_takes n bytes f y fits e =
    let a = bind_ok (number_at n bytes) f y e in
    let t = number_takes n bytes a.0 fits a.1 in
    (a.0, t.0, t.1, a.2)

pub plain_again : {B : Type 0} (n x : ℕ) (rest : List ℕ) (f : ℕ × List ℕ → Result B ℕ) → x < 256 ^ n → (number_at n (number_bytes n x ++ rest) >>= f) ≡ f (x, rest)
plain_again n x rest f lt = rw (number_again n x rest lt) refl

pub checked_takes : {B : Type 0} (n : ℕ) (test : ℕ → Bool) (bytes : List ℕ) (f : ℕ × List ℕ → Result B ℕ) (y : B) → IsBytes bytes
    → (number_at n bytes >>= λ k. if_lawful (test k.0) bytes k >>= f) ≡ Ok y
    → (k : ℕ × List ℕ) × Takes bytes (number_bytes n k.0) k.1 × (k.0 < 256 ^ n) × (test k.0 ≡ true) × (f k ≡ Ok y)
checked_takes n test bytes f y fits e =
    let a = bind_ok (number_at n bytes) (λ k. if_lawful (test k.0) bytes k >>= f) y e in
    let b = bind_ok (if_lawful (test a.0.0) bytes a.0) f y a.2 in
    let g = if_lawful_ok (test a.0.0) bytes a.0 b.0 b.1 in
    let t = number_takes n bytes a.0 fits a.1 in
    (a.0, t.0, t.1, g.0, ap f g.1 ∙ b.2)

pub checked_again : {B : Type 0} (n : ℕ) (test : ℕ → Bool) (x : ℕ) (rest : List ℕ) (f : ℕ × List ℕ → Result B ℕ) → x < 256 ^ n → test x ≡ true
    → (number_at n (number_bytes n x ++ rest) >>= λ k. if_lawful (test k.0) (number_bytes n x ++ rest) k >>= f) ≡ f (x, rest)
checked_again n test x rest f lt passes = rw (number_again n x rest lt, passes) refl

-- ---- a text

pub text_takes : (passes : ℕ → Bool) (count : ℕ) (bytes : List ℕ) (t : List ℕ × List ℕ) → IsBytes bytes → text_at passes count bytes ≡ Ok t
    → Takes bytes t.0 t.1 × (length t.0 ≡ count) × (list_all passes t.0 ≡ true)
unfolding text_at
text_takes passes count bytes t fits e =
    let b = bind_ok (bytes_at count bytes) (λ text. if_lawful (list_all passes text.0) bytes text) t e in
    let g = if_lawful_ok (list_all passes b.0.0) bytes b.0 t b.2 in
    let h = guard_ok (ltb (length bytes) count) (length bytes) (take count bytes, drop count bytes) b.0 b.1 in
    let long : count ≤ length bytes = ltb-false _ _ h.0 in
    let made : Takes bytes (take count bytes) (drop count bytes) = record { parts = sym (take-append-drop count bytes); rest_fits = IsBytes-drop count bytes fits } in
    let all : (take count bytes, drop count bytes) ≡ t = h.1 ∙ g.1 in
    (subst (λ (p : List ℕ × List ℕ). Takes bytes p.0 p.1) all made, subst (λ (p : List ℕ × List ℕ). length p.0 ≡ count) all (omega (arith, length-take count bytes)), ap (λ (p : List ℕ × List ℕ). list_all passes p.0) (sym g.1) ∙ g.0)

pub text_again : (passes : ℕ → Bool) (text rest : List ℕ) → list_all passes text ≡ true → text_at passes (length text) (text ++ rest) ≡ Ok (text, rest)
unfolding text_at
text_again passes text rest all =
    let long : ltb (length (text ++ rest)) (length text) ≡ false = le-ltb _ _ (omega (arith, length-append text rest)) in
    rw (long, take_at text rest (length text) refl, drop_at text rest (length text) refl, all) refl
