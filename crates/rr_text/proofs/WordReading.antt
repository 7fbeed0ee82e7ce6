-- Names, values, sets and fills: reading gives what was printed, and what is read is printed so.
use Rattle.std.proofs.Common.{add-one, ◌≡◌, ℕ, zero, suc, ◌+◌, ◌-◌, ◌*◌, ◌/◌, ◌%◌, ◌^◌, ◌<◌, ◌≤◌, Bool, true, false, cond, ltb, eqb, leb, ◌&&◌, ◌||◌, List, [], ◌∷◌, ◌++◌, length, None, Some, codes, refl, ap, subst, ◌∙◌, sym, arith, ◌⊎◌, inl, inr}
use Rattle.std.specs.List.{list_all, flat_map}
use Rattle.std.specs.Str.{bytes_eq}
use Rattle.std.proofs.lemmas.Option.{same_Some, cond_some}
use Rattle.std.proofs.lemmas.Bool.{and_parts, or_cases, leb-true, ltb-true, le-ltb, lt-ltb, le-leb, lt-leb, eqb-true, eq-eqb, ne_eqb, cases_Bool, cases_lt, cases_eq}
use Rattle.std.proofs.lemmas.Slice.Eq.{bytes_eq-Decides}
use Rattle.std.proofs.lemmas.Nat.{pow_pos}
use Rattle.std.proofs.lemmas.Grind.{pow_more}
use Rattle.std.proofs.Math.Pow.{pow_mono}
use Rattle.rr_types.specs.Names.{IsName, IsValue, is_name_byte, is_value_byte}
use Rattle.rr_text.specs.Words.{member_digits, set_text, hex_digit, hex_pair, fill_text, IsFill}
use Rattle.rr_text.specs.Reading.{◌>>=◌, name_at, filled_value_at, members_at, set_at, hex_value, hex_byte, pairs_at, fill_at}
use Rattle.rr_text.proofs.CutLemmas.{AtLeast, bind_some}

-- ---- tests

pub chosen : {A : Type 0} (b : Bool) (x y z : A) → cond b x y ≡ z → ((b ≡ true) × (x ≡ z)) ⊎ ((b ≡ false) × (y ≡ z))
chosen true x y z e = inl (refl, e)
chosen false x y z e = inr (refl, e)

pub same_text : (v w : List ℕ) → bytes_eq v w ≡ true → v ≡ w
same_text v w h = (bytes_eq-Decides v w).0 h

pub other_text : (v w : List ℕ) → (v ≡ w → ⊥) → bytes_eq v w ≡ false
other_text v w h = elim (cases_Bool (bytes_eq v w)) [ inl e ↦ absurd (h (same_text v w e)) | inr e ↦ e ]

-- ---- names and values

pub name_again : (w : List ℕ) → IsName w → name_at w ≡ Some w
name_again w h = rw (le-leb 1 (length w) h.some, le-leb (length w) 64 h.short, h.letters) refl

pub name_takes : (w x : List ℕ) → name_at w ≡ Some x → (x ≡ w) × IsName x
name_takes w x e =
    let g = cond_some (leb 1 (length w) && (leb (length w) 64 && list_all is_name_byte w)) w x e in
    let p = and_parts (leb 1 (length w)) (leb (length w) 64 && list_all is_name_byte w) g.0 in
    let q = and_parts (leb (length w) 64) (list_all is_name_byte w) p.1 in
    let is : IsName w = record { some = leb-true _ _ p.0; short = leb-true _ _ q.0; letters = q.1 } in
    (sym g.1, subst (λ (y : List ℕ). IsName y) g.1 is)

name_byte_plain : (b : ℕ) → is_name_byte b ≡ true → 33 ≤ b
name_byte_plain b h =
    elim (or_cases ((leb 97 b && leb b 122) || (leb 48 b && leb b 57)) (eqb b 45) h) [
      | inl x ↦ elim (or_cases (leb 97 b && leb b 122) (leb 48 b && leb b 57) x) [
        | inl y ↦ omega (arith, leb-true 97 b (and_parts (leb 97 b) (leb b 122) y).0)
        | inr y ↦ omega (arith, leb-true 48 b (and_parts (leb 48 b) (leb b 57) y).0)
      ]
      | inr x ↦ omega (arith, eqb-true b 45 x)
    ]

name_bytes_plain : (w : List ℕ) → list_all is_name_byte w ≡ true → AtLeast 33 w
name_bytes_plain [] h = tt
name_bytes_plain (b ∷ w) h = let p = and_parts (is_name_byte b) (list_all is_name_byte w) h in (name_byte_plain b p.0, name_bytes_plain w p.1)

pub name_plain : (w : List ℕ) → IsName w → AtLeast 33 w
name_plain w h = name_bytes_plain w (h.letters)

pub value_again : (b : ℕ) (w : List ℕ) → IsValue (b ∷ w) → filled_value_at (b ∷ w) ≡ Some (b ∷ w)
value_again b w h = let short : leb (length (b ∷ w)) 64 ≡ true = le-leb (length (b ∷ w)) 64 h.short in rw (short, h.letters) refl

-- a value that is a word has a byte
pub value_takes : (w x : List ℕ) → filled_value_at w ≡ Some x → (x ≡ w) × (0 < length x) × IsValue x
value_takes [] x e = absurd cc
value_takes (b ∷ w) x e =
    let g = cond_some (leb (length (b ∷ w)) 64 && list_all is_value_byte (b ∷ w)) (b ∷ w) x e in
    let q = and_parts (leb (length (b ∷ w)) 64) (list_all is_value_byte (b ∷ w)) g.0 in
    let is : IsValue (b ∷ w) = record { short = leb-true _ _ q.0; letters = q.1 } in
    let rest : (0 < length x) × IsValue x = subst (λ (y : List ℕ). (0 < length y) × IsValue y) g.1 (omega arith, is) in
    (sym g.1, rest.0, rest.1)

value_bytes_plain : (w : List ℕ) → list_all is_value_byte w ≡ true → AtLeast 33 w
value_bytes_plain [] h = tt
value_bytes_plain (b ∷ w) h =
    let p = and_parts (is_value_byte b) (list_all is_value_byte w) h in
    (leb-true 33 b (and_parts (leb 33 b) (leb b 126) p.0).0, value_bytes_plain w p.1)

pub value_plain : (w : List ℕ) → IsValue w → AtLeast 33 w
value_plain w h = value_bytes_plain w (h.letters)

-- ---- sets

pub AtLeast-weaken : (j k : ℕ) (w : List ℕ) → j ≤ k → AtLeast k w → AtLeast j w
AtLeast-weaken j k [] le h = tt
AtLeast-weaken j k (b ∷ w) le h = (omega (arith, h.0), AtLeast-weaken j k w le h.1)

members_high : (p k s : ℕ) → AtLeast (48 + p) (member_digits p k s)
members_high p zero s = tt
members_high p (suc k) s =
    let rest : AtLeast (48 + p) (member_digits (p + 1) k (s / 2)) = AtLeast-weaken (48 + p) (48 + (p + 1)) _ (omega arith) (members_high (p + 1) k (s / 2)) in
    elim (eqb (s % 2) 1) as (λ v. AtLeast (48 + p) (cond v ((48 + p) ∷ member_digits (p + 1) k (s / 2)) (member_digits (p + 1) k (s / 2)))) [ true ↦ (omega arith, rest) | false ↦ rest ]

members_skip : (p k : ℕ) (w : List ℕ) → AtLeast (48 + (p + 1)) w → members_at p (suc k) w ≡ (members_at (p + 1) k w >>= λ s. Some (2 * s))
members_skip p k [] h = refl
members_skip p k (b ∷ w) h = let apart : eqb b (48 + p) ≡ false = ne_eqb b (48 + p) (λ e. omega (arith, h.0, e)) in rw apart refl

pub members_again : (k p s : ℕ) → s < 2 ^ k → members_at p k (member_digits p k s) ≡ Some s
members_again zero p s lt = ap (λ (n : ℕ). Some n) (omega arith)
members_again (suc k) p s lt =
    let doubled : 2 ^ suc k ≡ 2 ^ k * 2 = ap (λ (j : ℕ). 2 ^ j) (sym (add-one k)) ∙ pow_more 2 k in
    let half : s / 2 < 2 ^ k = omega (arith, doubled) in
    let again = members_again k (p + 1) (s / 2) half in
    elim (cases_eq (s % 2) 1) [
      | inl odd ↦
          let is : 2 * (s / 2) + 1 ≡ s = omega (arith, odd) in
          rw (eq-eqb _ _ odd, eq-eqb (48 + p) (48 + p) refl, again) (ap (λ (n : ℕ). Some n) is)
      | inr even ↦
          let is : 2 * (s / 2) ≡ s = omega (arith, even) in
          rw (ne_eqb _ _ even, members_skip p k (member_digits (p + 1) k (s / 2)) (members_high (p + 1) k (s / 2)), again) (ap (λ (n : ℕ). Some n) is)
    ]

digits_of_even : (p k t : ℕ) → member_digits p (suc k) (2 * t) ≡ member_digits (p + 1) k t
digits_of_even p k t =
    let rest : eqb ((2 * t) % 2) 1 ≡ false = ne_eqb _ _ (λ e. omega (arith, e)) in
    let half : (2 * t) / 2 ≡ t = omega arith in
    rw (rest, half) refl

digits_of_odd : (p k t : ℕ) → member_digits p (suc k) (2 * t + 1) ≡ (48 + p) ∷ member_digits (p + 1) k t
digits_of_odd p k t =
    let rest : eqb ((2 * t + 1) % 2) 1 ≡ true = eq-eqb _ _ (omega arith) in
    let half : (2 * t + 1) / 2 ≡ t = omega arith in
    rw (rest, half) refl

double_below : (k t : ℕ) → t < 2 ^ k → 2 * t + 1 < 2 ^ suc k
double_below k t lt =
    let doubled : 2 ^ suc k ≡ 2 ^ k * 2 = ap (λ (j : ℕ). 2 ^ j) (sym (add-one k)) ∙ pow_more 2 k in
    omega (arith, doubled)

pub members_below : (p s : ℕ) → p < 7 → s < 2 ^ (7 - (p + 1)) → 2 * s + 1 < 2 ^ (7 - p)
members_below p s lt below =
    let e : 7 - p ≡ suc (7 - (p + 1)) = omega arith in
    rw e (double_below (7 - (p + 1)) s below)

pub members_takes : (k p : ℕ) (w : List ℕ) (s : ℕ) → members_at p k w ≡ Some s → (member_digits p k s ≡ w) × (s < 2 ^ k)
members_takes zero p [] s e = (refl, omega (arith, same_Some 0 s e))
members_takes zero p (b ∷ w) s e = absurd cc
members_takes (suc k) p [] s e =
    let r = bind_some (members_at (p + 1) k []) (λ t. Some (2 * t)) s e in
    let t = members_takes k (p + 1) [] r.0 r.1 in
    let is : 2 * r.0 ≡ s = same_Some _ _ r.2 in
    (ap (member_digits p (suc k)) (sym is) ∙ digits_of_even p k r.0 ∙ t.0, omega (arith, is, double_below k r.0 t.1))
members_takes (suc k) p (b ∷ w) s e =
    elim (chosen (eqb b (48 + p)) (members_at (p + 1) k w >>= λ t. Some (2 * t + 1)) (members_at (p + 1) k (b ∷ w) >>= λ t. Some (2 * t)) (Some s) e) [
      | inl c ↦
          let r = bind_some (members_at (p + 1) k w) (λ t. Some (2 * t + 1)) s c.1 in
          let t = members_takes k (p + 1) w r.0 r.1 in
          let is : 2 * r.0 + 1 ≡ s = same_Some _ _ r.2 in
          let head : 48 + p ≡ b = sym (eqb-true b (48 + p) c.0) in
          (ap (member_digits p (suc k)) (sym is) ∙ digits_of_odd p k r.0 ∙ ap (λ h. h ∷ member_digits (p + 1) k r.0) head ∙ ap (λ (v : List ℕ). b ∷ v) t.0, omega (arith, is, double_below k r.0 t.1))
      | inr c ↦
          let r = bind_some (members_at (p + 1) k (b ∷ w)) (λ t. Some (2 * t)) s c.1 in
          let t = members_takes k (p + 1) (b ∷ w) r.0 r.1 in
          let is : 2 * r.0 ≡ s = same_Some _ _ r.2 in
          (ap (member_digits p (suc k)) (sym is) ∙ digits_of_even p k r.0 ∙ t.0, omega (arith, is, double_below k r.0 t.1))
    ]

set_of_some : (s : ℕ) → 0 < s → set_text s ≡ member_digits 0 7 s
set_of_some zero lt = absurd (omega arith)
set_of_some (suc s) lt = refl

-- digits of a set are no hyphen
digits_no_hyphen : (w : List ℕ) → AtLeast 48 w → w ≡ codes "-" → ⊥
digits_no_hyphen w h e = let p = subst (λ (v : List ℕ). AtLeast 48 v) e h in omega (arith, p.0)

set_again_some : (n s : ℕ) → n ≤ 7 → 0 < s → s < 2 ^ n → set_at n (member_digits 0 7 s) ≡ Some s
set_again_some n s few some lt =
    let below : s < 2 ^ 7 = omega (arith, pow_mono {i = n} {j = 7} few) in
    let other = other_text (member_digits 0 7 s) (codes "-") (digits_no_hyphen _ (members_high 0 7 s)) in
    rw (other, members_again 7 0 s below, lt-ltb 0 s some, lt-ltb s (2 ^ n) lt) refl

pub set_again : (n s : ℕ) → n ≤ 7 → s < 2 ^ n → set_at n (set_text s) ≡ Some s
set_again n zero few lt = refl
set_again n (suc s) few lt = set_again_some n (suc s) few (omega arith) lt

pub set_takes : (n : ℕ) (w : List ℕ) (s : ℕ) → set_at n w ≡ Some s → (set_text s ≡ w) × (s < 2 ^ n)
set_takes n w s e =
    elim (chosen (bytes_eq w (codes "-")) (Some 0) (members_at 0 7 w >>= λ t. cond (ltb 0 t && ltb t (2 ^ n)) (Some t) None) (Some s) e) [
      | inl c ↦
          let is : 0 ≡ s = same_Some 0 s c.1 in
          (ap set_text (sym is) ∙ sym (same_text w (codes "-") c.0), omega (arith, is, pow_pos n))
      | inr c ↦
          let r = bind_some (members_at 0 7 w) (λ t. cond (ltb 0 t && ltb t (2 ^ n)) (Some t) None) s c.1 in
          let g = cond_some (ltb 0 r.0 && ltb r.0 (2 ^ n)) r.0 s r.2 in
          let p = and_parts (ltb 0 r.0) (ltb r.0 (2 ^ n)) g.0 in
          let t = members_takes 7 0 w r.0 r.1 in
          (ap set_text (sym g.1) ∙ set_of_some r.0 (ltb-true _ _ p.0) ∙ t.0, omega (arith, g.1, ltb-true r.0 (2 ^ n) p.1))
    ]

pub set_plain : (s : ℕ) → AtLeast 33 (set_text s)
set_plain zero = (omega arith, tt)
set_plain (suc s) = AtLeast-weaken 33 48 _ (omega arith) (members_high 0 7 (suc s))

-- ---- fills

hex_again : (d : ℕ) → d < 16 → hex_value (hex_digit d) ≡ Some d
hex_again d lt =
    elim (cases_lt d 10) [
      | inl low ↦
          let back : 48 + d - 48 ≡ d = omega arith in
          rw (lt-ltb d 10 low, le-leb 48 (48 + d) (omega arith), le-leb (48 + d) 57 (omega arith), back) refl
      | inr high ↦
          let back : 55 + d - 55 ≡ d = omega arith in
          rw (le-ltb d 10 high, le-leb 48 (55 + d) (omega arith), lt-leb (55 + d) 57 (omega arith), le-leb 65 (55 + d) (omega arith), le-leb (55 + d) 70 (omega arith), back) refl
    ]

hex_takes : (b d : ℕ) → hex_value b ≡ Some d → (hex_digit d ≡ b) × (d < 16)
hex_takes b d e =
    elim (chosen (leb 48 b && leb b 57) (Some (b - 48)) (cond (leb 65 b && leb b 70) (Some (b - 55)) None) (Some d) e) [
      | inl c ↦
          let p = and_parts (leb 48 b) (leb b 57) c.0 in
          let low = leb-true 48 b p.0 in
          let high = leb-true b 57 p.1 in
          let is : b - 48 ≡ d = same_Some _ _ c.1 in
          let small : d < 10 = omega (arith, low, high, is) in
          let whole : 48 + d ≡ b = omega (arith, low, is) in
          (rw (lt-ltb d 10 small) whole, omega (arith, small))
      | inr c ↦
          let g = cond_some (leb 65 b && leb b 70) (b - 55) d c.1 in
          let p = and_parts (leb 65 b) (leb b 70) g.0 in
          let low = leb-true 65 b p.0 in
          let high = leb-true b 70 p.1 in
          let large : 10 ≤ d = omega (arith, low, high, g.1) in
          let whole : 55 + d ≡ b = omega (arith, low, g.1) in
          (rw (le-ltb d 10 large) whole, omega (arith, high, g.1))
    ]

hex_byte_again : (b : ℕ) → b < 256 → hex_byte (hex_digit (b / 16)) (hex_digit (b % 16)) ≡ Some b
hex_byte_again b lt =
    let whole : 16 * (b / 16) + b % 16 ≡ b = omega arith in
    let high : b / 16 < 16 = omega arith in
    let low : b % 16 < 16 = omega arith in
    rw (hex_again (b / 16) high, hex_again (b % 16) low, whole) refl

hex_byte_takes : (h l b : ℕ) → hex_byte h l ≡ Some b → (hex_pair b ≡ h ∷ l ∷ []) × (b < 256)
hex_byte_takes h l b e =
    let r = bind_some (hex_value h) (λ high. hex_value l >>= λ low. Some (16 * high + low)) b e in
    let q = bind_some (hex_value l) (λ low. Some (16 * r.0 + low)) b r.2 in
    let is : 16 * r.0 + q.0 ≡ b = same_Some _ _ q.2 in
    let high = hex_takes h r.0 r.1 in
    let low = hex_takes l q.0 q.1 in
    let upper : b / 16 ≡ r.0 = omega (arith, low.1, is) in
    let lower : b % 16 ≡ q.0 = omega (arith, low.1, is) in
    (rw (upper, lower, high.0, low.0) refl, omega (arith, high.1, low.1, is))

pub pairs_again : (bs : List ℕ) → IsFill bs → pairs_at (flat_map hex_pair bs) ≡ Some bs
pairs_again [] h = refl
pairs_again (b ∷ bs) h = rw (hex_byte_again b h.0, pairs_again bs h.1) refl

pub pairs_takes : (w bs : List ℕ) → pairs_at w ≡ Some bs → (flat_map hex_pair bs ≡ w) × IsFill bs
pairs_takes [] bs e = let is = same_Some [] bs e in (ap (flat_map hex_pair) (sym is), subst (λ (v : List ℕ). IsFill v) is tt)
pairs_takes (h ∷ []) bs e = absurd cc
pairs_takes (h ∷ l ∷ w) bs e =
    let r = bind_some (hex_byte h l) (λ b. pairs_at w >>= λ cs. Some (b ∷ cs)) bs e in
    let t = bind_some (pairs_at w) (λ cs. Some (r.0 ∷ cs)) bs r.2 in
    let is : r.0 ∷ t.0 ≡ bs = same_Some _ _ t.2 in
    let first = hex_byte_takes h l r.0 r.1 in
    let rest = pairs_takes w t.0 t.1 in
    let one : flat_map hex_pair (r.0 ∷ t.0) ≡ h ∷ l ∷ w = ap (λ (y : List ℕ). y ++ flat_map hex_pair t.0) first.0 ∙ ap (λ (y : List ℕ). h ∷ l ∷ y) rest.0 in
    let fits : IsFill (r.0 ∷ t.0) = (first.1, rest.1) in
    subst (λ (v : List ℕ). (flat_map hex_pair v ≡ h ∷ l ∷ w) × IsFill v) is (one, fits)

hex_high : (d : ℕ) → d < 16 → 48 ≤ hex_digit d
hex_high d lt = elim (ltb d 10) as (λ v. 48 ≤ cond v (48 + d) (55 + d)) [ true ↦ omega arith | false ↦ omega arith ]

pairs_high : (bs : List ℕ) → IsFill bs → AtLeast 48 (flat_map hex_pair bs)
pairs_high [] h = tt
pairs_high (b ∷ bs) h = (hex_high (b / 16) (omega (arith, h.0)), (hex_high (b % 16) (omega arith), pairs_high bs h.1))

fill_of_pairs : (w : List ℕ) → AtLeast 48 w → 0 < length w → fill_at w ≡ pairs_at w
fill_of_pairs [] h some = absurd (omega arith)
fill_of_pairs (b ∷ w) h some = rw (other_text (b ∷ w) (codes "-") (digits_no_hyphen (b ∷ w) h)) refl

pub fill_again : (bs : List ℕ) → IsFill bs → fill_at (fill_text bs) ≡ Some bs
fill_again [] h = refl
fill_again (b ∷ bs) h = fill_of_pairs (flat_map hex_pair (b ∷ bs)) (pairs_high (b ∷ bs) h) (omega arith) ∙ pairs_again (b ∷ bs) h

fill_of_some : (bs : List ℕ) (w : List ℕ) → 0 < length w → flat_map hex_pair bs ≡ w → fill_text bs ≡ w
fill_of_some [] w some e = absurd (omega (arith, ap length e))
fill_of_some (b ∷ bs) w some e = e

pub fill_takes : (w bs : List ℕ) → fill_at w ≡ Some bs → (fill_text bs ≡ w) × IsFill bs
fill_takes [] bs e = absurd cc
fill_takes (b ∷ w) bs e =
    elim (chosen (bytes_eq (b ∷ w) (codes "-")) (Some []) (pairs_at (b ∷ w)) (Some bs) e) [
      | inl c ↦ let is = same_Some [] bs c.1 in (ap fill_text (sym is) ∙ sym (same_text (b ∷ w) (codes "-") c.0), subst (λ (v : List ℕ). IsFill v) is tt)
      | inr c ↦ let t = pairs_takes (b ∷ w) bs c.1 in (fill_of_some bs (b ∷ w) (omega arith) t.0, t.1)
    ]

pub fill_plain : (bs : List ℕ) → IsFill bs → AtLeast 33 (fill_text bs)
fill_plain [] h = (omega arith, tt)
fill_plain (b ∷ bs) h = AtLeast-weaken 33 48 (flat_map hex_pair (b ∷ bs)) (omega arith) (pairs_high (b ∷ bs) h)
