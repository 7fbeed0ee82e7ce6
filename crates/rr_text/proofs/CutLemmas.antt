-- Cutting a text at a byte.
use Rattle.std.proofs.Common.{◌≡◌, ℕ, ◌+◌, ◌<◌, ◌≤◌, true, false, ltb, leb, eqb, List, [], ◌∷◌, ◌++◌, length, get_or, take, drop, Option, None, Some, refl, ap, ◌∙◌, sym, arith}
use Rattle.std.specs.List.{list_all, position, position_or_len, AllByRecursion}
use Rattle.std.proofs.lemmas.List.{append_assoc, take_at, drop_at, length-append, take-append-drop, drop_more}
use Rattle.std.proofs.lemmas.List.Quantifiers.{position-Some}
use Rattle.std.proofs.lemmas.Option.{some_pair_parts}
use Rattle.std.proofs.lemmas.Bool.{eqb-true, eq-eqb, ne_eqb, lt-ltb, le-ltb, leb-true, and_parts}
use Rattle.rr_text.specs.Reading.{◌>>=◌, cut_by, cut_at}

-- no byte of the list is below k
abbrev pub AtLeast : ℕ → List ℕ → Type 0
AtLeast k w = AllByRecursion (λ b. k ≤ b) w

pub AtLeast-append : (k : ℕ) (v w : List ℕ) → AtLeast k v → AtLeast k w → AtLeast k (v ++ w)
AtLeast-append k [] w p q = q
AtLeast-append k (b ∷ v) w p q = (p.0, AtLeast-append k v w p.1 q)

-- a byte below all others of a word is found behind it
place_again : (c k : ℕ) (w rest : List ℕ) → c < k → AtLeast k w → position_or_len (λ b. eqb b c) (w ++ c ∷ rest) ≡ length w
place_again c k [] rest lt h = rw (eq-eqb c c refl) refl
place_again c k (b ∷ w) rest lt h =
    let apart : eqb b c ≡ false = ne_eqb b c (λ e. omega (arith, e, h.0)) in
    rw apart (ap (λ n. 1 + n) (place_again c k w rest lt h.1) ∙ omega arith)

-- a word that is printed before a byte below all of its own is read again
pub cut_again : (c k : ℕ) (w rest : List ℕ) → c < k → AtLeast k w → cut_at c (w ++ c ∷ rest) ≡ Some (w, rest)
cut_again c k w rest lt h =
    let p = place_again c k w rest lt h in
    let within : ltb (length w) (length (w ++ c ∷ rest)) ≡ true = lt-ltb _ _ (omega (arith, length-append w (c ∷ rest))) in
    let t : take (length w) (w ++ c ∷ rest) ≡ w = take_at w (c ∷ rest) (length w) refl in
    let regrouped : w ++ c ∷ rest ≡ (w ++ c ∷ []) ++ rest = sym (append_assoc w (c ∷ []) rest) in
    let d : drop (length w + 1) (w ++ c ∷ rest) ≡ rest = rw regrouped (drop_at (w ++ c ∷ []) rest (length w + 1) (length-append w (c ∷ []))) in
    rw (p, within, t, d) refl

cut_by_takes : (c : ℕ) (text : List ℕ) (o : Option ℕ) (w rest : List ℕ) → position (λ b. eqb b c) text ≡ o → cut_by text o ≡ Some (w, rest) → text ≡ w ++ c ∷ rest
cut_by_takes c text None w rest p e = absurd cc
cut_by_takes c text (Some i) w rest p e =
    let at = position-Some (λ b. eqb b c) text i 0 p in
    let parts = some_pair_parts (take i text) w (drop (i + 1) text) rest e in
    let here : get_or text i 0 ≡ c = eqb-true _ _ at.1 in
    let behind : drop i text ≡ c ∷ rest = drop_more text i 0 at.0 ∙ ap (λ b. b ∷ drop (i + 1) text) here ∙ ap (λ (t : List ℕ). c ∷ t) parts.1 in
    sym (take-append-drop i text) ∙ ap (λ (t : List ℕ). t ++ drop i text) parts.0 ∙ ap (λ (t : List ℕ). w ++ t) behind

-- what is cut is the text
pub cut_takes : (c : ℕ) (text w rest : List ℕ) → cut_at c text ≡ Some (w, rest) → text ≡ w ++ c ∷ rest
cut_takes c text w rest e = cut_by_takes c text (position (λ b. eqb b c) text) w rest refl e

-- the value of a step that gave one
pub bind_some : {A B : Type 0} (r : Option A) (f : A → Option B) (y : B) → (r >>= f) ≡ Some y → (x : A) × (r ≡ Some x) × (f x ≡ Some y)
bind_some (Some x) f y e = (x, refl, e)
bind_some None f y e = absurd cc

place_nowhere : (c k : ℕ) (w : List ℕ) → c < k → AtLeast k w → position_or_len (λ b. eqb b c) w ≡ length w
place_nowhere c k [] lt h = refl
place_nowhere c k (b ∷ w) lt h =
    let apart : eqb b c ≡ false = ne_eqb b c (λ e. omega (arith, e, h.0)) in
    rw apart (ap (λ n. 1 + n) (place_nowhere c k w lt h.1) ∙ omega arith)

-- a word is not cut at a byte below all of its own
pub cut_nowhere : (c k : ℕ) (w : List ℕ) → c < k → AtLeast k w → cut_at c w ≡ None
cut_nowhere c k w lt h =
    let p = place_nowhere c k w lt h in
    rw (p, le-ltb (length w) (length w) (omega arith)) refl

-- a word that is written out
pub plain_by_test : (w : List ℕ) → list_all (λ b. leb 33 b) w ≡ true → AtLeast 33 w
plain_by_test [] h = tt
plain_by_test (b ∷ w) h = let p = and_parts (leb 33 b) (list_all (λ c. leb 33 c) w) h in (leb-true 33 b p.0, plain_by_test w p.1)
