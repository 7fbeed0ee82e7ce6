-- The first line of a text.
use Rattle.std.proofs.Common.{◌≡◌, ℕ, ◌+◌, ◌-◌, ◌≤◌, true, false, cond, leb, ◌&&◌, List, [], ◌∷◌, ◌++◌, None, Some, codes, decimal, refl, ap, ◌∙◌, sym, arith}
use Rattle.std.specs.Str.{bytes_eq}
use Rattle.std.proofs.lemmas.List.{append_assoc, append_cancel_left}
use Rattle.std.proofs.lemmas.Option.{same_Some, cond_some, some_pair_parts, none-some}
use Rattle.std.proofs.lemmas.Bool.{false≢true, and_parts, leb-true, le-leb}
use Rattle.std.proofs.lemmas.Fmt.{decimal_digit, decimal_injective}
use Rattle.rr_text.specs.Numbers.{is_number}
use Rattle.rr_text.specs.Lines.{nodes_line, HasOtherNodes, HasNoNodes}
use Rattle.rr_text.specs.Reading.{cut_at, nodes_at, count_at}
use Rattle.rr_text.proofs.CutLemmas.{AtLeast, AtLeast-append, bind_some, cut_again, cut_takes, plain_by_test}
use Rattle.rr_text.proofs.NumberLemmas.{number_plain, decimal_plain}
use Rattle.rr_text.proofs.WordReading.{AtLeast-weaken, same_text}

pub heading_plain : (w : List ℕ) → AtLeast 33 w → AtLeast 32 (codes "nodes " ++ w)
heading_plain w h = AtLeast-append 32 (codes "nodes ") w (omega arith, (omega arith, (omega arith, (omega arith, (omega arith, (omega arith, tt)))))) (AtLeast-weaken 32 33 w (omega arith) h)

pub nodes_again : (n : ℕ) (rest : List ℕ) → n ≤ 7 → cut_at 10 (nodes_line n ++ rest) ≡ Some (codes "nodes " ++ decimal n, rest)
nodes_again n rest few = ap (cut_at 10) (append_assoc (codes "nodes " ++ decimal n) (10 ∷ []) rest) ∙ cut_again 10 32 (codes "nodes " ++ decimal n) rest (omega arith) (heading_plain (decimal n) (decimal_plain n (omega arith)))

pub nodes_one : (m n : ℕ) (x y : List ℕ) → m ≤ 7 → n ≤ 7 → nodes_line m ++ x ≡ nodes_line n ++ y → (m ≡ n) × (x ≡ y)
nodes_one m n x y few_m few_n same =
    let parts = some_pair_parts (codes "nodes " ++ decimal m) (codes "nodes " ++ decimal n) x y (sym (nodes_again m x few_m) ∙ ap (cut_at 10) same ∙ nodes_again n y few_n) in
    (decimal_injective m n (omega arith) (omega arith) (append_cancel_left (codes "nodes ") (decimal m) (decimal n) parts.0), parts.1)

nodes_takes : (w : List ℕ) (n : ℕ) → nodes_at w ≡ Some n → decimal n ≡ w
nodes_takes [] n e = absurd cc
nodes_takes (b ∷ []) n e =
    let g = cond_some (leb 49 b && leb b 55) (b - 48) n e in
    let p = and_parts (leb 49 b) (leb b 55) g.0 in
    let low = leb-true 49 b p.0 in
    let high = leb-true b 55 p.1 in
    let is : 48 + n ≡ b = omega (arith, low, g.1) in
    decimal_digit n (omega (arith, high, g.1)) ∙ ap (λ c. c ∷ []) is
nodes_takes (b ∷ c ∷ w) n e = absurd cc

nodes_read : (n : ℕ) → 1 ≤ n → n ≤ 7 → nodes_at (decimal n) ≡ Some n
nodes_read n some few =
    let d : decimal n ≡ (48 + n) ∷ [] = decimal_digit n (omega arith) in
    let back : 48 + n - 48 ≡ n = omega arith in
    rw (d, le-leb 49 (48 + n) (omega arith), le-leb (48 + n) 55 (omega arith), back) refl

count_takes : (text word : List ℕ) → count_at text ≡ Some word → text ≡ codes "nodes " ++ word
count_takes text word e =
    let w = bind_some (cut_at 32 text) (λ w. cond (bytes_eq w.0 (codes "nodes")) (Some w.1) None) word e in
    let g = cond_some (bytes_eq w.0.0 (codes "nodes")) w.0.1 word w.2 in
    cut_takes 32 text w.0.0 w.0.1 w.1 ∙ ap (λ (y : List ℕ). y ++ 32 ∷ w.0.1) (same_text w.0.0 (codes "nodes") g.0) ∙ ap (λ (y : List ℕ). codes "nodes " ++ y) g.1

count_again : (word : List ℕ) → count_at (codes "nodes " ++ word) ≡ Some word
count_again word = rw (cut_again 32 33 (codes "nodes") word (omega arith) (plain_by_test (codes "nodes") refl)) refl

-- a number of any length in the place of the number of nodes
pub other_again : (bytes : List ℕ) (o : HasOtherNodes bytes) → cut_at 10 bytes ≡ Some (codes "nodes " ++ o.word, o.rest)
other_again bytes o = ap (cut_at 10) o.split ∙ cut_again 10 32 (codes "nodes " ++ o.word) o.rest (omega arith) (heading_plain o.word (number_plain o.word o.number))

-- a schedule begins with the line that was read
pub first_ok : (bytes text rest word : List ℕ) (n : ℕ) → cut_at 10 bytes ≡ Some (text, rest) → count_at text ≡ Some word → Some n ≡ nodes_at word → bytes ≡ nodes_line n ++ rest
first_ok bytes text rest word n cut count read =
    let number : decimal n ≡ word = nodes_takes word n (sym read) in
    cut_takes 10 bytes text rest cut ∙ ap (λ (y : List ℕ). y ++ 10 ∷ rest) (count_takes text word count ∙ ap (λ (y : List ℕ). codes "nodes " ++ y) (sym number)) ∙ sym (append_assoc (codes "nodes " ++ decimal n) (10 ∷ []) rest)

pub first_uncut : (bytes : List ℕ) → cut_at 10 bytes ≡ None → HasNoNodes bytes
first_uncut bytes cut = record {
  none = λ n rest some few is. none-some _ (sym cut ∙ ap (cut_at 10) is ∙ nodes_again n rest few);
  other = λ o. none-some _ (sym cut ∙ other_again bytes o);
}

pub first_uncounted : (bytes text rest : List ℕ) → cut_at 10 bytes ≡ Some (text, rest) → count_at text ≡ None → HasNoNodes bytes
first_uncounted bytes text rest cut count = record {
  none = λ n more some few is.
      let parts = some_pair_parts text (codes "nodes " ++ decimal n) rest more (sym cut ∙ ap (cut_at 10) is ∙ nodes_again n more few) in
      none-some _ (sym count ∙ ap count_at parts.0 ∙ count_again (decimal n));
  other = λ o.
      let parts = some_pair_parts text (codes "nodes " ++ o.word) rest o.rest (sym cut ∙ other_again bytes o) in
      none-some _ (sym count ∙ ap count_at parts.0 ∙ count_again o.word);
}

pub first_unnumbered : (bytes text rest word : List ℕ) → cut_at 10 bytes ≡ Some (text, rest) → count_at text ≡ Some word → None ≡ nodes_at word → is_number word ≡ false → HasNoNodes bytes
first_unnumbered bytes text rest word cut count read other_word = record {
  none = λ n more some few is.
      let parts = some_pair_parts text (codes "nodes " ++ decimal n) rest more (sym cut ∙ ap (cut_at 10) is ∙ nodes_again n more few) in
      let same : word ≡ decimal n = same_Some word (decimal n) (sym count ∙ ap count_at parts.0 ∙ count_again (decimal n)) in
      none-some _ (read ∙ ap nodes_at same ∙ nodes_read n some few);
  other = λ o.
      let parts = some_pair_parts text (codes "nodes " ++ o.word) rest o.rest (sym cut ∙ other_again bytes o) in
      let same : word ≡ o.word = same_Some word o.word (sym count ∙ ap count_at parts.0 ∙ count_again o.word) in
      false≢true (sym other_word ∙ ap is_number same ∙ o.number);
}

pub first_other : (bytes text rest word : List ℕ) → cut_at 10 bytes ≡ Some (text, rest) → count_at text ≡ Some word → None ≡ nodes_at word → is_number word ≡ true → HasOtherNodes bytes
first_other bytes text rest word cut count read is = record {
  word = word;
  rest = rest;
  number = is;
  other = λ n some few same. none-some _ (read ∙ ap nodes_at same ∙ nodes_read n some few);
  split = cut_takes 10 bytes text rest cut ∙ ap (λ (y : List ℕ). y ++ 10 ∷ rest) (count_takes text word count);
}
