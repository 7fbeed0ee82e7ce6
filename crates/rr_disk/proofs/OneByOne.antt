-- Bytes written one at a time over a torn range.
use Rattle.std.proofs.Common.{◌≡◌, ⊎_elim, ℕ, suc, ◌+◌, ◌-◌, ◌<◌, ◌≤◌, min, true, false, List, [], ◌∷◌, length, get_or, take, drop, Result, Ok, Err, refl, sym, ◌∙◌, ap, subst, arith}
use Rattle.std.specs.Result.{is_err, OnOk, OnErr}
use Rattle.std.proofs.lemmas.List.{take-take, drop-drop, get_or-take, get_or-drop, length-take, length-drop}
use Rattle.rr_types.specs.declared.refusal.Refusal.{Refusal}
use Rattle.rr_disk.specs.declared.cell.Cell.{Cell}
use Rattle.rr_disk.specs.declared.area.Area.{Area}
use Rattle.rr_disk.specs.declared.area.Area.TheVariants.{First, Second}
use Rattle.rr_disk.specs.Areas.{Extent, Areas, Torn, IsTorn, extent_of, replaced, written, firm_cell}
use Rattle.rr_disk.specs.Crash.{filled}
use Rattle.rr_disk.specs.Failing.{OneByOne, repeated}
use Rattle.rr_disk.proofs.Strips.{lt_or_le}
use Rattle.rr_disk.proofs.Torn.{torn_written}

module _ {D : Type 0} (gives : D → Area → ℕ → List ℕ → Result (Unit {0}) Refusal → D → Type 0) (area : Area) (fill : List ℕ) where
  pub one_start : (at count : ℕ) (old final : D) → OneByOne gives area (at + 0) (repeated fill 0 (count - 0)) old final → OneByOne gives area at (repeated fill 0 count) old final
  one_start at count old final h =
      let a : at + 0 ≡ at = omega arith in
      let b : count - 0 ≡ count = omega arith in
      subst (λ n. OneByOne gives area n (repeated fill 0 count) old final) a (subst (λ n. OneByOne gives area (at + 0) (repeated fill 0 n) old final) b h)

  pub one_more : (at k count : ℕ) (cur mid final : D) (r : Result (Unit {0}) Refusal) → k < count → is_err r ≡ false → gives cur area (at + k) (filled fill k 0 ∷ []) r mid
      → OneByOne gives area (at + (k + 1)) (repeated fill (k + 1) (count - (k + 1))) mid final → OneByOne gives area (at + k) (repeated fill k (count - k)) cur final
  one_more at k count cur mid final (Ok u) lt fine gave h =
      let a : at + (k + 1) ≡ at + k + 1 = omega arith in
      let b : suc (count - (k + 1)) ≡ count - k = omega arith in
      let rest = subst (λ n. OneByOne gives area n (repeated fill (k + 1) (count - (k + 1))) mid final) a h in
      subst (λ n. OneByOne gives area (at + k) (repeated fill k n) cur final) b (mid, Ok u, gave, rest)
  one_more at k count cur mid final (Err e) lt fine gave h = absurd (cc)

  pub one_stop : (at k count : ℕ) (cur new : D) (r : Result (Unit {0}) Refusal) → k < count → is_err r ≡ true → gives cur area (at + k) (filled fill k 0 ∷ []) r new → OneByOne gives area (at + k) (repeated fill k (count - k)) cur new
  one_stop at k count cur new (Ok u) lt failed gave = absurd (cc)
  one_stop at k count cur new (Err e) lt failed gave =
      let b : suc (count - (k + 1)) ≡ count - k = omega arith in
      subst (λ n. OneByOne gives area (at + k) (repeated fill k n) cur new) b (new, Err e, gave, refl)

  pub one_end : (at k count : ℕ) (cur : D) → count ≤ k → OneByOne gives area (at + k) (repeated fill k (count - k)) cur cur
  one_end at k count cur le =
      let none : 0 ≡ count - k = omega arith in
      subst (λ n. OneByOne gives area (at + k) (repeated fill k n) cur cur) none refl

-- a torn range that is torn again within
pub torn_within : (at n k : ℕ) (one two three : Extent) → k < n → Torn at n one two → Torn (at + k) 1 two three → Torn at n one three
torn_within at n k one two three lt first second = record {
  before = sym (take-take at (at + k) three.cells (omega arith)) ∙ ap (take at) second.before ∙ take-take at (at + k) two.cells (omega arith) ∙ first.before;
  after =
      ap (λ m. drop m three.cells) (sym beyond) ∙ sym (drop-drop (n - (k + 1)) (at + k + 1) three.cells) ∙ ap (drop (n - (k + 1))) second.after
      ∙ drop-drop (n - (k + 1)) (at + k + 1) two.cells ∙ ap (λ m. drop m two.cells) beyond ∙ first.after;
  no_shorter = omega (arith, first.no_shorter, second.no_shorter);
  no_longer = omega (arith, first.no_longer, second.no_longer);
  in_range = within;
  safe_length = second.safe_length ∙ first.safe_length;
}
  where
    beyond : at + k + 1 + (n - (k + 1)) ≡ at + n
    beyond = omega arith

    fronts : min (at + k) (length three.cells) ≡ min (at + k) (length two.cells)
    fronts = sym (length-take (at + k) three.cells) ∙ ap length second.before ∙ length-take (at + k) two.cells

    backs : length three.cells - (at + k + 1) ≡ length two.cells - (at + k + 1)
    backs = sym (length-drop (at + k + 1) three.cells) ∙ ap length second.after ∙ length-drop (at + k + 1) two.cells

    within : (j : ℕ) → at ≤ j → j < at + n → j < length three.cells → (get_or three.cells j (firm_cell 0)).loose ≡ true
    within j from to there = ⊎_elim
        (λ (lower : j < at + k).
        ap (λ (cell : Cell). cell.loose) (sym (get_or-take (at + k) three.cells j (firm_cell 0) (omega arith)) ∙ ap (λ (cs : List Cell). get_or cs j (firm_cell 0)) second.before ∙ get_or-take (at + k) two.cells j (firm_cell 0) (omega arith))
        ∙ first.in_range j from to (omega (arith, fronts)))
        (λ (higher : at + k ≤ j). ⊎_elim
        (λ (above : at + k < j).
        let m = at + k + 1 in
        let at_j : m + (j - m) ≡ j = omega arith in
        ap (λ (cell : Cell). cell.loose) (
        ap (λ i. get_or three.cells i (firm_cell 0)) (sym at_j) ∙ sym (get_or-drop m three.cells (j - m) (firm_cell 0)) ∙ ap (λ (cs : List Cell). get_or cs (j - m) (firm_cell 0)) second.after
        ∙ get_or-drop m two.cells (j - m) (firm_cell 0) ∙ ap (λ i. get_or two.cells i (firm_cell 0)) at_j)
        ∙ first.in_range j from to (omega (arith, backs)))
        (λ (below : j ≤ at + k). second.in_range j higher (omega arith) there)
        (lt_or_le (at + k) j))
        (lt_or_le j (at + k))

pub extent_replaced : (both : Areas) (area : Area) (extent : Extent) → extent_of (replaced both area extent) area ≡ extent
extent_replaced both First extent = refl
extent_replaced both Second extent = refl

replaced_again : (both : Areas) (area : Area) (one other : Extent) → replaced (replaced both area one) area other ≡ replaced both area other
replaced_again both First one other = refl
replaced_again both Second one other = refl

-- the same of both areas
pub torn_again : (area : Area) (at n k : ℕ) (start mid new : Areas) → k < n → IsTorn area at n start mid → IsTorn area (at + k) 1 mid new → IsTorn area at n start new
torn_again area at n k start mid new lt first second = (
  torn_within at n k (extent_of start area) (extent_of mid area) (extent_of new area) lt first.0 second.0,
  second.1 ∙ ap (λ (b : Areas). replaced b area (extent_of new area)) first.1 ∙ replaced_again start area (extent_of mid area) (extent_of new area),
)

-- a write that was done, as a torn one
pub torn_done : (area : Area) (at : ℕ) (bytes : List ℕ) (old new : Areas) → at ≤ length (extent_of old area).cells → new ≡ replaced old area (written at bytes (extent_of old area)) → IsTorn area at (length bytes) old new
torn_done area at bytes old new le is =
    let here : extent_of new area ≡ written at bytes (extent_of old area) = ap (λ (b : Areas). extent_of b area) is ∙ extent_replaced old area (written at bytes (extent_of old area)) in (
      subst (λ (e : Extent). Torn at (length bytes) (extent_of old area) e) (sym here) (torn_written at bytes (extent_of old area) le),
      is ∙ ap (λ (e : Extent). replaced old area e) (sym here),
    )

-- a write, as a torn one
pub torn_either : (area : Area) (at : ℕ) (bytes : List ℕ) (old new : Areas) (r : Result (Unit {0}) Refusal)
    → OnOk r ((at ≤ length (extent_of old area).cells) × (new ≡ replaced old area (written at bytes (extent_of old area)))) → OnErr r (IsTorn area at (length bytes) old new) → IsTorn area at (length bytes) old new
torn_either area at bytes old new (Ok u) ok err = torn_done area at bytes old new ok.0 ok.1
torn_either area at bytes old new (Err e) ok err = err
