-- What failed writes leave.
use Rattle.std.proofs.Common.{◌≡◌, ⊎_elim, ℕ, ◌+◌, ◌-◌, ◌<◌, ◌≤◌, max, true, List, [], ◌++◌, map, length, get_or, take, drop, refl, sym, ◌∙◌, ap, subst, arith}
use Rattle.std.proofs.lemmas.List.{append-nil, drop_at, get_or_append_left, append_assoc, take-take, take_at, take_all, drop_all, length-map, length-take, length-take-le, length-drop, length-append, get_or-map, get_or-append_right}
use Rattle.rr_disk.specs.declared.cell.Cell.{Cell}
use Rattle.rr_disk.specs.Areas.{Extent, Torn, firm_cell, loose_cell, loosened, written}
use Rattle.rr_disk.proofs.Strips.{le_or_le, same_extent}

-- cells of which those from an offset on were made loose
pub torn_from : (at n safe : ℕ) (cells new : List Cell) → length cells < at + n → new ≡ take at cells ++ map (λ cell. loose_cell cell.byte) (drop at cells) → Torn at n (record { cells = cells; safe = safe }) (record { cells = new; safe = safe })
torn_from at n safe cells new past is = record {
  before = ap (take at) is ∙ front;
  after = drop_all (at + n) new (omega (arith, size)) ∙ sym (drop_all (at + n) cells (omega arith));
  no_shorter = omega (arith, size);
  no_longer = omega (arith, size);
  in_range = within;
  safe_length = refl;
}
  where
    f : Cell → Cell
    f cell = loose_cell cell.byte

    size : length new ≡ length cells
    size = ap length is ∙ length-append (take at cells) (map f (drop at cells)) ∙ omega (arith, length-map (drop at cells) f, length-take at cells, length-drop at cells)

    front : take at (take at cells ++ map f (drop at cells)) ≡ take at cells
    front = ⊎_elim
        (λ (le : at ≤ length cells). take_at (take at cells) (map f (drop at cells)) at (length-take-le at cells le))
        (λ (le : length cells ≤ at). ap (λ zs. take at (take at cells ++ map f zs)) (drop_all at cells le) ∙ ap (take at) (append-nil (take at cells)) ∙ take-take at at cells (omega arith))
        (le_or_le at (length cells))

    within : (k : ℕ) → at ≤ k → k < at + n → k < length new → (get_or new k (firm_cell 0)).loose ≡ true
    within k from to there =
        let here : k - at < length (drop at cells) = omega (arith, size, length-drop at cells) in
        let long : length (take at cells) ≡ at = length-take-le at cells (omega (arith, size)) in
        ap (λ (zs : List Cell). (get_or zs k (firm_cell 0)).loose) is
        ∙ ap (λ (cell : Cell). cell.loose) (get_or-append_right (take at cells) (map f (drop at cells)) at k (firm_cell 0) long from)
        ∙ ap (λ (cell : Cell). cell.loose) (get_or-map f (drop at cells) (k - at) (firm_cell 0) (firm_cell 0) here)

-- a write that found no memory
pub torn_loosened : (at n : ℕ) (extent : Extent) → length extent.cells < at + n → Torn at n extent (loosened at n extent)
torn_loosened at n extent past = torn_from at n extent.safe extent.cells (loosened at n extent).cells past (
    ap (λ zs. take at extent.cells ++ map (λ cell. loose_cell cell.byte) (take n (drop at extent.cells)) ++ zs) (drop_all (at + n) extent.cells (omega arith))
    ∙ append-nil (take at extent.cells ++ map (λ cell. loose_cell cell.byte) (take n (drop at extent.cells)))
    ∙ ap (λ zs. take at extent.cells ++ map (λ cell. loose_cell cell.byte) zs) (take_all n (drop at extent.cells) (omega (arith, length-drop at extent.cells))))

pub torn_to : (at n : ℕ) (old new : Extent) → length old.cells < at + n → new ≡ loosened at n old → Torn at n old new
torn_to at n old new past is = subst (λ (e : Extent). Torn at n old e) (sym is) (torn_loosened at n old past)

-- a write that was done left any bytes in its range, loose, and the rest as it was
pub torn_written : (at : ℕ) (bytes : List ℕ) (extent : Extent) → at ≤ length extent.cells → Torn at (length bytes) extent (written at bytes extent)
torn_written at bytes extent le = record {
  before = front;
  after = back;
  no_shorter = omega (arith, size);
  no_longer = omega (arith, size);
  in_range = within;
  safe_length = refl;
}
  where
    n : ℕ
    n = length bytes

    cells : List Cell
    cells = extent.cells

    mid : List Cell
    mid = map loose_cell bytes

    long : length mid ≡ length bytes
    long = length-map bytes loose_cell

    starts : length (take at extent.cells) ≡ at
    starts = length-take-le at extent.cells le

    size : length (take at extent.cells ++ mid ++ drop (at + length bytes) extent.cells) ≡ max (length extent.cells) (at + length bytes)
    size =
        length-append (take at extent.cells ++ mid) (drop (at + length bytes) extent.cells)
        ∙ omega (arith, length-append (take at extent.cells) mid, long, starts, length-drop (at + length bytes) extent.cells)

    front : take at (take at extent.cells ++ mid ++ drop (at + length bytes) extent.cells) ≡ take at extent.cells
    front = ap (take at) (append_assoc (take at extent.cells) mid (drop (at + length bytes) extent.cells)) ∙ take_at (take at extent.cells) (mid ++ drop (at + length bytes) extent.cells) at starts

    back : drop (at + length bytes) (take at extent.cells ++ mid ++ drop (at + length bytes) extent.cells) ≡ drop (at + length bytes) extent.cells
    back = drop_at (take at extent.cells ++ mid) (drop (at + length bytes) extent.cells) (at + length bytes) (omega (arith, length-append (take at extent.cells) mid, long, starts))

    within : (k : ℕ) → at ≤ k → k < at + length bytes → k < length (take at extent.cells ++ mid ++ drop (at + length bytes) extent.cells) → (get_or (take at extent.cells ++ mid ++ drop (at + length bytes) extent.cells) k (firm_cell 0)).loose ≡ true
    within k from to there =
        ap (λ (zs : List Cell). (get_or zs k (firm_cell 0)).loose) (append_assoc (take at extent.cells) mid (drop (at + length bytes) extent.cells))
        ∙ ap (λ (cell : Cell). cell.loose) (get_or-append_right (take at extent.cells) (mid ++ drop (at + length bytes) extent.cells) at k (firm_cell 0) starts from)
        ∙ ap (λ (cell : Cell). cell.loose) (get_or_append_left mid (drop (at + length bytes) extent.cells) (firm_cell 0) (k - at) (omega (arith, long)))
        ∙ ap (λ (cell : Cell). cell.loose) (get_or-map loose_cell bytes (k - at) 0 (firm_cell 0) (omega arith))

-- a write that starts past the end
pub loosened_past : (at n : ℕ) (extent : Extent) → length extent.cells ≤ at → extent ≡ loosened at n extent
loosened_past at n extent le =
    let cells = extent.cells in
    let f : Cell → Cell = λ cell. loose_cell cell.byte in
    sym (same_extent (take at cells ++ map f (take n (drop at cells)) ++ drop (at + n) cells) cells extent.safe extent.safe (
    ap (λ zs. zs ++ map f (take n (drop at cells)) ++ drop (at + n) cells) (take_all at cells le)
    ∙ ap (λ zs. cells ++ map f (take n (drop at cells)) ++ zs) (drop_all (at + n) cells (omega arith))
    ∙ ap (λ zs. cells ++ map f zs ++ []) (ap (take n) (drop_all at cells le) ∙ take_all n [] (omega arith))
    ∙ append-nil (cells ++ [])
    ∙ append-nil cells) refl)
