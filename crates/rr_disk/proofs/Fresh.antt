-- What a write and a sync make of an empty area.
use Rattle.std.proofs.Common.{◌≡◌, ℕ, zero, suc, ◌+◌, List, [], ◌∷◌, ◌++◌, length, map, drop, refl, ap, ◌∙◌}
use Rattle.std.proofs.lemmas.List.{append-nil}
use Rattle.rr_disk.specs.declared.cell.Cell.{Cell}
use Rattle.rr_disk.specs.Areas.{Extent, loose_cell, at_rest, written, settled}

loose_bytes : (bytes : List ℕ) → map (λ (cell : Cell). cell.byte) (map loose_cell bytes) ≡ bytes
loose_bytes [] = refl
loose_bytes (b ∷ bytes) = ap (λ bs. b ∷ bs) (loose_bytes bytes)

abbrev no_cells : List Cell
no_cells = []

none_behind : (n : ℕ) → drop n no_cells ≡ no_cells
none_behind zero = refl
none_behind (suc n) = refl

pub settled_fresh : (bytes : List ℕ) (extent : Extent) → extent ≡ written 0 bytes (at_rest []) → settled extent ≡ at_rest bytes
settled_fresh bytes extent is =
    ap settled is
    ∙ ap at_rest (
    ap (λ (cells : List Cell). map (λ (cell : Cell). cell.byte) (map loose_cell bytes ++ cells)) (none_behind (0 + length bytes))
    ∙ ap (map (λ (cell : Cell). cell.byte)) (append-nil (map loose_cell bytes))
    ∙ loose_bytes bytes
    )
