-- What a failing write leaves of a disk in memory.
use Rattle.std.proofs.Common.{◌≡◌, ◌⊎◌, inl, inr, ℕ, zero, suc, ◌+◌, ◌<◌, ◌≤◌, max, List, [], ◌∷◌, ◌++◌, map, length, take, drop, Result, Ok, Err, refl, sym, ◌∙◌, ap, arith}
use Rattle.std.specs.Result.{MatchResult}
use Rattle.std.proofs.lemmas.List.{take-append-drop, append_assoc, append-nil, take_at, drop_at, drop-drop, map-append, length-map, length-append, length-take-le, length-drop}
use Rattle.rr_types.specs.declared.refusal.Refusal.{Refusal}
use Rattle.rr_disk.specs.declared.area.Area.{Area}
use Rattle.rr_disk.specs.declared.area.Area.TheVariants.{First, Second}
use Rattle.rr_disk.specs.Areas.{Extent, Areas, extent_of, replaced, written, loosened, loose_cell}
use Rattle.rr_disk.specs.Memory.{MemoryState, MemoryWrite}
use Rattle.rr_disk.specs.Failing.{OneByOne, overwrites, repeated, failing_bytes}
use Rattle.rr_disk.proofs.OneByOne.{extent_replaced}
use Rattle.rr_disk.proofs.Strips.{same_extent}

-- how long an area is after a write within it
length_written : (at : ℕ) (bytes : List ℕ) (extent : Extent) → at + length bytes ≤ length extent.cells → length (written at bytes extent).cells ≡ length extent.cells
length_written at bytes extent le =
    length-append (take at extent.cells ++ map loose_cell bytes) (drop (at + length bytes) extent.cells)
    ∙ omega (arith, length-append (take at extent.cells) (map loose_cell bytes), length-map bytes loose_cell, length-take-le at extent.cells (omega arith), length-drop (at + length bytes) extent.cells)

length_after : (at : ℕ) (bytes : List ℕ) (extent : Extent) → at ≤ length extent.cells → length (written at bytes extent).cells ≡ max (length extent.cells) (at + length bytes)
length_after at bytes extent le =
    length-append (take at extent.cells ++ map loose_cell bytes) (drop (at + length bytes) extent.cells)
    ∙ omega (arith, length-append (take at extent.cells) (map loose_cell bytes), length-map bytes loose_cell, length-take-le at extent.cells le, length-drop (at + length bytes) extent.cells)

-- a write and another behind it are one
written_behind : (at : ℕ) (one other : List ℕ) (extent : Extent) → at + length one + length other ≤ length extent.cells → written (at + length one) other (written at one extent) ≡ written at (one ++ other) extent
written_behind at one other extent le =
    let cells = extent.cells in
    let front = take at cells ++ map loose_cell one in
    let size : length front ≡ at + length one = length-append (take at cells) (map loose_cell one) ∙ omega (arith, length-map one loose_cell, length-take-le at cells (omega arith)) in
    let before : take (at + length one) (written at one extent).cells ≡ front = take_at front (drop (at + length one) cells) (at + length one) size in
    let rest : drop (at + length one) (written at one extent).cells ≡ drop (at + length one) cells = drop_at front (drop (at + length one) cells) (at + length one) size in
    let after : drop (at + length one + length other) (written at one extent).cells ≡ drop (at + length (one ++ other)) cells =
    sym (drop-drop (length other) (at + length one) (written at one extent).cells) ∙ ap (drop (length other)) rest ∙ drop-drop (length other) (at + length one) cells ∙ ap (λ n. drop n cells) (omega (arith, length-append one other)) in
    same_extent (written (at + length one) other (written at one extent)).cells (written at (one ++ other) extent).cells extent.safe extent.safe
    (ap (λ zs. zs ++ map loose_cell other ++ drop (at + length one + length other) (written at one extent).cells) before
    ∙ ap (λ zs. front ++ map loose_cell other ++ zs) after
    ∙ ap (λ zs. zs ++ drop (at + length (one ++ other)) cells) (append_assoc (take at cells) (map loose_cell one) (map loose_cell other) ∙ ap (λ zs. take at cells ++ zs) (sym (map-append loose_cell one other))))
    refl

-- a write over a write of as many bytes is as if that hadn't been
pub written_again : (at : ℕ) (one other : List ℕ) (extent : Extent) → at ≤ length extent.cells → length other ≡ length one → written at other (written at one extent) ≡ written at other extent
written_again at one other extent le same =
    let cells = extent.cells in
    let start : length (take at cells) ≡ at = length-take-le at cells le in
    let front = take at cells ++ map loose_cell one in
    let size : length front ≡ at + length other = length-append (take at cells) (map loose_cell one) ∙ omega (arith, length-map one loose_cell, start, same) in
    let before : take at (written at one extent).cells ≡ take at cells =
    ap (take at) (append_assoc (take at cells) (map loose_cell one) (drop (at + length one) cells)) ∙ take_at (take at cells) (map loose_cell one ++ drop (at + length one) cells) at start in
    let after : drop (at + length other) (written at one extent).cells ≡ drop (at + length other) cells =
    drop_at front (drop (at + length one) cells) (at + length other) size ∙ ap (λ n. drop (at + n) cells) (sym same) in
    same_extent (written at other (written at one extent)).cells (written at other extent).cells extent.safe extent.safe
    (ap (λ zs. zs ++ map loose_cell other ++ drop (at + length other) (written at one extent).cells) before ∙ ap (λ zs. take at cells ++ map loose_cell other ++ zs) after)
    refl

replaced_twice : (both : Areas) (area : Area) (one other : Extent) → replaced (replaced both area one) area other ≡ replaced both area other
replaced_twice both First one other = refl
replaced_twice both Second one other = refl

replaced_same : (both : Areas) (area : Area) → replaced both area (extent_of both area) ≡ both
replaced_same both First = refl
replaced_same both Second = refl

written_none : (at : ℕ) (extent : Extent) → written at [] extent ≡ extent
written_none at extent = same_extent (written at [] extent).cells extent.cells extent.safe extent.safe (
    ap (λ zs. zs ++ drop (at + 0) extent.cells) (append-nil (take at extent.cells))
    ∙ ap (λ n. take at extent.cells ++ drop n extent.cells) (omega arith)
    ∙ take-append-drop at extent.cells) refl

-- writes of one byte each within an area are one write
pub one_write : (area : Area) (at : ℕ) (bytes : List ℕ) (old new : MemoryState) → at + length bytes ≤ length (extent_of old.areas area).cells → OneByOne MemoryWrite area at bytes old new
    → new.areas ≡ replaced old.areas area (written at bytes (extent_of old.areas area))
one_write area at [] old new le same =
    ap (λ (m : MemoryState). m.areas) same ∙ sym (ap (λ (e : Extent). replaced old.areas area e) (written_none at (extent_of old.areas area)) ∙ replaced_same old.areas area)
one_write area at (b ∷ bytes) old new le (mid, Ok u, gave, rest) =
    let e = extent_of old.areas area in
    let first = written at (b ∷ []) e in
    let is : mid.areas ≡ replaced old.areas area first = ap (λ (m : MemoryState). m.areas) gave.1 in
    let here : extent_of mid.areas area ≡ first = ap (λ (x : Areas). extent_of x area) is ∙ extent_replaced old.areas area first in
    let room : at + 1 + length bytes ≤ length (extent_of mid.areas area).cells = omega (arith, le, length_written at (b ∷ []) e (omega (arith, le)), ap (λ (x : Extent). length x.cells) here) in
    one_write area (at + 1) bytes mid new room rest
    ∙ ap (λ (x : Areas). replaced x area (written (at + 1) bytes (extent_of mid.areas area))) is
    ∙ replaced_twice old.areas area first (written (at + 1) bytes (extent_of mid.areas area))
    ∙ ap (λ (x : Extent). replaced old.areas area (written (at + 1) bytes x)) here
    ∙ ap (λ (x : Extent). replaced old.areas area x) (written_behind at (b ∷ []) bytes e (omega (arith, le)))
one_write area at (b ∷ bytes) old new le (mid, Err e, gave, rest) = absurd (omega (arith, gave.1))

pub length-repeated : (fill : List ℕ) (k n : ℕ) → length (repeated fill k n) ≡ n
length-repeated fill k zero = refl
length-repeated fill k (suc n) = ap suc (length-repeated fill (k + 1) n)

-- a failing write leaves its fill, or its bytes where that is empty; where it starts past the end or memory is refused, the rest of the range is loose
pub failing_in_memory : (area : Area) (at : ℕ) (bytes fill : List ℕ) (old mid new : MemoryState) (r : Result (Unit {0}) Refusal) → MemoryWrite old area at bytes r mid
    → MatchResult r (λ _. OneByOne MemoryWrite area at (overwrites fill (length bytes)) mid new) (λ _. new ≡ mid)
    → ((at ≤ length (extent_of old.areas area).cells) × (new.areas ≡ replaced old.areas area (written at (failing_bytes fill bytes) (extent_of old.areas area))))
    ⊎ ((length (extent_of old.areas area).cells < at + length bytes) × (new.areas ≡ replaced old.areas area (loosened at (length bytes) (extent_of old.areas area))))
failing_in_memory area at bytes fill old mid new (Err e) gave rest = inr (gave.1, ap (λ (m : MemoryState). m.areas) rest ∙ ap (λ (m : MemoryState). m.areas) gave.2)
failing_in_memory area at bytes [] old mid new (Ok u) gave rest = inl (gave.0, ap (λ (m : MemoryState). m.areas) rest ∙ ap (λ (m : MemoryState). m.areas) gave.1)
failing_in_memory area at bytes (b ∷ fill) old mid new (Ok u) gave rest =
    let e = extent_of old.areas area in
    let over = repeated (b ∷ fill) 0 (length bytes) in
    let long : length over ≡ length bytes = length-repeated (b ∷ fill) 0 (length bytes) in
    let is : mid.areas ≡ replaced old.areas area (written at bytes e) = ap (λ (m : MemoryState). m.areas) gave.1 in
    let here : extent_of mid.areas area ≡ written at bytes e = ap (λ (x : Areas). extent_of x area) is ∙ extent_replaced old.areas area (written at bytes e) in
    let room : at + length over ≤ length (extent_of mid.areas area).cells = omega (arith, long, length_after at bytes e gave.0, ap (λ (x : Extent). length x.cells) here) in
    inl (
      gave.0,
      one_write area at over mid new room rest
          ∙ ap (λ (x : Areas). replaced x area (written at over (extent_of mid.areas area))) is
          ∙ replaced_twice old.areas area (written at bytes e) (written at over (extent_of mid.areas area))
          ∙ ap (λ (x : Extent). replaced old.areas area (written at over x)) here
          ∙ ap (λ (x : Extent). replaced old.areas area x) (written_again at bytes over e gave.0 long),
    )
