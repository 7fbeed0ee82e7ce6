-- Areas in order stay so behind each device call and each crash, and what stands in them is what a crash may leave.
use Rattle.std.proofs.Common.{◌≡◌, ⊎_elim, ℕ, zero, suc, ◌+◌, ◌^◌, ◌<◌, ◌≤◌, List, [], ◌∷◌, ◌++◌, map, length, take, drop, All, refl, sym, ap, subst, arith}
use Rattle.std.proofs.lemmas.List.{length-append, length-map, length-take, length-drop}
use Rattle.std.proofs.lemmas.Simd.{map-map}
use Rattle.std.proofs.lemmas.List.Elements.{All-nil, All-cons, All-head, All-tail, All-map, All-append, All-take, All-drop}
use Rattle.rr_disk.specs.declared.area.Area.{Area}
use Rattle.rr_disk.specs.declared.area.Area.TheVariants.{First, Second}
use Rattle.rr_disk.specs.declared.cell.Cell.{Cell}
use Rattle.rr_disk.specs.Areas.{Extent, Areas, Torn, extent_of, replaced, bytes_of, firm_cell, loose_cell, at_rest, settled, synced, written, loosened}
use Rattle.rr_disk.specs.Crash.{Agrees, MayLeave, Images, IsCrashImage, restarted, clamped, filled, left_of, loose_count, crash_images}
use Rattle.rr_disk.specs.Failing.{repeated, failing_bytes}
use Rattle.rr_disk.proofs.Agreeing.{at_rest_image}
use Rattle.rr_disk.proofs.Filled.{length-left_of, filled_fits, left_fits, agrees_left}
use Rattle.rr_disk.proofs.Strips.{lt_or_le}
use Rattle.rr_disk.proofs.Torn.{torn_loosened, torn_written}
use Rattle.rr_journal.specs.Calls.{Call, Read, Write, Sync, after_call, after_starved, after_failing}
use Rattle.rr_journal.specs.OpeningTable.{contents, IsLeftBy}
use Rattle.rr_node.specs.Worlds.{IsInOrder, AreInOrder}

-- bytes
abbrev pub Bytes : List ℕ → Type 0
Bytes bytes = All (λ b. b < 256) bytes

-- cells of bytes
abbrev fits : Cell → Type 0
fits cell = cell.byte < 256

abbrev byte_of : Cell → ℕ
byte_of cell = cell.byte

-- ---- what stands in an area is what a crash may leave

agrees_own : (cells : List Cell) → All fits cells → Agrees cells (map byte_of cells)
agrees_own [] fit = tt
agrees_own (cell ∷ cells) fit = (All-head fits cell cells fit, λ firm. refl, agrees_own cells (All-tail fits cell cells fit))

own_left : (extent : Extent) → IsInOrder extent → MayLeave extent (bytes_of extent)
own_left extent order = record { no_shorter = omega (arith, order.safe, length-map extent.cells byte_of); agrees = agrees_own extent.cells order.bytes }

pub own_image : (both : Areas) → AreInOrder both → IsCrashImage both (contents both)
own_image both order = record { may_first = own_left both.first order.0; may_second = own_left both.second order.1 }

-- ---- areas in order stay so

pub rest_in_order : (bytes : List ℕ) → Bytes bytes → length bytes < 2 ^ 32 → IsInOrder (at_rest bytes)
rest_in_order bytes fit small = record {
  bytes = All-map fits firm_cell bytes fit;
  safe = omega (arith, length-map bytes firm_cell);
  small = omega (arith, small, length-map bytes firm_cell);
}

pub settled_in_order : (extent : Extent) → IsInOrder extent → IsInOrder (settled extent)
settled_in_order extent order =
    rest_in_order (bytes_of extent) (All-map (λ b. b < 256) byte_of extent.cells order.bytes) (omega (arith, order.small, length-map extent.cells byte_of))

pub synced_in_order : (both : Areas) → AreInOrder both → AreInOrder (synced both)
synced_in_order both order = (settled_in_order both.first order.0, settled_in_order both.second order.1)

written_in_order : (at : ℕ) (bytes : List ℕ) (extent : Extent) → Bytes bytes → at + length bytes < 2 ^ 32 → IsInOrder extent → IsInOrder (written at bytes extent)
written_in_order at bytes extent fit small order =
    let long = length-append (take at extent.cells ++ map loose_cell bytes) (drop (at + length bytes) extent.cells) in
    let front = length-append (take at extent.cells) (map loose_cell bytes) in
    let mid = length-map bytes loose_cell in
    let before = length-take at extent.cells in
    let behind = length-drop (at + length bytes) extent.cells in
    record {
      bytes = All-append fits (take at extent.cells ++ map loose_cell bytes) (drop (at + length bytes) extent.cells)
          (All-append fits (take at extent.cells) (map loose_cell bytes) (All-take fits at extent.cells order.bytes) (All-map fits loose_cell bytes fit))
          (All-drop fits (at + length bytes) extent.cells order.bytes);
      safe = omega (arith, order.safe, long, front, mid, before, behind);
      small = omega (arith, order.small, small, long, front, mid, before, behind);
    }

loosened_length : (at n : ℕ) (extent : Extent) → length (loosened at n extent).cells ≡ length extent.cells
loosened_length at n extent =
    let f : Cell → Cell = λ cell. loose_cell cell.byte in
    omega (
      arith,
      length-append (take at extent.cells ++ map f (take n (drop at extent.cells))) (drop (at + n) extent.cells),
      length-append (take at extent.cells) (map f (take n (drop at extent.cells))),
      length-map (take n (drop at extent.cells)) f,
      length-take n (drop at extent.cells),
      length-drop at extent.cells,
      length-take at extent.cells,
      length-drop (at + n) extent.cells,
    )

loosened_in_order : (at n : ℕ) (extent : Extent) → IsInOrder extent → IsInOrder (loosened at n extent)
loosened_in_order at n extent order =
    let f : Cell → Cell = λ cell. loose_cell cell.byte in
    let long = loosened_length at n extent in
    record {
      bytes = All-append fits (take at extent.cells ++ map f (take n (drop at extent.cells))) (drop (at + n) extent.cells)
          (All-append fits (take at extent.cells) (map f (take n (drop at extent.cells))) (All-take fits at extent.cells order.bytes)
          (All-map fits f (take n (drop at extent.cells)) (All-take fits n (drop at extent.cells) (All-drop fits at extent.cells order.bytes))))
          (All-drop fits (at + n) extent.cells order.bytes);
      safe = omega (arith, order.safe, long);
      small = omega (arith, order.small, long);
    }

replaced_in_order : (both : Areas) (area : Area) (extent : Extent) → AreInOrder both → IsInOrder extent → AreInOrder (replaced both area extent)
replaced_in_order both First extent order new = (new, order.1)
replaced_in_order both Second extent order new = (order.0, new)

extent_in_order : (both : Areas) (area : Area) → AreInOrder both → IsInOrder (extent_of both area)
extent_in_order both First order = order.0
extent_in_order both Second order = order.1

-- a call writes bytes below byte 4,294,967,296
abbrev pub IsSmall : Call → Type 0
IsSmall (Read area) = Unit {0}
IsSmall (Write area at bytes) = Bytes bytes × (at + length bytes < 2 ^ 32)
IsSmall Sync = Unit {0}

pub call_in_order : (call : Call) (both : Areas) → IsSmall call → AreInOrder both → AreInOrder (after_call call both)
call_in_order (Read area) both small order = order
call_in_order (Write area at bytes) both small order =
    replaced_in_order both area (written at bytes (extent_of both area)) order (written_in_order at bytes (extent_of both area) small.0 small.1 (extent_in_order both area order))
call_in_order Sync both small order = synced_in_order both order

pub starved_in_order : (call : Call) (both : Areas) → AreInOrder both → AreInOrder (after_starved call both)
starved_in_order (Read area) both order = order
starved_in_order (Write area at bytes) both order =
    replaced_in_order both area (loosened at (length bytes) (extent_of both area)) order (loosened_in_order at (length bytes) (extent_of both area) (extent_in_order both area order))
starved_in_order Sync both order = order

-- what a failing write leaves in its range are bytes, as many as were to be written
repeated_fits : (fill : List ℕ) (k n : ℕ) → Bytes fill → Bytes (repeated fill k n)
repeated_fits fill k zero fit = All-nil (λ b. b < 256)
repeated_fits fill k (suc n) fit = All-cons (λ b. b < 256) (filled fill k 0) (repeated fill (k + 1) n) (filled_fits fill k 0 fit (omega arith)) (repeated_fits fill (k + 1) n fit)

repeated_length : (fill : List ℕ) (k n : ℕ) → length (repeated fill k n) ≡ n
repeated_length fill k zero = refl
repeated_length fill k (suc n) = ap suc (repeated_length fill (k + 1) n)

failing_fits : (fill bytes : List ℕ) → Bytes fill → Bytes bytes → Bytes (failing_bytes fill bytes)
failing_fits [] bytes fit own = own
failing_fits (b ∷ fill) bytes fit own = repeated_fits (b ∷ fill) 0 (length bytes) fit

failing_length : (fill bytes : List ℕ) → length (failing_bytes fill bytes) ≡ length bytes
failing_length [] bytes = refl
failing_length (b ∷ fill) bytes = repeated_length (b ∷ fill) 0 (length bytes)

pub failing_in_order : (fill : List ℕ) (call : Call) (both : Areas) → Bytes fill → IsSmall call → AreInOrder both → AreInOrder (after_failing fill call both)
failing_in_order fill (Read area) both fit small order = order
failing_in_order fill (Write area at bytes) both fit small order =
    let long = failing_length fill bytes in
    replaced_in_order both area (written at (failing_bytes fill bytes) (extent_of both area)) order
    (written_in_order at (failing_bytes fill bytes) (extent_of both area) (failing_fits fill bytes fit small.0) (omega (arith, small.1, long)) (extent_in_order both area order))
failing_in_order fill Sync both fit small order = order

-- ---- what a crash leaves

left_in_order : (fill : List ℕ) (k n : ℕ) (extent : Extent) → Bytes fill → IsInOrder extent → IsInOrder (at_rest (left_of fill k (take n extent.cells)))
left_in_order fill k n extent fit order =
    rest_in_order (left_of fill k (take n extent.cells)) (left_fits fill k (take n extent.cells) fit (All-take fits n extent.cells order.bytes))
    (omega (arith, order.small, length-left_of fill k (take n extent.cells), length-take n extent.cells))

pub crash_in_order : (cut_first cut_second : ℕ) (fill : List ℕ) (both : Areas) → Bytes fill → AreInOrder both → AreInOrder (restarted (crash_images cut_first cut_second fill both))
crash_in_order cut_first cut_second fill both fit order = (
  left_in_order fill 0 (clamped cut_first both.first) both.first fit order.0,
  left_in_order fill (loose_count (take (clamped cut_first both.first) both.first.cells)) (clamped cut_second both.second) both.second fit order.1,
)

left_may : (fill : List ℕ) (k cut : ℕ) (extent : Extent) → Bytes fill → IsInOrder extent → MayLeave extent (left_of fill k (take (clamped cut extent) extent.cells))
left_may fill k cut extent fit order = record {
  no_shorter = omega (arith, order.safe, length-left_of fill k (take (clamped cut extent) extent.cells), length-take (clamped cut extent) extent.cells);
  agrees = agrees_left fill k (clamped cut extent) extent.cells fit order.bytes;
}

-- a crash with these cuts and this fill is one that may be
pub crash_image : (cut_first cut_second : ℕ) (fill : List ℕ) (both : Areas) → Bytes fill → AreInOrder both → IsCrashImage both (crash_images cut_first cut_second fill both)
crash_image cut_first cut_second fill both fit order = record {
  may_first = left_may fill 0 cut_first both.first fit order.0;
  may_second = left_may fill (loose_count (take (clamped cut_first both.first) both.first.cells)) cut_second both.second fit order.1;
}

-- a crash of a disk at rest leaves it as it is
pub rest_image : (start images : Images) → IsCrashImage (restarted start) images → start ≡ images
rest_image start images is =
    let one = at_rest_image start.of_first images.of_first is.may_first in
    let other = at_rest_image start.of_second images.of_second is.may_second in
    λ i. record { of_first = sym one i; of_second = sym other i }

-- ---- what a failed call leaves is torn

-- the range of a write that found no memory is loose, whether the area was to grow or not
pub torn_starved : (at n : ℕ) (extent : Extent) → at ≤ length extent.cells → Torn at n extent (loosened at n extent)
torn_starved at n extent le = ⊎_elim grows stays (lt_or_le (length extent.cells) (at + n))
  where
    grows : length extent.cells < at + n → Torn at n extent (loosened at n extent)
    grows past = torn_loosened at n extent past

    stays : at + n ≤ length extent.cells → Torn at n extent (loosened at n extent)
    stays there =
        let f : Cell → Cell = λ cell. loose_cell cell.byte in
        let bytes : List ℕ = map byte_of (take n (drop at extent.cells)) in
        let count : length (map byte_of (take n (drop at extent.cells))) ≡ n = omega (arith, length-map (take n (drop at extent.cells)) byte_of, length-take n (drop at extent.cells), length-drop at extent.cells) in
        let same : map loose_cell (map byte_of (take n (drop at extent.cells))) ≡ map f (take n (drop at extent.cells)) = map-map loose_cell byte_of (take n (drop at extent.cells)) in
        let is : written at bytes extent ≡ loosened at n extent =
        (λ i. record { cells = take at extent.cells ++ same i ++ drop (at + count i) extent.cells; safe = extent.safe }) in
        subst (λ (k : ℕ). Torn at k extent (loosened at n extent)) count (subst (λ (e : Extent). Torn at (length bytes) extent e) is (torn_written at bytes extent le))

extent_back : (both : Areas) (area : Area) (extent : Extent) → extent_of (replaced both area extent) area ≡ extent
extent_back both First extent = refl
extent_back both Second extent = refl

-- a call starts within its area
abbrev pub StartsWithin : Call → Areas → Type 0
StartsWithin (Read area) both = Unit {0}
StartsWithin (Write area at bytes) both = at ≤ length (extent_of both area).cells
StartsWithin Sync both = Unit {0}

torn_into : (both : Areas) (area : Area) (at n : ℕ) (extent : Extent) → Torn at n (extent_of both area) extent → Torn at n (extent_of both area) (extent_of (replaced both area extent) area) × (replaced both area extent ≡ replaced both area (extent_of (replaced both area extent) area))
torn_into both area at n extent torn =
    let back = extent_back both area extent in
    (subst (λ (e : Extent). Torn at n (extent_of both area) e) (sym back) torn, ap (λ (e : Extent). replaced both area e) (sym back))

pub starved_left : (call : Call) (both : Areas) → StartsWithin call both → IsLeftBy call both (after_starved call both)
starved_left (Read area) both within = refl
starved_left (Write area at bytes) both within =
    torn_into both area at (length bytes) (loosened at (length bytes) (extent_of both area)) (torn_starved at (length bytes) (extent_of both area) within)
starved_left Sync both within = refl

pub failing_left : (fill : List ℕ) (call : Call) (both : Areas) → StartsWithin call both → IsLeftBy call both (after_failing fill call both)
failing_left fill (Read area) both within = refl
failing_left fill (Write area at bytes) both within =
    torn_into both area at (length bytes) (written at (failing_bytes fill bytes) (extent_of both area))
    (subst (λ (k : ℕ). Torn at k (extent_of both area) (written at (failing_bytes fill bytes) (extent_of both area))) (failing_length fill bytes) (torn_written at (failing_bytes fill bytes) (extent_of both area) within))
failing_left fill Sync both within = refl
