-- What the states of a flush leave in an area.
use Rattle.std.proofs.Common.{◌≡◌, ℕ, ◌+◌, ◌<◌, List, [], ◌∷◌, ◌++◌, map, length, get_or, take, drop, refl, sym, ◌∙◌, ap, arith}
use Rattle.std.proofs.lemmas.List.{append_assoc, take_at, drop_at, take-map, drop-map, take-take, take-append-drop, drop_more, map-append, get_or-take, length-take-le, length-append}
use Rattle.rr_disk.specs.declared.cell.Cell.{Cell}
use Rattle.rr_disk.specs.declared.area.Area.{Area}
use Rattle.rr_disk.specs.declared.area.Area.TheVariants.{First, Second}
use Rattle.rr_disk.specs.Areas.{Extent, Areas, extent_of, replaced, written, settled, synced, bytes_of, at_rest, firm_cell, loose_cell}
use Rattle.rr_disk.specs.Crash.{Images, IsCrashImage, MayLeave, restarted}
use Rattle.rr_disk.proofs.Agreeing.{at_rest_image}
use Rattle.rr_journal.specs.Flushes.{Flush}
use Rattle.rr_journal.specs.Moments.{image_of, with_image, body_written}

-- an area of a disk at rest
pub extent_restarted : (start : Images) (area : Area) → extent_of (restarted start) area ≡ at_rest (image_of start area)
extent_restarted start First = refl
extent_restarted start Second = refl

pub restarted_as : (start : Images) (area : Area) → restarted start ≡ replaced (restarted start) area (at_rest (image_of start area))
restarted_as start First = refl
restarted_as start Second = refl

pub image_of_with : (start : Images) (area : Area) (image : List ℕ) → image_of (with_image start area image) area ≡ image
image_of_with start First image = refl
image_of_with start Second image = refl

pub with_with : (start : Images) (area : Area) (one other : List ℕ) → with_image (with_image start area one) area other ≡ with_image start area other
with_with start First one other = refl
with_with start Second one other = refl

pub extent_replaced : (both : Areas) (area : Area) (extent : Extent) → extent_of (replaced both area extent) area ≡ extent
extent_replaced both First extent = refl
extent_replaced both Second extent = refl

-- crash images of a disk of which only one area isn't at rest
pub one_area : (start : Images) (area : Area) (extent : Extent) (images : Images) → IsCrashImage (replaced (restarted start) area extent) images
    → (images ≡ with_image start area (image_of images area)) × MayLeave extent (image_of images area)
one_area start First extent images is =
    let other : images.of_second ≡ start.of_second = at_rest_image start.of_second images.of_second is.may_second in
    (λ i. record { of_first = images.of_first; of_second = other i }, is.may_first)
one_area start Second extent images is =
    let other : images.of_first ≡ start.of_first = at_rest_image start.of_first images.of_first is.may_first in
    (λ i. record { of_first = other i; of_second = images.of_second }, is.may_second)

bytes_firm : (bytes : List ℕ) → map (λ cell. cell.byte) (map firm_cell bytes) ≡ bytes
bytes_firm [] = refl
bytes_firm (b ∷ bytes) = ap (λ bs. b ∷ bs) (bytes_firm bytes)

bytes_loose : (bytes : List ℕ) → map (λ cell. cell.byte) (map loose_cell bytes) ≡ bytes
bytes_loose [] = refl
bytes_loose (b ∷ bytes) = ap (λ bs. b ∷ bs) (bytes_loose bytes)

settled_rest : (bytes : List ℕ) → settled (at_rest bytes) ≡ at_rest bytes
settled_rest bytes = ap at_rest (bytes_firm bytes)

byte_of : Cell → ℕ
byte_of cell = cell.byte

bytes_written : (at : ℕ) (bytes content : List ℕ) → bytes_of (written at bytes (at_rest content)) ≡ take at content ++ bytes ++ drop (at + length bytes) content
bytes_written at bytes content =
    let cells = map firm_cell content in
    let byte : Cell → ℕ = λ cell. cell.byte in
    map-append byte (take at cells ++ map loose_cell bytes) (drop (at + length bytes) cells)
    ∙ ap (λ zs. zs ++ map byte (drop (at + length bytes) cells)) (map-append byte (take at cells) (map loose_cell bytes))
    ∙ ap (λ zs. map byte (take at cells) ++ zs ++ map byte (drop (at + length bytes) cells)) (bytes_loose bytes)
    ∙ ap (λ zs. zs ++ bytes ++ map byte (drop (at + length bytes) cells)) (sym (take-map byte at cells) ∙ ap (take at) (bytes_firm content))
    ∙ ap (λ zs. take at content ++ bytes ++ zs) (sym (drop-map byte (at + length bytes) cells) ∙ ap (drop (at + length bytes)) (bytes_firm content))

-- a sync after a write to a disk at rest leaves it at rest
pub synced_written : (start : Images) (area : Area) (at : ℕ) (bytes : List ℕ)
    → synced (replaced (restarted start) area (written at bytes (extent_of (restarted start) area)))
    ≡ restarted (with_image start area (take at (image_of start area) ++ bytes ++ drop (at + length bytes) (image_of start area)))
synced_written start First at bytes =
    let one = ap at_rest (bytes_written at bytes start.of_first) in
    let other = settled_rest start.of_second in
    λ i. record { first = one i; second = other i }
synced_written start Second at bytes =
    let one = ap at_rest (bytes_written at bytes start.of_second) in
    let other = settled_rest start.of_first in
    λ i. record { first = other i; second = one i }

-- the front stays when the body is written
pub body_front : (flush : Flush) (bytes : List ℕ) → flush.gate < length bytes → take (flush.gate + 1) (body_written flush bytes) ≡ take (flush.gate + 1) bytes
body_front flush bytes there =
    ap (take (flush.gate + 1)) (append_assoc (take (flush.gate + 1) bytes) flush.body (drop (flush.gate + 1 + length flush.body) bytes))
    ∙ take_at (take (flush.gate + 1) bytes) (flush.body ++ drop (flush.gate + 1 + length flush.body) bytes) (flush.gate + 1) (length-take-le (flush.gate + 1) bytes (omega arith))

-- and the body stands behind the gate
pub body_back : (flush : Flush) (bytes : List ℕ) → flush.gate < length bytes → drop (flush.gate + 1) (body_written flush bytes) ≡ flush.body ++ drop (flush.gate + 1 + length flush.body) bytes
body_back flush bytes there =
    ap (drop (flush.gate + 1)) (append_assoc (take (flush.gate + 1) bytes) flush.body (drop (flush.gate + 1 + length flush.body) bytes))
    ∙ drop_at (take (flush.gate + 1) bytes) (flush.body ++ drop (flush.gate + 1 + length flush.body) bytes) (flush.gate + 1) (length-take-le (flush.gate + 1) bytes (omega arith))

pub body_there : (flush : Flush) (bytes : List ℕ) → flush.gate < length bytes → flush.gate < length (body_written flush bytes)
body_there flush bytes there =
    let front = length-take-le (flush.gate + 1) bytes (omega arith) in
    omega (arith, front, length-append (take (flush.gate + 1) bytes ++ flush.body) (drop (flush.gate + 1 + length flush.body) bytes), length-append (take (flush.gate + 1) bytes) flush.body)

-- two lists that agree up to a place and at it
pub front_less : (gate : ℕ) (one other : List ℕ) → take (gate + 1) one ≡ take (gate + 1) other → (take gate one ≡ take gate other) × (get_or one gate 0 ≡ get_or other gate 0)
front_less gate one other same = (
  sym (take-take gate (gate + 1) one (omega arith)) ∙ ap (take gate) same ∙ take-take gate (gate + 1) other (omega arith),
  sym (get_or-take (gate + 1) one gate 0 (omega arith)) ∙ ap (λ (bs : List ℕ). get_or bs gate 0) same ∙ get_or-take (gate + 1) other gate 0 (omega arith),
)

-- an image of which all but the gate is known, with the gate's byte
pub gate_front : (gate : ℕ) (image front body rest : List ℕ) → gate < length image → length front ≡ gate → take gate image ≡ front → drop (gate + 1) image ≡ body ++ rest
    → take (gate + 1 + length body) image ≡ front ++ get_or image gate 0 ∷ body
gate_front gate image front body rest there long before behind =
    let x = get_or image gate 0 in
    let whole : image ≡ (front ++ x ∷ body) ++ rest =
    sym (take-append-drop gate image)
    ∙ ap (λ bs. bs ++ drop gate image) before
    ∙ ap (λ bs. front ++ bs) (drop_more image gate 0 there)
    ∙ ap (λ bs. front ++ x ∷ bs) behind
    ∙ sym (append_assoc front (x ∷ body) rest) in
    ap (take (gate + 1 + length body)) whole
    ∙ take_at (front ++ x ∷ body) rest (gate + 1 + length body) (length-append front (x ∷ body) ∙ omega (arith, long))
