-- What crash images agree with.
use Rattle.std.proofs.Common.{◌≡◌, ℕ, zero, suc, ◌+◌, ◌<◌, ◌≤◌, List, [], ◌∷◌, map, length, take, drop, All, refl, sym, ◌∙◌, ap, subst, arith}
use Rattle.std.proofs.lemmas.List.{take-map, drop-map, length-take, length-take-le, length-drop, length-map}
use Rattle.std.proofs.lemmas.List.Elements.{All-cons, All-nil}
use Rattle.rr_disk.specs.declared.cell.Cell.{Cell}
use Rattle.rr_disk.specs.Areas.{Extent, Torn, firm_cell, at_rest}
use Rattle.rr_disk.specs.Crash.{Agrees, MayLeave}

pub agrees_length : (cells : List Cell) (image : List ℕ) → Agrees cells image → length image ≤ length cells
agrees_length cells [] agrees = omega arith
agrees_length [] (b ∷ image) agrees = absurd agrees
agrees_length (cell ∷ cells) (b ∷ image) agrees = omega (arith, agrees_length cells image agrees.2)

pub agrees_bytes : (cells : List Cell) (image : List ℕ) → Agrees cells image → All (λ b. b < 256) image
agrees_bytes cells [] agrees = All-nil (λ b. b < 256)
agrees_bytes [] (b ∷ image) agrees = absurd agrees
agrees_bytes (cell ∷ cells) (b ∷ image) agrees = All-cons (λ b. b < 256) b image agrees.0 (agrees_bytes cells image agrees.2)

pub agrees_take : (k : ℕ) (cells : List Cell) (image : List ℕ) → Agrees cells image → Agrees (take k cells) (take k image)
agrees_take zero cells image agrees = tt
agrees_take (suc k) cells [] agrees = tt
agrees_take (suc k) [] (b ∷ image) agrees = agrees
agrees_take (suc k) (cell ∷ cells) (b ∷ image) agrees = (agrees.0, agrees.1, agrees_take k cells image agrees.2)

pub agrees_drop : (k : ℕ) (cells : List Cell) (image : List ℕ) → Agrees cells image → Agrees (drop k cells) (drop k image)
agrees_drop zero cells image agrees = agrees
agrees_drop (suc k) cells [] agrees = tt
agrees_drop (suc k) [] (b ∷ image) agrees = absurd agrees
agrees_drop (suc k) (cell ∷ cells) (b ∷ image) agrees = agrees_drop k cells image agrees.2

-- where nothing is loose, an image of the whole length is the bytes
pub agrees_firm : (bytes image : List ℕ) → Agrees (map firm_cell bytes) image → length bytes ≤ length image → image ≡ bytes
agrees_firm [] [] agrees le = refl
agrees_firm [] (b ∷ image) agrees le = absurd agrees
agrees_firm (x ∷ bytes) [] agrees le = absurd (omega arith)
agrees_firm (x ∷ bytes) (b ∷ image) agrees le =
    let rest : image ≡ bytes = agrees_firm bytes image agrees.2 (omega arith) in
    let here : b ≡ x = agrees.1 refl in
    cc

-- a disk at rest has one image
pub at_rest_image : (bytes image : List ℕ) → MayLeave (at_rest bytes) image → image ≡ bytes
at_rest_image bytes image may = agrees_firm bytes image may.agrees may.no_shorter

-- the front of what is firm
pub agrees_front : (k : ℕ) (cells : List Cell) (image front : List ℕ) → Agrees cells image → take k cells ≡ map firm_cell front → k ≤ length image → take k image ≡ front
agrees_front k cells image front agrees firm le =
    let fewer = agrees_length cells image agrees in
    let size : length front ≡ k = sym (length-map front firm_cell) ∙ ap length (sym firm) ∙ length-take-le k cells (omega arith) in
    agrees_firm front (take k image) (subst (λ (cs : List Cell). Agrees cs (take k image)) firm (agrees_take k cells image agrees)) (omega (arith, size, length-take k image))

-- a failed write leaves what stands before it
pub torn_front : (at n : ℕ) (bytes image : List ℕ) (extent : Extent) → Torn at n (at_rest bytes) extent → MayLeave extent image → at ≤ length bytes → take at image ≡ take at bytes
torn_front at n bytes image extent torn may le =
    agrees_front at extent.cells image (take at bytes) may.agrees (torn.before ∙ take-map firm_cell at bytes) (omega (arith, may.no_shorter, torn.safe_length))

-- and what stands behind it
pub torn_back : (at n : ℕ) (bytes image : List ℕ) (extent : Extent) → Torn at n (at_rest bytes) extent → MayLeave extent image → at + n ≤ length bytes
    → (length image ≡ length bytes) × (drop (at + n) image ≡ drop (at + n) bytes)
torn_back at n bytes image extent torn may le =
    let fewer = agrees_length extent.cells image may.agrees in
    let whole : length image ≡ length bytes = omega (arith, fewer, may.no_shorter, torn.safe_length, torn.no_longer, length-map bytes firm_cell) in
    let firm : drop (at + n) extent.cells ≡ map firm_cell (drop (at + n) bytes) = torn.after ∙ drop-map firm_cell (at + n) bytes in (
      whole,
      agrees_firm (drop (at + n) bytes) (drop (at + n) image) (subst (λ (cs : List Cell). Agrees cs (drop (at + n) image)) firm (agrees_drop (at + n) extent.cells image may.agrees))
          (omega (arith, whole, length-drop (at + n) bytes, length-drop (at + n) image)),
    )
