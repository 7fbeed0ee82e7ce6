-- What stands in an area is among what a crash may leave of it.
use Rattle.std.proofs.Common.{◌≡◌, ◌<◌, ◌≤◌, ℕ, List, [], ◌∷◌, map, length, All, refl, subst, arith}
use Rattle.std.proofs.lemmas.List.{length-map}
use Rattle.std.proofs.lemmas.List.Elements.{All-head, All-tail}
use Rattle.rr_disk.specs.declared.cell.Cell.{Cell}
use Rattle.rr_disk.specs.Areas.{Extent, bytes_of}
use Rattle.rr_disk.specs.Crash.{Agrees, MayLeave}

agrees_own : (cells : List Cell) → All (λ cell. cell.byte < 256) cells → Agrees cells (map (λ cell. cell.byte) cells)
agrees_own [] fit = tt
agrees_own (cell ∷ cells) fit = (All-head (λ (x : Cell). x.byte < 256) cell cells fit, λ firm. refl, agrees_own cells (All-tail (λ (x : Cell). x.byte < 256) cell cells fit))

pub stands : (cells : List Cell) (safe : ℕ) (extent : Extent) → record { cells = cells; safe = safe } ≡ extent → safe ≤ length cells → All (λ cell. cell.byte < 256) cells → MayLeave extent (bytes_of extent)
stands cells safe extent is there fit =
    let may : MayLeave (record { cells = cells; safe = safe }) (map (λ cell. cell.byte) cells) = record { no_shorter = omega (arith, there, length-map cells (λ (x : Cell). x.byte)); agrees = agrees_own cells fit } in
    subst (λ (e : Extent). MayLeave e (bytes_of e)) is may
