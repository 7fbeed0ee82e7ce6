-- Whether an area looks formatted, as device calls go by, and what is known of that at the end of an opening.
use Rattle.std.proofs.Common.{◌≡◌, ◌≢◌, ℕ, zero, suc, ◌<◌, ◌≤◌, true, List, [], ◌∷◌, length, get_or, refl, sym, ap, subst, ◌∙◌, arith}
use Rattle.std.proofs.lemmas.Bool.{eqb-true}
use Rattle.rr_types.specs.declared.promise.Entry.{Entry}
use Rattle.rr_disk.specs.declared.area.Area.{Area}
use Rattle.rr_disk.specs.declared.area.Area.TheVariants.{First, Second}
use Rattle.rr_disk.specs.declared.cell.Cell.{Cell}
use Rattle.rr_disk.specs.Areas.{Extent, Areas, extent_of, bytes_of, written, at_rest, synced}
use Rattle.rr_disk.specs.Crash.{Images, restarted}
use Rattle.rr_journal.specs.Moments.{image_of}
use Rattle.rr_journal.specs.declared.journal.Journal.{Journal}
use Rattle.rr_journal.specs.Calls.{Call, Read, Write, Sync, after_call, must_close}
use Rattle.rr_journal.specs.Image.{Content}
use Rattle.rr_journal.specs.OtherAreas.{other_area, closes_in, IsOtherKnown}
use Rattle.rr_journal.proofs.FoundLaws.{is_found}
use Rattle.rr_journal.proofs.OtherLaws.{settled_closes}
use Rattle.rr_journal.proofs.BesideLaws.{active_closes}
use Rattle.rr_core.specs.Recoveries.{StandsFor}
use Rattle.rr_node.specs.Views.{NodeDisk, areas_in, IsAppending}

-- a write behind the first byte leaves it
written_closes : (at : ℕ) (bytes : List ℕ) (extent : Extent) → 0 < at → at ≤ length extent.cells → must_close (bytes_of (written at bytes extent)) ≡ must_close (bytes_of extent)
written_closes at bytes extent some le = by at extent.cells some le
  where
    by : (at : ℕ) (cells : List Cell) → 0 < at → at ≤ length cells → must_close (bytes_of (written at bytes (record { cells = cells; safe = extent.safe }))) ≡ must_close (bytes_of (record { cells = cells; safe = extent.safe }))
    by zero cells some le = absurd (omega arith)
    by (suc k) [] some le = absurd (omega arith)
    by (suc k) (cell ∷ cells) some le = refl

-- the offset of a call lies within its area
abbrev pub Reaches : Call → Areas → Type 0
Reaches (Read area) both = Unit {0}
Reaches (Write area at bytes) both = at ≤ length (extent_of both area).cells
Reaches Sync both = Unit {0}

-- both areas look as formatted as they did
abbrev pub KeepsFronts : Areas → Areas → Area → Type 0
KeepsFronts old new area = (closes_in new area ≡ closes_in old area) × (closes_in new (other_area area) ≡ closes_in old (other_area area))

pub sync_keeps : (both : Areas) (area : Area) → KeepsFronts both (synced both) area
sync_keeps both First = (settled_closes both.first, settled_closes both.second)
sync_keeps both Second = (settled_closes both.second, settled_closes both.first)

pub write_keeps : (both : Areas) (area : Area) (at : ℕ) (bytes : List ℕ) → 0 < at → at ≤ length (extent_of both area).cells → KeepsFronts both (after_call (Write area at bytes) both) area
write_keeps both First at bytes some le = (written_closes at bytes both.first some le, refl)
write_keeps both Second at bytes some le = (written_closes at bytes both.second some le, refl)

-- a call in the other area leaves this one
pub beside_keeps : (both : Areas) (area : Area) (at : ℕ) (bytes : List ℕ) → closes_in (after_call (Write (other_area area) at bytes) both) area ≡ closes_in both area
beside_keeps both First at bytes = refl
beside_keeps both Second at bytes = refl

-- an open gate at the front
pub opened_closes : (both : Areas) (area : Area) → closes_in (after_call (Write area 0 (165 ∷ [])) both) area ≡ true
opened_closes both First = refl
opened_closes both Second = refl

pub other_other : (area : Area) → other_area (other_area area) ≡ area
other_other First = refl
other_other Second = refl

-- a journal over another disk that looks so
pub appends_on : (j k : Journal NodeDisk) → k ≡ record j { disk = k.disk } → closes_in k.disk.below.areas j.area ≡ closes_in j.disk.below.areas j.area → IsAppending j → IsAppending k
appends_on j k same keeps h = subst IsAppending (sym same) (record { behind = h.behind; formatted = keeps ∙ h.formatted })

pub knows_on : (j k : Journal NodeDisk) → k ≡ record j { disk = k.disk } → closes_in k.disk.below.areas (other_area j.area) ≡ closes_in j.disk.below.areas (other_area j.area) → IsOtherKnown areas_in j → IsOtherKnown areas_in k
knows_on j k same keeps h = subst (IsOtherKnown areas_in) (sym same) (h ∙ sym keeps)

-- ---- the end of an opening

rest_closes : (bytes : List ℕ) → must_close (bytes_of (at_rest bytes)) ≡ must_close bytes
rest_closes [] = refl
rest_closes (b ∷ bytes) = refl

restarted_closes : (start : Images) (area : Area) → closes_in (restarted start) area ≡ must_close (image_of start area)
restarted_closes start First = rest_closes start.of_first
restarted_closes start Second = rest_closes start.of_second

-- a closed gate is not the open one at the front
not_first : (bytes : List ℕ) (gate : ℕ) → must_close bytes ≡ true → gate < length bytes → get_or bytes gate 0 ≢ 165 → 0 < gate
not_first [] gate closes there shut = absurd (omega arith)
not_first (b ∷ bytes) zero closes there shut = absurd (shut (eqb-true b 165 closes))
not_first (b ∷ bytes) (suc k) closes there shut = omega arith

-- at the end of an opening the areas append behind the first gate of the active area, which looks formatted
pub ends_appending : (j : Journal NodeDisk) (promise : List Entry) → StandsFor areas_in promise j → IsAppending j
ends_appending j promise (start, stands, active) =
    let content : Content = record { epoch = j.epoch; promise = promise; next = j.next; gate = j.gate } in
    let is = is_found j.nodes j.node start j.area content active in
    let closes = active_closes j.nodes j.node start j.area content active in
    record {
      behind = not_first (image_of start j.area) j.gate closes is.there is.closed;
      formatted = ap (λ (b : Areas). closes_in b j.area) stands ∙ restarted_closes start j.area ∙ closes;
    }
