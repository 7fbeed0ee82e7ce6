-- What an opening has noted of both areas stays so, and holds of the other area at its end.
use Rattle.std.proofs.Common.{◌≡◌, ℕ, ◌-◌, ◌^◌, inl, inr, Bool, true, false, cond, List, [], ◌∷◌, refl, sym, ap, ◌∙◌}
use Rattle.rr_types.specs.declared.refusal.Refusal.TheVariants.{TooLarge}
use Rattle.rr_disk.specs.declared.area.Area.{Area}
use Rattle.rr_disk.specs.declared.area.Area.TheVariants.{First, Second}
use Rattle.rr_disk.specs.declared.cell.Cell.{Cell}
use Rattle.rr_disk.specs.Areas.{Extent, Areas, extent_of, bytes_of, read_of, settled}
use Rattle.rr_journal.specs.declared.opening.Fronts.{Fronts}
use Rattle.rr_journal.specs.declared.opening.Phase.{Phase}
use Rattle.rr_journal.specs.declared.opening.Phase.TheVariants as at
use Rattle.rr_journal.specs.Calls.{after_call, must_close}
use Rattle.rr_journal.specs.Image.{Found, Unformatted, Broken, Active, Outdated, found}
use Rattle.rr_journal.specs.Fronts.{front_beside, KnowsFronts, KnowsRead}
use Rattle.rr_journal.specs.Openings as openings
use Rattle.rr_journal.specs.Openings.{Settling, ReadingFirst, ReadingSecond, Rewriting, After, Goes, Opens, Stops, migrate_calls, bytes_in, end_by, due_call, after_found, after_opening_call}
use Rattle.rr_journal.specs.Migration.{may_migrate, migrated}
use Rattle.rr_journal.specs.OpeningCourse.{IsLeftAlone}
use Rattle.rr_journal.specs.OpeningTable.{IsReadBy}
use Rattle.rr_journal.specs.OtherAreas.{other_area, closes_in}
use Rattle.rr_journal.specs.Phases.{phase_of}
use Rattle.rr_journal.specs.Rewrites.{area_anew, area_kept}
use Rattle.rr_journal.proofs.CourseLaws.{untouched_by}

-- the first byte decides: a read of the whole area shows it
pub read_closes : (extent : Extent) → must_close (read_of 0 (2 ^ 64 - 1) extent) ≡ must_close (bytes_of extent)
read_closes extent = by extent.cells
  where
    by : (cells : List Cell) → must_close (read_of 0 (2 ^ 64 - 1) (record { cells = cells; safe = extent.safe })) ≡ must_close (bytes_of (record { cells = cells; safe = extent.safe }))
    by [] = refl
    by (cell ∷ cells) = refl

-- a sync leaves it
pub settled_closes : (extent : Extent) → must_close (bytes_of (settled extent)) ≡ must_close (bytes_of extent)
settled_closes extent = by extent.cells
  where
    by : (cells : List Cell) → must_close (bytes_of (settled (record { cells = cells; safe = extent.safe }))) ≡ must_close (bytes_of (record { cells = cells; safe = extent.safe }))
    by [] = refl
    by (cell ∷ cells) = refl

-- what is noted behind a device call
abbrev pub Notes : Fronts → Fronts → Areas → Areas → List ℕ → openings.Phase → Type 0
Notes before after old new read phase = KnowsFronts phase before old → IsReadBy (due_call phase) old read → new ≡ after_call (due_call phase) old → KnowsRead phase after new

pub first_noted : (fronts : Fronts) (old new : Areas) (read : List ℕ) → Notes fronts (record { first = must_close read; second = fronts.second }) old new read ReadingFirst
first_noted fronts old new read knows is after =
    ap must_close is ∙ read_closes old.first ∙ ap (λ (b : Areas). closes_in b First) (sym after)

pub second_noted : (fronts : Fronts) (old new : Areas) (read first : List ℕ) → Notes fronts (record { first = fronts.first; second = must_close read }) old new read (ReadingSecond first)
second_noted fronts old new read first knows is after =
    (knows ∙ ap (λ (b : Areas). closes_in b First) (sym after), ap must_close is ∙ read_closes old.second ∙ ap (λ (b : Areas). closes_in b Second) (sym after))

alone_closes : (old new : Extent) → IsLeftAlone old new → must_close (bytes_of new) ≡ must_close (bytes_of old)
alone_closes old new (inl same) = ap (λ (e : Extent). must_close (bytes_of e)) same
alone_closes old new (inr after) = ap (λ (e : Extent). must_close (bytes_of e)) after ∙ settled_closes old

-- a rewrite leaves the other area alone
pub still_noted : (fronts : Fronts) (old new : Areas) (read : List ℕ) (phase : Phase) (reads : phase_of phase ≡ ReadingFirst → ⊥) (reads_on : (first : List ℕ) → phase_of phase ≡ ReadingSecond first → ⊥) → Notes fronts fronts old new read (phase_of phase)
still_noted fronts old new read at.Settling reads reads_on knows is after = tt
still_noted fronts old new read at.ReadingFirst reads reads_on knows is after = absurd (reads refl)
still_noted fronts old new read (at.ReadingSecond first) reads reads_on knows is after = absurd (reads_on first.items refl)
still_noted fronts old new read (at.Rewriting r) reads reads_on knows is after =
    knows ∙ sym (alone_closes (extent_of old (area_kept r.found)) (extent_of new (area_kept r.found)) (untouched_by (at.Rewriting r) old new after))

-- what comes behind a device call knows it too
abbrev pub AfterKnows : Fronts → Areas → After → Type 0
AfterKnows fronts both (Goes phase) = KnowsFronts phase fronts both
AfterKnows fronts both (Opens area c) = front_beside area fronts ≡ closes_in both (other_area area)
AfterKnows fronts both (Stops e) = Unit {0}

other_other : (area : Area) → other_area (other_area area) ≡ area
other_other First = refl
other_other Second = refl

ends_knowing : (fronts : Fronts) (both : Areas) (f : Found) → front_beside (area_anew f) fronts ≡ closes_in both (area_kept f) → AfterKnows fronts both (end_by f)
ends_knowing fronts both Unformatted knows = knows
ends_knowing fronts both (Broken area offset) knows = tt
ends_knowing fronts both (Active area c) knows = knows
ends_knowing fronts both (Outdated area c) knows = by (may_migrate c)
  where
    by : (t : Bool) → AfterKnows fronts both (cond t (Opens (other_area area) (migrated c)) (Stops TooLarge))
    by true = knows ∙ ap (closes_in both) (sym (other_other area))
    by false = tt

found_knowing : (n p : ℕ) (first second : List ℕ) (fronts : Fronts) (both : Areas) (f : Found) → fronts.first ≡ closes_in both First → fronts.second ≡ closes_in both Second → AfterKnows fronts both (after_found n p first second f)
found_knowing n p first second fronts both Unformatted one two = two
found_knowing n p first second fronts both (Broken area offset) one two = tt
found_knowing n p first second fronts both (Active First c) one two = two
found_knowing n p first second fronts both (Active Second c) one two = one
found_knowing n p first second fronts both (Outdated area c) one two = by (may_migrate c)
  where
    beside : (a : Area) → front_beside (other_area a) fronts ≡ closes_in both a
    beside First = one
    beside Second = two

    by : (t : Bool) → AfterKnows fronts both (cond t (Goes (Rewriting (Outdated area c) (migrate_calls n p area c (bytes_in (other_area area) first second)))) (Stops TooLarge))
    by true = beside area
    by false = tt

pub goes_on_knowing : (n p : ℕ) (bytes : List ℕ) (fronts : Fronts) (both : Areas) (phase : openings.Phase) → KnowsRead phase fronts both → AfterKnows fronts both (after_opening_call n p bytes phase)
goes_on_knowing n p bytes fronts both Settling knows = tt
goes_on_knowing n p bytes fronts both ReadingFirst knows = knows
goes_on_knowing n p bytes fronts both (ReadingSecond first) knows = found_knowing n p first bytes fronts both (found n p first bytes) knows.0 knows.1
goes_on_knowing n p bytes fronts both (Rewriting f []) knows = ends_knowing fronts both f knows
goes_on_knowing n p bytes fronts both (Rewriting f (call ∷ [])) knows = ends_knowing fronts both f knows
goes_on_knowing n p bytes fronts both (Rewriting f (call ∷ next ∷ calls)) knows = knows
