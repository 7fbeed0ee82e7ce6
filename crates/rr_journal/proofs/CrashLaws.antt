-- What an opening makes of the images that a crash may leave.
use Rattle.std.proofs.Common.{◌≡◌, ◌⊎◌, inl, inr, ℕ, ◌-◌, ◌^◌, ◌<◌, false, List, [], ◌∷◌, length, map, Result, Ok, Err, refl, sym, ap, subst, ◌∙◌, arith}
use Rattle.std.specs.Prelude.{IfOk}
use Rattle.std.proofs.lemmas.List.{length-map}
use Rattle.rr_types.specs.declared.fact.Fact.{Fact}
use Rattle.rr_types.specs.declared.refusal.Refusal.{Refusal}
use Rattle.rr_disk.specs.declared.cell.Cell.{Cell}
use Rattle.rr_disk.specs.Areas.{Extent, Areas, bytes_of, firm_cell, settled, synced}
use Rattle.rr_disk.specs.Crash.{Agrees, MayLeave, Images, IsCrashImage}
use Rattle.rr_disk.proofs.Agreeing.{at_rest_image}
use Rattle.rr_journal.specs.declared.journal.Journal.{Journal}
use Rattle.rr_journal.specs.declared.opened.Opened.{Opened}
use Rattle.rr_journal.specs.Image.{found}
use Rattle.rr_journal.specs.Held.{Holds}
use Rattle.rr_journal.specs.Openings.{Phase, Settling, ReadingFirst, ReadingSecond, Rewriting}
use Rattle.rr_journal.specs.OpeningCourse.{whole_read, found_from, IsAsBefore, IsUntouched}
use Rattle.rr_journal.specs.OpeningStates.{OpeningState}
use Rattle.rr_journal.specs.OpeningTable.{contents, IsResting, Rests, IsKept}
use Rattle.rr_journal.specs.Rewrites.{writes_anew}
use Rattle.rr_journal.specs.Phases.{phase_of}
use Rattle.rr_journal.specs.OpenDisks.{IsOpenWith}
use Rattle.rr_journal.specs.CrashedDisks.{MayStand, EachHoldsSome, IsOpenWithOneOf, IsReading, AddsNone, AddsSameAlone}
use Rattle.rr_journal.proofs.ImageLaws.{read_whole}
use Rattle.rr_journal.proofs.HeldLaws.{rest_held}
use Rattle.rr_journal.proofs.OpeningLaws.{bytes_firm}

-- bytes that a crash may leave stay among the images once they are synced
agrees_settled : (cells : List Cell) → Agrees cells (map (λ cell. cell.byte) cells) → Agrees (map firm_cell (map (λ cell. cell.byte) cells)) (map (λ cell. cell.byte) cells)
agrees_settled [] agrees = tt
agrees_settled (cell ∷ cells) agrees = (agrees.0, λ firm. refl, agrees_settled cells agrees.2)

stands_settled : (extent : Extent) → MayLeave extent (bytes_of extent) → MayLeave (settled extent) (bytes_of (settled extent))
stands_settled extent may =
    subst (MayLeave (settled extent)) (sym (bytes_firm (bytes_of extent))) (record { no_shorter = omega arith; agrees = agrees_settled extent.cells may.agrees })

-- a sync adds no image
synced_adds : (both : Areas) → MayStand both → AddsNone both (synced both)
synced_adds both stands = (
  record { may_first = stands_settled both.first stands.may_first; may_second = stands_settled both.second stands.may_second },
  λ images left. by images (at_rest_image (bytes_of both.first) images.of_first left.may_first) (at_rest_image (bytes_of both.second) images.of_second left.may_second),
)
  where
    by : (images : Images) → images.of_first ≡ bytes_of both.first → images.of_second ≡ bytes_of both.second → IsCrashImage both images
    by images one other =
        let same : images ≡ contents both = λ i. record { of_first = one i; of_second = other i } in
        subst (IsCrashImage both) (sym same) stands

-- an opening that leaves both areas as they were, or synced, adds no image
pub before_adds : (old new : Areas) → MayStand old → IsAsBefore old new → AddsNone old new
before_adds old new stands (inl same) = subst (AddsNone old) (sym same) (stands, λ images left. left)
before_adds old new stands (inr after) = subst (AddsNone old) (sym after) (synced_adds old stands)

pub untouched_adds : (phase : Phase) (old new : Areas) → MayStand old → IsReading phase → IsUntouched phase old new → AddsNone old new
untouched_adds Settling old new stands reading before = before_adds old new stands before
untouched_adds ReadingFirst old new stands reading same = before_adds old new stands (inl same)
untouched_adds (ReadingSecond first) old new stands reading same = before_adds old new stands (inl same)
untouched_adds (Rewriting found calls) old new stands reading free = absurd reading

-- what an opening finds is what the bytes stand for
pub found_contents : (n p : ℕ) (both : Areas) → length both.first.cells < 2 ^ 64 → length both.second.cells < 2 ^ 64 → found_from n p Settling both ≡ found n p (contents both).of_first (contents both).of_second
found_contents n p both few_first few_second =
    ap (λ (bytes : List ℕ). found n p bytes (whole_read both.second)) (read_whole (2 ^ 64 - 1) both.first (omega (arith, few_first)))
    ∙ ap (λ (bytes : List ℕ). found n p (bytes_of both.first) bytes) (read_whole (2 ^ 64 - 1) both.second (omega (arith, few_second)))

-- an opening adds none but images of what the bytes held, and these where an area is written anew
pub adds_same_alone : (n p : ℕ) (old new : Areas) → MayStand old → length old.first.cells < 2 ^ 64 → length old.second.cells < 2 ^ 64
    → (writes_anew (found_from n p Settling old) ≡ false → IsAsBefore old new) → ((facts : List Fact) → Holds n p (contents old) facts → IsKept (Holds n p) facts old new) → AddsSameAlone n p old new
adds_same_alone n p old new stands few_first few_second before kept images left = (
  λ none. (before_adds old new stands (before (ap writes_anew (found_contents n p old few_first few_second) ∙ none))).1 images left,
  λ facts holds. by facts (kept facts holds),
)
  where
    by : (facts : List Fact) → IsKept (Holds n p) facts old new → IsCrashImage old images ⊎ Holds n p images facts
    by facts (inl stays) = inl (subst (λ (b : Areas). IsCrashImage b images) stays left)
    by facts (inr held) = inr (held images left)

-- of a disk whose every image holds some facts, an opening ends over the facts of one
pub opens_with_one : {D : Type 0} (areas : D → Areas) (n p : ℕ) (old : Areas) (result : Result (Journal D × Opened) (Refusal × D)) → MayStand old → EachHoldsSome (Holds n p) old
    → ((facts : List Fact) → Holds n p (contents old) facts → IfOk result (λ r. IsOpenWith areas facts r)) → IfOk result (λ r. IsOpenWithOneOf areas (Holds n p) old r)
opens_with_one areas n p old (Err e) stands some opens = tt
opens_with_one areas n p old (Ok (journal, opened)) stands some opens =
    let held = some (contents old) stands in
    let is = opens held.0 held.1 in
    (held.0, (contents old, stands, held.1), is, rest_held journal.nodes journal.node held.0 is.0.0 (areas journal.disk) is.0.1 is.0.2.holds)

-- an opening may begin on bytes that hold some facts
pub begins : (n p : ℕ) (facts : List Fact) (both : Areas) → length both.first.cells < 2 ^ 64 → length both.second.cells < 2 ^ 64 → Holds n p (contents both) facts → Rests n p facts (synced both)
begins n p facts both few_first few_second holds = record {
  start = contents both;
  stands = refl;
  first_fits = omega (arith, few_first, length-map both.first.cells (λ (c : Cell). c.byte));
  second_fits = omega (arith, few_second, length-map both.second.cells (λ (c : Cell). c.byte));
  holds = holds;
}

-- as on any that are short enough
pub begins_any : (both : Areas) → length both.first.cells < 2 ^ 64 → length both.second.cells < 2 ^ 64 → IsResting (synced both)
begins_any both few_first few_second = record {
  start = contents both;
  stands = refl;
  first_fits = omega (arith, few_first, length-map both.first.cells (λ (c : Cell). c.byte));
  second_fits = omega (arith, few_second, length-map both.second.cells (λ (c : Cell). c.byte));
}

-- what holds of an opening that has just begun holds of whose disk it is
pub begun_with : {D : Type 0} (F : ℕ → ℕ → Phase → D → Type 0) (o : OpeningState D) (n p : ℕ) (disk : D) → (o.nodes ≡ n) × (o.node ≡ p) → o.disk ≡ disk → phase_of o.phase ≡ Settling
    → F o.nodes o.node (phase_of o.phase) o.disk → F n p Settling disk
begun_with {D} F o n p disk whose same phase holds =
    subst (λ (d : D). F n p Settling d) same
    (subst (λ (q : Phase). F n p q o.disk) phase (subst (λ (m : ℕ). F n m (phase_of o.phase) o.disk) whose.1 (subst (λ (m : ℕ). F m o.node (phase_of o.phase) o.disk) whose.0 holds)))
