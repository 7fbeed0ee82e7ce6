-- From one phase of an opening to the next, and what a crash may leave behind a device call of it.
use Rattle.std.proofs.Common.{◌≡◌, ℕ, ◌-◌, ◌^◌, ◌<◌, inl, inr, Bool, true, false, Option, None, Some, List, [], ◌∷◌, map, length, refl, sym, ap, subst, ◌∙◌, arith}
use Rattle.std.proofs.lemmas.List.{length-map}
use Rattle.rr_types.specs.declared.fact.Fact.{Fact}
use Rattle.rr_types.specs.declared.promise.Entry.{Entry}
use Rattle.rr_types.specs.Promises.{promise_of}
use Rattle.rr_disk.specs.declared.area.Area.{Area}
use Rattle.rr_disk.specs.declared.area.Area.TheVariants.{First, Second}
use Rattle.rr_disk.specs.Areas.{Areas, extent_of, read_of, at_rest, firm_cell}
use Rattle.rr_disk.specs.Crash.{Images}
use Rattle.rr_frame.specs.SnapshotFormat.{IsLawfulSnapshot}
use Rattle.rr_journal.specs.Moments.{image_of, EachHolds}
use Rattle.rr_journal.specs.declared.journal.Journal.{Journal}
use Rattle.rr_journal.specs.declared.opening.Phase.{Phase}
use Rattle.rr_journal.specs.declared.opening.Phase.TheVariants as at
use Rattle.rr_journal.specs.declared.stage.Stage.{Stage}
use Rattle.rr_journal.specs.declared.opening.Fronts.{Fronts}
use Rattle.rr_journal.specs.Calls.{Call, after_call, must_close}
use Rattle.rr_journal.specs.Fronts.{front_beside}
use Rattle.rr_journal.specs.OtherAreas.{other_area}
use Rattle.rr_journal.specs.Image.{Content, Found, Unformatted, Broken, Active, Outdated, found}
use Rattle.rr_journal.specs.Held.{StandsFor, Holds}
use Rattle.rr_journal.specs.Journals.{IsOver}
use Rattle.rr_journal.specs.Openings.{Rewriting, Opens, bytes_in, snapshot_with, end_by, due_call}
use Rattle.rr_journal.specs.Migration.{may_migrate}
use Rattle.rr_journal.specs.Phases.{phase_of}
use Rattle.rr_journal.specs.OpeningTable.{IsReadBy, IsLeftBy, IsResting, Rests, OpensWith, IsKept}
use Rattle.rr_journal.specs.Rewrites.{Rewrite, writes_anew, area_anew, content_anew, flush_anew, IsInStage, IsRewriting}
use Rattle.rr_journal.specs.Stages.{first_stage, call_at, calls_from, stage_behind}
use Rattle.rr_journal.proofs.ImageLaws.{read_whole}
use Rattle.rr_journal.proofs.HeldLaws.{rest_held}
use Rattle.rr_journal.proofs.RewriteLaws.{Behind, goes_rewriting, held_rewriting, failed_rewriting}
use Rattle.rr_journal.proofs.StageLaws.{due_at}

pub bytes_firm : (bytes : List ℕ) → map (λ cell. cell.byte) (map firm_cell bytes) ≡ bytes
bytes_firm [] = refl
bytes_firm (b ∷ bytes) = ap (λ bs. b ∷ bs) (bytes_firm bytes)

-- a read of a whole area at rest
pub read_at_rest : (bytes : List ℕ) → length bytes < 2 ^ 64 → read_of 0 (2 ^ 64 - 1) (at_rest bytes) ≡ bytes
read_at_rest bytes few = read_whole (2 ^ 64 - 1) (at_rest bytes) (omega (arith, few, length-map bytes firm_cell)) ∙ bytes_firm bytes

-- what a device call in this phase leads to
abbrev pub Leads : ℕ → ℕ → List Fact → Areas → Areas → List ℕ → Type 0 → Phase → Type 0
Leads n p facts old new bytes Goal phase = OpensWith n p facts phase old → IsReadBy (due_call (phase_of phase)) old bytes → new ≡ after_call (due_call (phase_of phase)) old → Goal

-- a disk that holds facts at rest is at rest
abbrev pub resting : (n p : ℕ) (facts : List Fact) (both : Areas) → Rests n p facts both → IsResting both
resting n p facts both rests = record { start = rests.start; stands = rests.stands; first_fits = rests.first_fits; second_fits = rests.second_fits }

module _ (old new : Areas) (bytes : List ℕ) where
  -- a read leaves the disk as it was
  abbrev pub still_resting : IsResting old → new ≡ old → IsResting new
  still_resting rests after = record { start = rests.start; stands = after ∙ rests.stands; first_fits = rests.first_fits; second_fits = rests.second_fits }

  abbrev pub still_rests : (n p : ℕ) (facts : List Fact) → Rests n p facts old → new ≡ old → Rests n p facts new
  still_rests n p facts rests after = record { start = rests.start; stands = after ∙ rests.stands; first_fits = rests.first_fits; second_fits = rests.second_fits; holds = rests.holds }

  pub first_bytes : (rests : IsResting old) → bytes ≡ read_of 0 (2 ^ 64 - 1) (extent_of old First) → bytes ≡ rests.start.of_first
  first_bytes rests read =
      let same : extent_of old First ≡ at_rest rests.start.of_first = ap (λ (b : Areas). extent_of b First) rests.stands in
      read ∙ ap (read_of 0 (2 ^ 64 - 1)) same ∙ read_at_rest rests.start.of_first rests.first_fits

  pub second_bytes : (rests : IsResting old) → bytes ≡ read_of 0 (2 ^ 64 - 1) (extent_of old Second) → bytes ≡ rests.start.of_second
  second_bytes rests read =
      let same : extent_of old Second ≡ at_rest rests.start.of_second = ap (λ (b : Areas). extent_of b Second) rests.stands in
      read ∙ ap (read_of 0 (2 ^ 64 - 1)) same ∙ read_at_rest rests.start.of_second rests.second_fits

-- the content that an opening ends with stands for the facts that its images hold
pub opened_over : {D : Type 0} (journal : Journal D) (start : Images) (facts : List Fact) (promise : List Entry) → Holds journal.nodes journal.node start facts
    → found journal.nodes journal.node start.of_first start.of_second ≡ Active journal.area (record { epoch = journal.epoch; promise = promise; next = journal.next; gate = journal.gate })
    → IsOver journal start facts × (promise ≡ promise_of facts) × (journal.next ≡ length facts)
opened_over journal start facts promise holds is =
    let content : List Entry → Content = λ (es : List Entry). record { epoch = journal.epoch; promise = es; next = journal.next; gate = journal.gate } in
    let stands : StandsFor (Active journal.area (content promise)) facts = subst (λ (f : Found). StandsFor f facts) is holds.stands in
    (record { holds = holds; active = is ∙ ap (λ (es : List Entry). Active journal.area (content es)) stands.0 }, stands.0, stands.1)

-- ---- the writing of an area anew

-- it ends with what the area holds then
pub ends_anew : (was : Found) → writes_anew was ≡ true → end_by was ≡ Opens (area_anew was) (content_anew was)
ends_anew Unformatted due = refl
ends_anew (Broken area offset) due = absurd cc
ends_anew (Active area c) due = absurd cc
ends_anew (Outdated area c) due = let may : may_migrate c ≡ true = due in rw may refl

same_end : (a b : Area) (c d : Content) → Opens a c ≡ Opens b d → Active a c ≡ Active b d
same_end a b c d e = let area : a ≡ b = cc in let content : c ≡ d = cc in λ i. Active (area i) (content i)

pub active_anew : (was : Found) (area : Area) (c : Content) → writes_anew was ≡ true → end_by was ≡ Opens area c → Active (area_anew was) (content_anew was) ≡ Active area c
active_anew was area c due ends = same_end (area_anew was) area (content_anew was) c (sym (ends_anew was due) ∙ ends)

pub image_is : (start : Images) (area : Area) → bytes_in area start.of_first start.of_second ≡ image_of start area
image_is start First = refl
image_is start Second = refl

-- what is noted of both areas tells of the one beside another whether it has to be closed
pub closes_beside : (area : Area) (fronts : Fronts) (first second : List ℕ) → fronts.first ≡ must_close first → fronts.second ≡ must_close second → front_beside area fronts ≡ must_close (bytes_in (other_area area) first second)
closes_beside First fronts first second one two = two
closes_beside Second fronts first second one two = one

-- behind the reads it begins: the area is closed first, or the body is due
pub first_stands : (n p : ℕ) (was : Found) (both : Areas) (rests : IsResting both) (closes : Bool) → closes ≡ must_close (image_of rests.start (area_anew was)) → IsInStage (first_stage closes) (flush_anew n p was) rests.start both
first_stands n p was both rests true is = (sym is, rests.stands)
first_stands n p was both rests false is = (sym is, rests.stands)

abbrev pub begins_anew : (n p : ℕ) (was : Found) (both : Areas) (rests : IsResting both) (closes : Bool) → closes ≡ must_close (image_of rests.start (area_anew was)) → writes_anew was ≡ true
    → found n p rests.start.of_first rests.start.of_second ≡ was → IsLawfulSnapshot (snapshot_with n p (content_anew was)) → IsRewriting n p (record { found = was; body = (flush_anew n p was).body; stage = first_stage closes }) both
begins_anew n p was both rests closes is due finds spelt = record { start = rests.start; due = due; finds = finds; body = refl; spelt = spelt; stands = first_stands n p was both rests closes is }

module _ (n p : ℕ) (rewrite : Rewrite) (old new : Areas) (rewrites : IsRewriting n p rewrite old) where
  -- behind a device call: the next stage, or the area is active
  abbrev pub IsBehind : Option Stage → Type 0
  IsBehind next = Behind n p rewrite.found rewrites.due rewrites.start rewrites.finds rewrites.spelt new next

  pub goes_behind : new ≡ after_call (due_call (Rewriting rewrite.found (calls_from (area_anew rewrite.found) rewrite.body rewrite.stage))) old → IsBehind (stage_behind rewrite.stage)
  goes_behind after =
      goes_rewriting n p rewrite.found rewrites.due rewrites.start rewrites.finds rewrites.spelt rewrite.stage old new rewrites.stands
      (after ∙ ap (λ (c : Call). after_call c old) (due_at rewrite.found (area_anew rewrite.found) rewrite.body rewrite.stage) ∙ ap (λ (b : List ℕ). after_call (call_at (area_anew rewrite.found) b rewrite.stage) old) rewrites.body)

  -- where it goes on it is rewriting in the next stage
  abbrev pub still_rewriting : (stage : Stage) → IsBehind (Some stage) → IsRewriting n p (record rewrite { stage = stage }) new
  still_rewriting stage behind = record { start = behind.0; due = rewrites.due; finds = behind.1; body = rewrites.body; spelt = rewrites.spelt; stands = behind.2 }

  pub behind_held : (facts : List Fact) → Holds n p rewrites.start facts → (next : Option Stage) → IsBehind next → EachHolds (Holds n p) new facts
  behind_held facts holds (Some stage) behind = held_rewriting n p rewrite.found rewrites.due behind.0 behind.1 rewrites.spelt facts (behind.3 facts holds) stage new behind.2
  behind_held facts holds None behind = rest_held n p facts behind.0 new behind.1 (behind.3 facts holds)

module _ (n p : ℕ) (facts : List Fact) (old new : Areas) where
  -- a device call that succeeded keeps the facts
  pub kept : (phase : Phase) → OpensWith n p facts phase old → new ≡ after_call (due_call (phase_of phase)) old → IsKept (Holds n p) facts old new
  kept at.Settling opens after = inr (rest_held n p facts opens.start new (after ∙ opens.stands) opens.holds)
  kept at.ReadingFirst opens after = inl after
  kept (at.ReadingSecond first) opens after = inl after
  kept (at.Rewriting rewrite) opens after = inr (behind_held n p rewrite old new opens.0 facts opens.1 (stage_behind rewrite.stage) (goes_behind n p rewrite old new opens.0 after))

  -- and so does one that failed
  pub kept_failed : (phase : Phase) → OpensWith n p facts phase old → IsLeftBy (due_call (phase_of phase)) old new → IsKept (Holds n p) facts old new
  kept_failed at.Settling opens left = inl left
  kept_failed at.ReadingFirst opens left = inl left
  kept_failed (at.ReadingSecond first) opens left = inl left
  kept_failed (at.Rewriting rewrite) opens left =
      failed_rewriting n p rewrite.found opens.0.due opens.0.start opens.0.finds opens.0.spelt facts opens.1 rewrite.stage rewrite.body old new opens.0.stands
      (subst (λ (c : Call). IsLeftBy c old new) (due_at rewrite.found (area_anew rewrite.found) rewrite.body rewrite.stage) left)
