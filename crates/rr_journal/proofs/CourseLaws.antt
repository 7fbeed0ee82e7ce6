-- An opening stays on its course: it finds what stands on the disk, and makes the device calls which that asks for.
use Rattle.std.proofs.Common.{◌≡◌, ◌⊎◌, inl, inr, ℕ, suc, Bool, true, false, cond, ◌+◌, ◌-◌, ◌^◌, ◌<◌, ◌≤◌, min, List, [], ◌∷◌, length, map, take, drop, Ok, Err, refl, sym, ap, subst, ◌∙◌, arith}
use Rattle.std.proofs.lemmas.Bool.{false≢true}
use Rattle.std.proofs.lemmas.List.{take-map}
use Rattle.std.proofs.Math.Nat.{min-le_left}
use Rattle.rr_types.specs.declared.refusal.Refusal.{Refusal}
use Rattle.rr_types.specs.declared.refusal.Refusal.TheVariants.{OutOfMemory, Device, Damaged, TooLarge}
use Rattle.rr_disk.specs.declared.area.Area.{Area}
use Rattle.rr_disk.specs.declared.area.Area.TheVariants.{First, Second}
use Rattle.rr_disk.specs.declared.cell.Cell.{Cell}
use Rattle.rr_disk.specs.Areas.{Extent, Areas, extent_of, replaced, bytes_of, firm_cell, at_rest, settled, synced}
use Rattle.rr_types.specs.Counts.{counted}
use Rattle.rr_frame.specs.SnapshotFormat.{snapshot_bytes}
use Rattle.rr_journal.specs.declared.journal.Journal.{Journal}
use Rattle.rr_journal.specs.declared.opened.Opened.{Opened}
use Rattle.rr_journal.specs.declared.opening.Progress.TheVariants as progress
use Rattle.rr_journal.specs.declared.opening.Phase as code
use Rattle.rr_journal.specs.declared.opening.Phase.TheVariants as at
use Rattle.rr_journal.specs.declared.stage.Stage.{Stage}
use Rattle.rr_journal.specs.declared.stage.Stage.TheVariants.{Closing, SettlingClosed, WritingBody, SettlingBody, OpeningGate, SettlingGate}
use Rattle.rr_journal.specs.Calls.{Call, after_call, rewrite_calls, must_close}
use Rattle.rr_journal.specs.Ends.{area_number}
use Rattle.rr_journal.specs.Image.{Found, Unformatted, Broken, Active, Outdated, found}
use Rattle.rr_journal.specs.Openings.{Phase, Settling, ReadingFirst, ReadingSecond, Rewriting, After, Goes, Opens, Stops, snapshot_with, formatted, bytes_in, migrate_calls, end_by, due_call, after_found, after_opening_call}
use Rattle.rr_journal.specs.Migration.{migrated, may_migrate}
use Rattle.rr_journal.specs.OpeningCourse.{calls_left, whole_read, found_from, calls_by, calls_from, areas_after, EndsBy, StaysOnCourse, IsDone, IsRefused, IsDue, IsAsBefore, IsLeftAlone, IsUntouched}
use Rattle.rr_journal.specs.OpeningStates.{OpeningState}
use Rattle.rr_journal.specs.OpeningTable.{IsReadBy, IsLeftBy}
use Rattle.rr_journal.specs.OtherAreas.{other_area}
use Rattle.rr_journal.specs.Phases.{phase_of, TakesMemory}
use Rattle.rr_journal.specs.Rewrites.{writes_anew, area_anew, area_kept}
use Rattle.rr_journal.specs.Stages.{call_at}
use Rattle.rr_journal.proofs.OpeningLaws.{bytes_firm}
use Rattle.rr_journal.proofs.StageLaws.{due_at, some_left}

-- a sync leaves what a read gives
pub read_settled : (extent : Extent) → whole_read (settled extent) ≡ whole_read extent
read_settled extent = by extent.cells
  where
    by : (cells : List Cell) → map (λ (c : Cell). c.byte) (take (2 ^ 64 - 1) (drop 0 (map firm_cell (map (λ (c : Cell). c.byte) cells)))) ≡ map (λ (c : Cell). c.byte) (take (2 ^ 64 - 1) (drop 0 cells))
    by cells =
        ap (map (λ (c : Cell). c.byte)) (take-map firm_cell (2 ^ 64 - 1) (map (λ (c : Cell). c.byte) cells))
        ∙ bytes_firm (take (2 ^ 64 - 1) (map (λ (c : Cell). c.byte) cells))
        ∙ take-map (λ (c : Cell). c.byte) (2 ^ 64 - 1) cells

-- what comes behind a device call stays on course
abbrev pub OnCourse : ℕ → ℕ → Areas → Areas → Phase → After → Type 0
OnCourse n p old new phase (Goes next) = (found_from n p next new ≡ found_from n p phase old) × (calls_from n p phase old ≡ due_call phase ∷ calls_from n p next new)
OnCourse n p old new phase (Opens area c) = (end_by (found_from n p phase old) ≡ Opens area c) × (calls_from n p phase old ≡ due_call phase ∷ [])
OnCourse n p old new phase (Stops e) = end_by (found_from n p phase old) ≡ Stops e

rewriting_left : (n p : ℕ) (f : Found) (area : Area) (closes : Bool) (payload : List ℕ) (both : Areas) → calls_from n p (Rewriting f (rewrite_calls area closes payload)) both ≡ rewrite_calls area closes payload
rewriting_left n p f area true payload both = refl
rewriting_left n p f area false payload both = refl

-- so does what comes behind the second read, by what was found
behind_found : (n p : ℕ) (first second : List ℕ) (old new : Areas) (f : Found) → whole_read old.second ≡ second → found n p first second ≡ f → OnCourse n p old new (ReadingSecond first) (after_found n p first second f)
behind_found n p first second old new Unformatted read is =
    let same : found n p first (whole_read old.second) ≡ Unformatted = ap (found n p first) read ∙ is in (
      sym same,
      ap (λ (f : Found). due_call (ReadingSecond first) ∷ calls_by n p first (whole_read old.second) f) same
          ∙ ap (λ (calls : List Call). due_call (ReadingSecond first) ∷ calls) (sym (rewriting_left n p Unformatted First (must_close first) (snapshot_bytes (snapshot_with n p formatted)) new)),
    )
behind_found n p first second old new (Broken area offset) read is = ap end_by (ap (found n p first) read ∙ is)
behind_found n p first second old new (Active area c) read is =
    let same : found n p first (whole_read old.second) ≡ Active area c = ap (found n p first) read ∙ is in
    (ap end_by same, ap (λ (f : Found). due_call (ReadingSecond first) ∷ calls_by n p first (whole_read old.second) f) same)
behind_found n p first second old new (Outdated area c) read is = by (may_migrate c) refl
  where
    same : found n p first (whole_read old.second) ≡ Outdated area c
    same = ap (found n p first) read ∙ is

    by : (t : Bool) → may_migrate c ≡ t → OnCourse n p old new (ReadingSecond first) (cond t (Goes (Rewriting (Outdated area c) (migrate_calls n p area c (bytes_in (other_area area) first second)))) (Stops TooLarge))
    by true may = (
      sym same,
      ap (λ (f : Found). due_call (ReadingSecond first) ∷ calls_by n p first (whole_read old.second) f) same
          ∙ ap (λ (t : Bool). due_call (ReadingSecond first) ∷ cond t (migrate_calls n p area c (bytes_in (other_area area) first (whole_read old.second))) []) may
          ∙ ap (λ (bytes : List ℕ). due_call (ReadingSecond first) ∷ migrate_calls n p area c (bytes_in (other_area area) first bytes)) read
          ∙ ap (λ (cs : List Call). due_call (ReadingSecond first) ∷ cs)
          (sym (rewriting_left n p (Outdated area c) (other_area area) (must_close (bytes_in (other_area area) first second)) (snapshot_bytes (snapshot_with n p (migrated c))) new)),
    )
    by false may = ap end_by same ∙ ap (λ (t : Bool). cond t (Opens (other_area area) (migrated c)) (Stops TooLarge)) may

-- and what comes behind the last call of a rewrite
behind_last : (n p : ℕ) (old new : Areas) (f : Found) (calls : List Call) → calls_from n p (Rewriting f calls) old ≡ due_call (Rewriting f calls) ∷ [] → OnCourse n p old new (Rewriting f calls) (end_by f)
behind_last n p old new Unformatted calls one = (refl, one)
behind_last n p old new (Broken area offset) calls one = refl
behind_last n p old new (Active area c) calls one = (refl, one)
behind_last n p old new (Outdated area c) calls one = by (may_migrate c) refl
  where
    by : (t : Bool) → may_migrate c ≡ t → OnCourse n p old new (Rewriting (Outdated area c) calls) (cond t (Opens (other_area area) (migrated c)) (Stops TooLarge))
    by true may = (ap (λ (t : Bool). cond t (Opens (other_area area) (migrated c)) (Stops TooLarge)) may, one)
    by false may = ap (λ (t : Bool). cond t (Opens (other_area area) (migrated c)) (Stops TooLarge)) may

pub on_course : (n p : ℕ) (bytes : List ℕ) (old new : Areas) (phase : Phase) → IsReadBy (due_call phase) old bytes → new ≡ after_call (due_call phase) old → OnCourse n p old new phase (after_opening_call n p bytes phase)
on_course n p bytes old new Settling read after =
    let one : whole_read new.first ≡ whole_read old.first = ap (λ (b : Areas). whole_read b.first) after ∙ read_settled old.first in
    let two : whole_read new.second ≡ whole_read old.second = ap (λ (b : Areas). whole_read b.second) after ∙ read_settled old.second in
    (rw (one, two) refl, rw (one, two) refl)
on_course n p bytes old new ReadingFirst read after =
    let one : bytes ≡ whole_read old.first = read in
    let two : whole_read new.second ≡ whole_read old.second = ap (λ (b : Areas). whole_read b.second) after in
    (rw (one, two) refl, rw (one, two) refl)
on_course n p bytes old new (ReadingSecond first) read after = behind_found n p first bytes old new (found n p first bytes) (sym read) refl
on_course n p bytes old new (Rewriting f []) read after = behind_last n p old new f [] refl
on_course n p bytes old new (Rewriting f (call ∷ [])) read after = behind_last n p old new f (call ∷ []) refl
on_course n p bytes old new (Rewriting f (call ∷ next ∷ calls)) read after = (refl, refl)

-- a refusal for what was found is damage, or want of a next epoch
abbrev pub IsFault : Refusal → Type 0
IsFault e = ((area : Area) × (offset : ℕ) × (e ≡ Damaged (area_number area) offset)) ⊎ (e ≡ TooLarge)

by_damage : (area : Area) (offset : ℕ) (e : Refusal) → Stops (Damaged (area_number area) offset) ≡ Stops e → IsFault e
by_damage area offset e now = let same : Damaged (area_number area) offset ≡ e = cc in inl (area, offset, sym same)

by_size : (e : Refusal) → Stops TooLarge ≡ Stops e → IsFault e
by_size e now = let same : TooLarge ≡ e = cc in inr (sym same)

end_stops : (f : Found) (e : Refusal) → end_by f ≡ Stops e → IsFault e
end_stops Unformatted e now = absurd cc
end_stops (Broken area offset) e now = by_damage area offset e now
end_stops (Active area c) e now = absurd cc
end_stops (Outdated area c) e now = by (may_migrate c) now
  where
    by : (t : Bool) → cond t (Opens (other_area area) (migrated c)) (Stops TooLarge) ≡ Stops e → IsFault e
    by true now = absurd cc
    by false now = by_size e now

found_stops : (n p : ℕ) (first second : List ℕ) (f : Found) (e : Refusal) → after_found n p first second f ≡ Stops e → IsFault e
found_stops n p first second Unformatted e now = absurd cc
found_stops n p first second (Broken area offset) e now = by_damage area offset e now
found_stops n p first second (Active area c) e now = absurd cc
found_stops n p first second (Outdated area c) e now = by (may_migrate c) now
  where
    by : (t : Bool) → cond t (Goes (Rewriting (Outdated area c) (migrate_calls n p area c (bytes_in (other_area area) first second)))) (Stops TooLarge) ≡ Stops e → IsFault e
    by true now = absurd cc
    by false now = by_size e now

stopped_by : (n p : ℕ) (bytes : List ℕ) (phase : Phase) (e : Refusal) → after_opening_call n p bytes phase ≡ Stops e → IsFault e
stopped_by n p bytes Settling e is = absurd cc
stopped_by n p bytes ReadingFirst e is = absurd cc
stopped_by n p bytes (ReadingSecond first) e is = found_stops n p first bytes (found n p first bytes) e is
stopped_by n p bytes (Rewriting f []) e is = end_stops f e is
stopped_by n p bytes (Rewriting f (call ∷ [])) e is = end_stops f e is
stopped_by n p bytes (Rewriting f (call ∷ next ∷ calls)) e is = absurd cc

-- what stops an opening behind a device call is want of memory, or such a fault
pub refused_by : (n p : ℕ) (bytes : List ℕ) (phase : Phase) (e : Refusal) (Fault : Type 0) → ((e ≡ OutOfMemory) × TakesMemory phase) ⊎ (after_opening_call n p bytes phase ≡ Stops e)
    → (e ≡ OutOfMemory) ⊎ ((e ≡ Device) × Fault) ⊎ ((area : Area) × (offset : ℕ) × (e ≡ Damaged (area_number area) offset)) ⊎ (e ≡ TooLarge)
refused_by n p bytes phase e Fault (inl memory) = inl memory.0
refused_by n p bytes phase e Fault (inr stops) = inr (inr (stopped_by n p bytes phase e stops))

pub refused_on_course : (n p : ℕ) (bytes : List ℕ) (old new : Areas) (phase : Phase) (e : Refusal) → IsReadBy (due_call phase) old bytes → new ≡ after_call (due_call phase) old
    → ((e ≡ OutOfMemory) × TakesMemory phase) ⊎ (after_opening_call n p bytes phase ≡ Stops e) → (e ≡ OutOfMemory) ⊎ (e ≡ Device) ⊎ (end_by (found_from n p phase old) ≡ Stops e)
refused_on_course n p bytes old new phase e read after (inl memory) = inl memory.0
refused_on_course n p bytes old new phase e read after (inr stops) = inr (inr (subst (OnCourse n p old new phase) stops (on_course n p bytes old new phase read after)))

-- ---- the areas that stay as they were

beside_replaced : (f : Found) (both : Areas) (extent : Extent) → extent_of (replaced both (area_anew f) extent) (area_kept f) ≡ extent_of both (area_kept f)
beside_replaced Unformatted both extent = refl
beside_replaced (Broken First offset) both extent = refl
beside_replaced (Broken Second offset) both extent = refl
beside_replaced (Active First c) both extent = refl
beside_replaced (Active Second c) both extent = refl
beside_replaced (Outdated First c) both extent = refl
beside_replaced (Outdated Second c) both extent = refl

extent_synced : (both : Areas) (area : Area) → extent_of (synced both) area ≡ settled (extent_of both area)
extent_synced both First = refl
extent_synced both Second = refl

-- a device call of a rewrite leaves the other area alone
pub left_alone : (f : Found) (body : List ℕ) (stage : Stage) (old new : Areas) → new ≡ after_call (call_at (area_anew f) body stage) old → IsLeftAlone (extent_of old (area_kept f)) (extent_of new (area_kept f))
left_alone f body Closing old new after = inl (ap (λ (b : Areas). extent_of b (area_kept f)) after ∙ beside_replaced f old _)
left_alone f body SettlingClosed old new after = inr (ap (λ (b : Areas). extent_of b (area_kept f)) after ∙ extent_synced old (area_kept f))
left_alone f body WritingBody old new after = inl (ap (λ (b : Areas). extent_of b (area_kept f)) after ∙ beside_replaced f old _)
left_alone f body SettlingBody old new after = inr (ap (λ (b : Areas). extent_of b (area_kept f)) after ∙ extent_synced old (area_kept f))
left_alone f body OpeningGate old new after = inl (ap (λ (b : Areas). extent_of b (area_kept f)) after ∙ beside_replaced f old _)
left_alone f body SettlingGate old new after = inr (ap (λ (b : Areas). extent_of b (area_kept f)) after ∙ extent_synced old (area_kept f))

left_alone_failing : (f : Found) (body : List ℕ) (stage : Stage) (old new : Areas) → IsLeftBy (call_at (area_anew f) body stage) old new → IsLeftAlone (extent_of old (area_kept f)) (extent_of new (area_kept f))
left_alone_failing f body Closing old new left = inl (ap (λ (b : Areas). extent_of b (area_kept f)) left.1 ∙ beside_replaced f old _)
left_alone_failing f body SettlingClosed old new left = inl (ap (λ (b : Areas). extent_of b (area_kept f)) left)
left_alone_failing f body WritingBody old new left = inl (ap (λ (b : Areas). extent_of b (area_kept f)) left.1 ∙ beside_replaced f old _)
left_alone_failing f body SettlingBody old new left = inl (ap (λ (b : Areas). extent_of b (area_kept f)) left)
left_alone_failing f body OpeningGate old new left = inl (ap (λ (b : Areas). extent_of b (area_kept f)) left.1 ∙ beside_replaced f old _)
left_alone_failing f body SettlingGate old new left = inl (ap (λ (b : Areas). extent_of b (area_kept f)) left)

-- a device call that succeeded leaves an opening's disk untouched until it writes an area anew
pub untouched_by : (phase : code.Phase) (old new : Areas) → new ≡ after_call (due_call (phase_of phase)) old → IsUntouched (phase_of phase) old new
untouched_by at.Settling old new after = inr after
untouched_by at.ReadingFirst old new after = after
untouched_by (at.ReadingSecond first) old new after = after
untouched_by (at.Rewriting r) old new after = left_alone r.found r.body r.stage old new (after ∙ ap (λ (c : Call). after_call c old) (due_at r.found (area_anew r.found) r.body r.stage))

-- so does one that failed
pub untouched_failing : (phase : code.Phase) (old new : Areas) → IsLeftBy (due_call (phase_of phase)) old new → IsUntouched (phase_of phase) old new
untouched_failing at.Settling old new left = inl left
untouched_failing at.ReadingFirst old new left = left
untouched_failing (at.ReadingSecond first) old new left = left
untouched_failing (at.Rewriting r) old new left = left_alone_failing r.found r.body r.stage old new (subst (λ (c : Call). IsLeftBy c old new) (due_at r.found (area_anew r.found) r.body r.stage) left)

-- ---- all steps

synced_twice : (both : Areas) → synced (synced both) ≡ synced both
synced_twice both =
    let one : settled (settled both.first) ≡ settled both.first = ap at_rest (bytes_firm (bytes_of both.first)) in
    let other : settled (settled both.second) ≡ settled both.second = ap at_rest (bytes_firm (bytes_of both.second)) in
    λ i. record { first = one i; second = other i }

synced_on : (first now next : Areas) → IsAsBefore first now → next ≡ synced now → IsAsBefore first next
synced_on first now next (inl same) after = inr (after ∙ ap synced same)
synced_on first now next (inr was) after = inr (after ∙ ap synced was ∙ synced_twice first)

same_on : (first now next : Areas) → IsAsBefore first now → next ≡ now → IsAsBefore first next
same_on first now next before same = subst (IsAsBefore first) (sym same) before

-- an opening that writes no area anew leaves both as they were, or synced
pub before_on : (n p : ℕ) (phase : Phase) (first now next : Areas) → writes_anew (found_from n p phase now) ≡ false → IsDue phase → IsAsBefore first now → IsUntouched phase now next → IsAsBefore first next
before_on n p Settling first now next none due before (inl same) = same_on first now next before same
before_on n p Settling first now next none due before (inr after) = synced_on first now next before after
before_on n p ReadingFirst first now next none due before same = same_on first now next before same
before_on n p (ReadingSecond bytes) first now next none due before same = same_on first now next before same
before_on n p (Rewriting found calls) first now next none due before left = absurd (false≢true (sym none ∙ due))

alone_on : (first now next : Extent) → IsLeftAlone first now → IsLeftAlone now next → IsLeftAlone first next
alone_on first now next before (inl same) = subst (IsLeftAlone first) (sym same) before
alone_on first now next (inl same) (inr after) = inr (after ∙ ap settled same)
alone_on first now next (inr was) (inr after) = inr (after ∙ ap settled was ∙ ap at_rest (bytes_firm (bytes_of first)))

as_before_alone : (old new : Areas) (area : Area) → IsAsBefore old new → IsLeftAlone (extent_of old area) (extent_of new area)
as_before_alone old new area (inl same) = inl (ap (λ (b : Areas). extent_of b area) same)
as_before_alone old new area (inr after) = inr (ap (λ (b : Areas). extent_of b area) after ∙ extent_synced old area)

-- and one that does leaves the other alone
pub beside_on : (n p : ℕ) (phase : Phase) (now next : Areas) (area : Area) → area ≡ area_kept (found_from n p phase now) → IsUntouched phase now next → IsLeftAlone (extent_of now area) (extent_of next area)
beside_on n p Settling now next area kept before = as_before_alone now next area before
beside_on n p ReadingFirst now next area kept same = as_before_alone now next area (inl same)
beside_on n p (ReadingSecond bytes) now next area kept same = as_before_alone now next area (inl same)
beside_on n p (Rewriting found calls) now next area kept left = subst (λ (a : Area). IsLeftAlone (extent_of now a) (extent_of next a)) (sym kept) left

-- counts that stop add up
count_more : (c k m : ℕ) → min (min (c + 1) m + k) m ≡ min (c + suc k) m
count_more c k m = omega arith

pub one_left : (phase : code.Phase) → 1 ≤ calls_left (phase_of phase)
one_left at.Settling = omega arith
one_left at.ReadingFirst = omega arith
one_left (at.ReadingSecond first) = omega arith
one_left (at.Rewriting r) = some_left (area_anew r.found) r.body r.stage

pub one_from : (n p : ℕ) (phase : Phase) (both : Areas) → 1 ≤ length (calls_from n p phase both)
one_from n p Settling both = omega arith
one_from n p ReadingFirst both = omega arith
one_from n p (ReadingSecond first) both = omega arith
one_from n p (Rewriting f []) both = omega arith
one_from n p (Rewriting f (call ∷ calls)) both = omega arith

-- an opening came from another by steps: it finds the same, and has made so many fewer of the same device calls
pub record HasRun {D : Type 0} (tells : D → Type 0) (areas : D → Areas) (calls faults : D → ℕ) (first now : OpeningState D) : Type 0 where
  pub fewer : calls now.disk + calls_left (phase_of now.phase) ≤ calls first.disk + calls_left (phase_of first.phase)
  pub rising : faults first.disk ≤ faults now.disk
  pub same_found : tells first.disk → found_from now.nodes now.node (phase_of now.phase) (areas now.disk) ≡ found_from first.nodes first.node (phase_of first.phase) (areas first.disk)
  pub same_end : tells first.disk → areas_after (calls_from now.nodes now.node (phase_of now.phase) (areas now.disk)) (areas now.disk)
      ≡ areas_after (calls_from first.nodes first.node (phase_of first.phase) (areas first.disk)) (areas first.disk)
  pub counts : tells first.disk → min (calls now.disk + length (calls_from now.nodes now.node (phase_of now.phase) (areas now.disk))) (2 ^ 64 - 1)
      ≡ min (calls first.disk + length (calls_from first.nodes first.node (phase_of first.phase) (areas first.disk))) (2 ^ 64 - 1)
  pub bounded : tells first.disk → calls now.disk + length (calls_from now.nodes now.node (phase_of now.phase) (areas now.disk))
      ≤ calls first.disk + length (calls_from first.nodes first.node (phase_of first.phase) (areas first.disk))
  pub before : tells first.disk → writes_anew (found_from first.nodes first.node (phase_of first.phase) (areas first.disk)) ≡ false → IsAsBefore (areas first.disk) (areas now.disk)
  pub beside : tells first.disk → (area : Area) → area ≡ area_kept (found_from first.nodes first.node (phase_of first.phase) (areas first.disk)) → IsLeftAlone (extent_of (areas first.disk) area) (extent_of (areas now.disk) area)

module _ {D : Type 0} (tells : D → Type 0) (areas : D → Areas) (calls faults : D → ℕ) where
  -- an opening that has made no step
  pub has_begun : (first : OpeningState D) → HasRun tells areas calls faults first first
  has_begun first = record {
    fewer = omega arith;
    rising = omega arith;
    same_found = λ tell. refl;
    same_end = λ tell. refl;
    counts = λ tell. refl;
    bounded = λ tell. omega arith;
    before = λ tell none. inl refl;
    beside = λ tell area kept. inl refl;
  }

  module _ (first now : OpeningState D) (run : HasRun tells areas calls faults first now) where
    -- one more step leaves both areas as before, if none is written anew
    pub still_before : (end : D) → tells first.disk → writes_anew (found_from first.nodes first.node (phase_of first.phase) (areas first.disk)) ≡ false
        → IsDue (phase_of now.phase) → IsUntouched (phase_of now.phase) (areas now.disk) (areas end) → IsAsBefore (areas first.disk) (areas end)
    still_before end tell none due untouched =
        before_on now.nodes now.node (phase_of now.phase) (areas first.disk) (areas now.disk) (areas end) (ap writes_anew (run.same_found tell) ∙ none) due (run.before tell none) untouched

    -- and in any case the one beside it
    pub still_beside : (end : D) → tells first.disk → (area : Area) → area ≡ area_kept (found_from first.nodes first.node (phase_of first.phase) (areas first.disk))
        → IsUntouched (phase_of now.phase) (areas now.disk) (areas end) → IsLeftAlone (extent_of (areas first.disk) area) (extent_of (areas end) area)
    still_beside end tell area kept untouched =
        alone_on (extent_of (areas first.disk) area) (extent_of (areas now.disk) area) (extent_of (areas end) area) (run.beside tell area kept)
        (beside_on now.nodes now.node (phase_of now.phase) (areas now.disk) (areas end) area (kept ∙ ap area_kept (sym (run.same_found tell))) untouched)

    -- one more step that isn't the last
    pub runs_on : (next : OpeningState D) → (tells first.disk → StaysOnCourse areas now (Ok (progress.More next))) → IsDue (phase_of now.phase) → (tells first.disk → IsUntouched (phase_of now.phase) (areas now.disk) (areas next.disk))
        → calls next.disk ≡ counted (calls now.disk) → faults now.disk ≤ faults next.disk → calls_left (phase_of next.phase) < calls_left (phase_of now.phase) → HasRun tells areas calls faults first next
    runs_on next course due untouched call rising less =
        let size : tells first.disk → length (calls_from now.nodes now.node (phase_of now.phase) (areas now.disk)) ≡ suc (length (calls_from next.nodes next.node (phase_of next.phase) (areas next.disk))) =
        λ tell. ap (λ (cs : List Call). length cs) (course tell).2 in
        record {
          fewer = omega (arith, run.fewer, call, less, min-le_left (calls now.disk + 1) (2 ^ 64 - 1));
          rising = omega (arith, run.rising, rising);
          same_found = λ tell. (course tell).1 ∙ run.same_found tell;
          same_end = λ tell. ap (areas_after (calls_from next.nodes next.node (phase_of next.phase) (areas next.disk))) (course tell).0
              ∙ ap (λ (cs : List Call). areas_after cs (areas now.disk)) (sym (course tell).2) ∙ run.same_end tell;
          counts = λ tell. ap (λ (c : ℕ). min (c + length (calls_from next.nodes next.node (phase_of next.phase) (areas next.disk))) (2 ^ 64 - 1)) call
              ∙ count_more (calls now.disk) (length (calls_from next.nodes next.node (phase_of next.phase) (areas next.disk))) (2 ^ 64 - 1)
              ∙ ap (λ (k : ℕ). min (calls now.disk + k) (2 ^ 64 - 1)) (sym (size tell)) ∙ run.counts tell;
          bounded = λ tell. omega (arith, run.bounded tell, call, size tell, min-le_left (calls now.disk + 1) (2 ^ 64 - 1));
          before = λ tell none. still_before next.disk tell none due (untouched tell);
          beside = λ tell area kept. still_beside next.disk tell area kept (untouched tell);
        }

    -- one more call is among those that were left
    pub last_left : (end : D) → calls end ≡ counted (calls now.disk) → calls end ≤ calls first.disk + calls_left (phase_of first.phase)
    last_left end call = omega (arith, run.fewer, call, one_left now.phase, min-le_left (calls now.disk + 1) (2 ^ 64 - 1))

    pub last_from : (end : D) → tells first.disk → calls end ≡ counted (calls now.disk) → calls end ≤ calls first.disk + length (calls_from first.nodes first.node (phase_of first.phase) (areas first.disk))
    last_from end tell call = omega (arith, run.bounded tell, call, one_from now.nodes now.node (phase_of now.phase) (areas now.disk), min-le_left (calls now.disk + 1) (2 ^ 64 - 1))

    -- the last step makes the last of the calls
    pub all_done : (journal : Journal D) (opened : Opened) → tells first.disk → StaysOnCourse areas now (Ok (progress.Done journal opened)) → calls journal.disk ≡ counted (calls now.disk)
        → IsDone (calls_from first.nodes first.node (phase_of first.phase) (areas first.disk)) areas calls first.disk journal.disk
    all_done journal opened tell course call = (
      course.0 ∙ ap (λ (cs : List Call). areas_after cs (areas now.disk)) (sym course.2) ∙ run.same_end tell,
      call ∙ ap (λ (cs : List Call). min (calls now.disk + length cs) (2 ^ 64 - 1)) (sym course.2) ∙ run.counts tell,
    )

    -- a refused step refuses the opening
    pub refused_at : (refused : Refusal × D) → IsRefused faults now.disk refused → IsRefused faults first.disk refused
    refused_at refused (inl memory) = inl memory
    refused_at refused (inr (inl (device, (inl more)))) = inr (inl (device, inl (omega (arith, run.rising, more))))
    refused_at refused (inr (inl (device, (inr end)))) = inr (inl (device, inr end))
    refused_at refused (inr (inr damaged)) = inr (inr damaged)

    pub ends_refused : (refused : Refusal × D) → tells first.disk → StaysOnCourse areas now (Err refused) → EndsBy (found_from first.nodes first.node (phase_of first.phase) (areas first.disk)) (Err refused)
    ends_refused refused tell course = subst (λ (f : Found). EndsBy f (Err refused)) (run.same_found tell) course
