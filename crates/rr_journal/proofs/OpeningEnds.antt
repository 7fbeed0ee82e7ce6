-- An opening ends: each device call leaves fewer, and what holds of each step holds of all of them.
use Rattle.std.proofs.Common.{◌≡◌, ℕ, ◌<◌, ◌≤◌, inl, inr, Bool, true, false, cond, List, [], ◌∷◌, length, refl, sym, ap, subst, ◌∙◌, arith}
use Rattle.rr_types.specs.declared.fact.Fact.{Fact}
use Rattle.rr_types.specs.declared.refusal.Refusal.TheVariants as because
use Rattle.rr_disk.specs.declared.area.Area.{Area}
use Rattle.rr_disk.specs.declared.area.Area.TheVariants.{First}
use Rattle.rr_disk.specs.Areas.{Areas}
use Rattle.rr_disk.specs.Crash.{Images}
use Rattle.rr_frame.specs.SnapshotFormat.{snapshot_bytes}
use Rattle.rr_journal.specs.Moments.{EachHolds}
use Rattle.rr_journal.specs.Calls.{rewrite_calls, must_close}
use Rattle.rr_journal.specs.Image.{Found, Unformatted, Broken, Active, Outdated, found}
use Rattle.rr_journal.specs.Held.{Holds}
use Rattle.rr_journal.specs.Openings.{Phase, Settling, ReadingFirst, ReadingSecond, Rewriting, After, Goes, Opens, Stops, snapshot_with, formatted, bytes_in, migrate_calls, end_by, after_found, after_opening_call}
use Rattle.rr_journal.specs.Migration.{migrated, may_migrate}
use Rattle.rr_journal.specs.OpeningCourse.{calls_left}
use Rattle.rr_journal.specs.OpeningStates.{OpeningState}
use Rattle.rr_journal.specs.OpeningTable.{OpensAny, OpensWith, IsKept}
use Rattle.rr_journal.specs.OtherAreas.{other_area}
use Rattle.rr_journal.specs.Fronts.{KnowsFronts}
use Rattle.rr_journal.specs.Phases.{phase_of}

-- the device calls that are left behind one
abbrev pub calls_behind : After → ℕ
calls_behind (Goes phase) = calls_left phase
calls_behind (Opens area content) = 0
calls_behind (Stops refusal) = 0

rewrite_count : (area : Area) (closes : Bool) (payload : List ℕ) → length (rewrite_calls area closes payload) ≤ 6
rewrite_count area true payload = omega arith
rewrite_count area false payload = omega arith

found_count : (n p : ℕ) (first second : List ℕ) (f : Found) → calls_behind (after_found n p first second f) ≤ 6
found_count n p first second Unformatted = rewrite_count First (must_close first) (snapshot_bytes (snapshot_with n p formatted))
found_count n p first second (Broken area offset) = omega arith
found_count n p first second (Active area content) = omega arith
found_count n p first second (Outdated area c) = by (may_migrate c)
  where
    by : (t : Bool) → calls_behind (cond t (Goes (Rewriting (Outdated area c) (migrate_calls n p area c (bytes_in (other_area area) first second)))) (Stops because.TooLarge)) ≤ 6
    by true = rewrite_count (other_area area) (must_close (bytes_in (other_area area) first second)) (snapshot_bytes (snapshot_with n p (migrated c)))
    by false = omega arith

-- behind the last none is left
none_behind : (f : Found) → calls_behind (end_by f) ≡ 0
none_behind Unformatted = refl
none_behind (Broken area offset) = refl
none_behind (Active area c) = refl
none_behind (Outdated area c) = by (may_migrate c)
  where
    by : (t : Bool) → calls_behind (cond t (Opens (other_area area) (migrated c)) (Stops because.TooLarge)) ≡ 0
    by true = refl
    by false = refl

never_goes : (f : Found) (next : Phase) → end_by f ≡ Goes next → ⊥
never_goes Unformatted next e = absurd cc
never_goes (Broken area offset) next e = absurd cc
never_goes (Active area c) next e = absurd cc
never_goes (Outdated area c) next e = by (may_migrate c) e
  where
    by : (t : Bool) → cond t (Opens (other_area area) (migrated c)) (Stops because.TooLarge) ≡ Goes next → ⊥
    by true now = absurd cc
    by false now = absurd cc

fewer_behind : (n p : ℕ) (bytes : List ℕ) (old new : Phase) → after_opening_call n p bytes old ≡ Goes new → calls_behind (after_opening_call n p bytes old) < calls_left old
fewer_behind n p bytes Settling new goes = omega arith
fewer_behind n p bytes ReadingFirst new goes = omega arith
fewer_behind n p bytes (ReadingSecond first) new goes = omega (arith, found_count n p first bytes (found n p first bytes))
fewer_behind n p bytes (Rewriting found []) new goes = absurd (never_goes found new goes)
fewer_behind n p bytes (Rewriting found (call ∷ [])) new goes = omega (arith, none_behind found)
fewer_behind n p bytes (Rewriting found (call ∷ next ∷ calls)) new goes = omega arith

-- behind a device call fewer are left
pub fewer_left : (n p : ℕ) (bytes : List ℕ) (old new : Phase) → after_opening_call n p bytes old ≡ Goes new → calls_left new < calls_left old
fewer_left n p bytes old new goes = subst (λ (k : ℕ). k < calls_left old) (ap calls_behind goes) (fewer_behind n p bytes old new goes)

-- what a second part of an opening keeps, the whole keeps
kept_on : (holds : Images → List Fact → Type 0) (facts : List Fact) (old between new : Areas) → IsKept holds facts old between → IsKept holds facts between new → IsKept holds facts old new
kept_on holds facts old between new (inl same) (inl after) = inl (after ∙ same)
kept_on holds facts old between new (inr held) (inl after) = inr (subst (λ (b : Areas). EachHolds holds b facts) (sym after) held)
kept_on holds facts old between new (inl same) (inr held) = inr held
kept_on holds facts old between new (inr before) (inr held) = inr held

-- an opening came from another by steps: what was open still is, and the facts were kept
pub record ComesFrom {D : Type 0} (tells : D → Type 0) (areas : D → Areas) (first now : OpeningState D) : Type 0 where
  pub same_nodes : now.nodes ≡ first.nodes
  pub same_node : now.node ≡ first.node
  pub still_tells : tells first.disk → tells now.disk
  pub rests : tells first.disk → OpensAny first.nodes first.node first.phase (areas first.disk) → OpensAny now.nodes now.node now.phase (areas now.disk)
  pub opens : tells first.disk → (facts : List Fact) → OpensWith first.nodes first.node facts first.phase (areas first.disk) → OpensWith now.nodes now.node facts now.phase (areas now.disk)
  pub keeps : tells first.disk → (facts : List Fact) → OpensWith first.nodes first.node facts first.phase (areas first.disk) → IsKept (Holds first.nodes first.node) facts (areas first.disk) (areas now.disk)
  pub knows : tells first.disk → KnowsFronts (phase_of first.phase) first.fronts (areas first.disk) → KnowsFronts (phase_of now.phase) now.fronts (areas now.disk)

-- what the next step keeps, all steps so far have kept
pub keeps_on : {D : Type 0} (tells : D → Type 0) (areas : D → Areas) (first now : OpeningState D) (end : D) (facts : List Fact) → ComesFrom tells areas first now
    → tells first.disk → OpensWith first.nodes first.node facts first.phase (areas first.disk)
    → IsKept (Holds now.nodes now.node) facts (areas now.disk) (areas end) → IsKept (Holds first.nodes first.node) facts (areas first.disk) (areas end)
keeps_on tells areas first now end facts came tell opens kept =
    let with_nodes = subst (λ (n : ℕ). IsKept (Holds n now.node) facts (areas now.disk) (areas end)) came.same_nodes kept in
    let with_node = subst (λ (p : ℕ). IsKept (Holds first.nodes p) facts (areas now.disk) (areas end)) came.same_node with_nodes in
    kept_on (Holds first.nodes first.node) facts (areas first.disk) (areas now.disk) (areas end) (came.keeps tell facts opens) with_node
