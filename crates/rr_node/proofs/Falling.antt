-- A failing device call and a crash: the node goes down, and whatever is left of its disk holds its kept facts.
use Rattle.std.proofs.Common.{◌≡◌, ◌⊎◌, inl, inr, ℕ, ◌+◌, ◌^◌, ◌<◌, ltb, Bool, true, false, List, [], ◌∷◌, ◌++◌, length, take, Result, Ok, Err, refl, sym, ap, subst, ◌∙◌, arith, if◌then◌else◌}
use Rattle.std.proofs.lemmas.Bool.{and_parts, ltb-true}
use Rattle.std.proofs.lemmas.List.Elements.{All-nil, All-cons}
use Rattle.rr_types.specs.declared.fact.Fact.{Fact}
use Rattle.rr_types.specs.declared.refusal.Refusal.{Refusal}
use Rattle.rr_types.specs.declared.refusal.Refusal.TheVariants as because
use Rattle.rr_types.specs.Groups.{Grouped}
use Rattle.rr_model.specs.World.{World, Step, GoDown}
use Rattle.rr_model.specs.Laws.{after_steps}
use Rattle.rr_model.specs.NodeState.{NodeState}
use Rattle.rr_model.proofs.NodeInWorld.{goes_down_in_world}
use Rattle.rr_disk.specs.declared.area.Area.{Area}
use Rattle.rr_disk.specs.Areas.{Areas}
use Rattle.rr_types.specs.Counts.{counted}
use Rattle.rr_disk.specs.Crash.{Images, IsCrashImage, restarted, crash_images}
use Rattle.rr_frame.specs.GroupFormat.{group_bytes, IsLawfulGroup}
use Rattle.rr_frame.specs.SnapshotFormat.{snapshot_bytes, IsLawfulSnapshot}
use Rattle.rr_journal.specs.Moments.{image_of, IsGrounded, EachHolds}
use Rattle.rr_journal.specs.Calls.{Call, Sync, frame_bytes, must_close, after_failing, after_starved}
use Rattle.rr_journal.specs.Image.{Found, Unformatted, Broken, Active, Outdated}
use Rattle.rr_journal.specs.Held.{Holds}
use Rattle.rr_journal.specs.Openings as opening
use Rattle.rr_journal.specs.Openings.{due_call, snapshot_with}
use Rattle.rr_journal.specs.Migration.{snapshot_size}
use Rattle.rr_journal.specs.OpeningTable.{IsLeftBy}
use Rattle.rr_journal.specs.Rewrites.{writes_anew, area_anew, content_anew, flush_anew, IsInStage, IsRewriting}
use Rattle.rr_journal.proofs.FlushLaws.{length-frame}
use Rattle.rr_journal.proofs.RewriteLaws.{grounded_anew, failed_rewriting}
use Rattle.rr_journal.proofs.SnapshotSize.{snapshot_sized}
use Rattle.rr_journal.specs.declared.stage.Stage as slots
use Rattle.rr_journal.specs.declared.stage.Stage.TheVariants as step
use Rattle.rr_journal.specs.Stages.{call_at, calls_from}
use Rattle.rr_journal.specs.SwitchTable as table
use Rattle.rr_journal.specs.SwitchTable.{IsAtStage}
use Rattle.rr_journal.proofs.SwitchLaws.{held_failed}
use Rattle.rr_node.specs.declared.event.Outcome.{Outcome}
use Rattle.rr_node.specs.declared.event.Outcome.TheVariants.{Quiet}
use Rattle.rr_node.specs.Seats.{Flush, Resting, Writing, Flushed, Switching, Journaled, Doing, Stopped, Faulted, Opening, Serving, Seat, grows, fail_doing, after_failing_starved}
use Rattle.rr_node.specs.Worlds.{BodyDue, BodySafe, flush_of, AreInOrder, EachHoldsSome, HoldsSome, IsDown, WritesAnew, IsOpening, is_settled, snapshot_over, switch_at, journal_at, IsServing, DoesSo, InStep}
use Rattle.rr_node.specs.Runs.{MayFall, GoesOn, FailsInStep, CrashesInStep}
use Rattle.rr_node.proofs.InOrder.{Bytes, IsSmall, StartsWithin, crash_in_order, crash_image, rest_image, starved_in_order, failing_in_order, starved_left, failing_left}
use Rattle.rr_node.proofs.Flushing.{each_none, each_first, each_either, flush_grounded, staged_group}
use Rattle.rr_node.proofs.FlushCalls.{call_of, call_is, IsSmallFlush, call_small, call_within, moment_fails}
use Rattle.rr_node.proofs.Holding.{seat_holds, anew_holds}
use Rattle.rr_node.proofs.Spelling.{body_fits, snapped_body_fits}
use Rattle.rr_node.proofs.Going.{IsQuiet, stays, falls, given}

-- a seat of these parts, behind k device calls
abbrev pub seated : ℕ → ℕ → ℕ → Areas → Doing → Seat
seated n p k areas doing = record { nodes = n; node = p; doing = doing; areas = areas; calls = k }

-- a node that does nothing
pub data IsIdle : Doing → Type 0 where
  stopped : IsIdle Stopped
  faulted : IsIdle Faulted

pub idle_does : (n p : ℕ) (w : World) (both : Areas) (doing : Doing) → IsIdle doing → IsDown p w → EachHoldsSome n p w both → DoesSo n p w both doing
idle_does n p w both doing stopped down each = (down, each)
idle_does n p w both doing faulted down each = (down, each)

pub idle_seat : (n p m q k : ℕ) (w : World) (areas : Areas) (doing : Doing) → IsIdle doing → p < n → m ≡ n → q ≡ p → AreInOrder areas → IsDown p w → EachHoldsSome n p w areas → InStep n p (seated m q k areas doing) w
idle_seat n p m q k w areas doing idle exists nodes node order down each = record { exists = exists; nodes = nodes; node = node; in_order = order; doing = idle_does n p w areas doing idle down each }

-- ---- going down

-- a node that is up goes down, and its disk is left so
pub serving_falls : (n p m q k : ℕ) (May : List Step → Type 0) (w : World) (answer : Result Outcome Refusal) (old areas : Areas) (s : NodeState) (journal : Journaled) (flush : Flush) (doing : Doing) → May (GoDown p ∷ []) → IsIdle doing
    → m ≡ n → q ≡ p → IsServing n p w old s journal flush → AreInOrder areas → EachHoldsSome n p w areas → IsQuiet p answer → GoesOn n p May w answer (seated m q k areas doing)
serving_falls n p m q k May w answer old areas s journal flush doing may idle nodes node serves order each quiet =
    let down = goes_down_in_world (is_settled flush) n p serves.facts serves.heard s w serves.in_world in
    falls n p May w answer (seated m q k areas doing) may down.0
    (idle_seat n p m q k (after_steps w (GoDown p ∷ [])) areas doing idle serves.in_world.exists nodes node order (record { down = down.1.down; heard = down.1.heard }) each) quiet

-- one that is down stays so
pub down_falls : (n p m q k : ℕ) (May : List Step → Type 0) (w : World) (answer : Result Outcome Refusal) (areas : Areas) (doing : Doing) → May [] → IsIdle doing
    → p < n → m ≡ n → q ≡ p → IsDown p w → AreInOrder areas → EachHoldsSome n p w areas → IsQuiet p answer → GoesOn n p May w answer (seated m q k areas doing)
down_falls n p m q k May w answer areas doing may idle exists nodes node down order each quiet =
    stays n p May w answer (seated m q k areas doing) may (idle_seat n p m q k w areas doing idle exists nodes node order down each) quiet

-- ---- crashes

-- what a crash leaves holds what each image held
crash_holds : (n p : ℕ) (w : World) (both : Areas) (images : Images) → IsCrashImage both images → EachHoldsSome n p w both → EachHoldsSome n p w (restarted images)
crash_holds n p w both images is each left may = subst (λ (x : Images). HoldsSome n p (w.kept p) (w.staged p) x) (rest_image images left may) (each images is)

pub opening_down : (n p : ℕ) (w : World) (both : Areas) (phase : opening.Phase) → IsOpening n p w both phase → IsDown p w
opening_down n p w both opening.Settling opens = opens.0
opening_down n p w both opening.ReadingFirst opens = opens.0
opening_down n p w both (opening.ReadingSecond first) opens = opens.0
opening_down n p w both (opening.Rewriting found calls) opens = opens.0

crash_by : (n p m q k : ℕ) (w : World) (old areas : Areas) (doing : Doing) → p < n → m ≡ n → q ≡ p → DoesSo n p w old doing → AreInOrder areas → EachHoldsSome n p w areas → GoesOn n p (MayFall p) w (Ok Quiet) (seated m q k areas Stopped)
crash_by n p m q k w old areas Stopped exists nodes node does order each = down_falls n p m q k (MayFall p) w (Ok Quiet) areas Stopped (inl refl) stopped exists nodes node does.0 order each (record { unsent = refl; untold = refl })
crash_by n p m q k w old areas Faulted exists nodes node does order each = down_falls n p m q k (MayFall p) w (Ok Quiet) areas Stopped (inl refl) stopped exists nodes node does.0 order each (record { unsent = refl; untold = refl })
crash_by n p m q k w old areas (Opening phase) exists nodes node does order each = down_falls n p m q k (MayFall p) w (Ok Quiet) areas Stopped (inl refl) stopped exists nodes node (opening_down n p w old phase does) order each (record { unsent = refl; untold = refl })
crash_by n p m q k w old areas (Serving s journal flush) exists nodes node does order each = serving_falls n p m q k (MayFall p) w (Ok Quiet) old areas s journal flush Stopped (inr refl) stopped nodes node does order each (record { unsent = refl; untold = refl })

pub crashes_in_step : (n p : ℕ) → CrashesInStep n p
crashes_in_step n p cut_first cut_second fill seat w fit h =
    let images = crash_images cut_first cut_second fill seat.areas in
    crash_by n p seat.nodes seat.node seat.calls w seat.areas (restarted images) seat.doing h.exists h.nodes h.node h.doing (crash_in_order cut_first cut_second fill seat.areas fit h.in_order)
    (crash_holds n p w seat.areas images (crash_image cut_first cut_second fill seat.areas fit h.in_order) (seat_holds n p seat w h))

-- ---- failing device calls

-- what a failing device call leaves: it is torn, and in order
pub record IsFailure (leaves : Call → Areas → Areas) : Type 0 where
  pub order : (call : Call) (both : Areas) → IsSmall call → AreInOrder both → AreInOrder (leaves call both)
  pub left : (call : Call) (both : Areas) → StartsWithin call both → IsLeftBy call both (leaves call both)

pub failure : (fill : List ℕ) → Bytes fill → IsFailure (after_failing fill)
failure fill fit = record { order = λ call both small order. failing_in_order fill call both fit small order; left = λ call both within. failing_left fill call both within }

pub starvation : IsFailure after_starved
starvation = record { order = λ call both small order. starved_in_order call both order; left = λ call both within. starved_left call both within }

pub starved_failure : (fill : List ℕ) → Bytes fill → IsFailure (after_failing_starved fill)
starved_failure fill fit = record { order = λ call both small order. in_order call both small order (grows call both); left = λ call both within. is_left call both within (grows call both) }
  where
    in_order : (call : Call) (both : Areas) → IsSmall call → AreInOrder both → (longer : Bool) → AreInOrder (if longer then after_starved call both else after_failing fill call both)
    in_order call both small order true = starvation.order call both small order
    in_order call both small order false = (failure fill fit).order call both small order

    is_left : (call : Call) (both : Areas) → StartsWithin call both → (longer : Bool) → IsLeftBy call both (if longer then after_starved call both else after_failing fill call both)
    is_left call both within true = starvation.left call both within
    is_left call both within false = (failure fill fit).left call both within

-- the flush of a group that has a spelling is small
pub small_flush : (n p : ℕ) (journal : Journaled) (group : Grouped) → IsLawfulGroup group → journal.gate + 6 + length (group_bytes group) < 2 ^ 32 → IsSmallFlush (flush_of n p journal group)
small_flush n p journal group lawful small = record { bytes = body_fits group lawful; small = omega (arith, small, length-frame (group_bytes group)) }

-- ---- the calls of a switch

switch_call : (area : Area) (body : List ℕ) (stage : slots.Stage) (call : Call) (calls : List Call) → call ∷ calls ≡ calls_from area body stage → call ≡ call_at area body stage
switch_call area body step.Closing call calls e = cc
switch_call area body step.SettlingClosed call calls e = cc
switch_call area body step.WritingBody call calls e = cc
switch_call area body step.SettlingBody call calls e = cc
switch_call area body step.OpeningGate call calls e = cc
switch_call area body step.SettlingGate call calls e = cc

-- what a switch writes are bytes, below byte 4,294,967,296
pub record IsSmallBody (body : List ℕ) : Type 0 where
  pub bytes : Bytes body
  pub small : 1 + length body < 2 ^ 32

pub switch_body : (n p : ℕ) (journal : Journaled) (kept : List Fact) → IsLawfulSnapshot (snapshot_over n p journal kept) → 6 + length (snapshot_bytes (snapshot_over n p journal kept)) < 2 ^ 32
    → IsSmallBody (frame_bytes (snapshot_bytes (snapshot_over n p journal kept)))
switch_body n p journal kept spelt small = record { bytes = snapped_body_fits (snapshot_over n p journal kept) spelt.entries; small = omega (arith, small, length-frame (snapshot_bytes (snapshot_over n p journal kept))) }

pub switch_small : (area : Area) (body : List ℕ) (stage : slots.Stage) → IsSmallBody body → IsSmall (call_at area body stage)
switch_small area body step.Closing small = (All-cons (λ b. b < 256) 0 [] (omega arith) (All-nil (λ b. b < 256)), omega arith)
switch_small area body step.SettlingClosed small = tt
switch_small area body step.WritingBody small = (small.bytes, small.small)
switch_small area body step.SettlingBody small = tt
switch_small area body step.OpeningGate small = (All-cons (λ b. b < 256) 165 [] (omega arith) (All-nil (λ b. b < 256)), omega arith)
switch_small area body step.SettlingGate small = tt

switch_within : (n p : ℕ) (journal : Journaled) (kept : List Fact) (start : Images) (both : Areas) (stage : slots.Stage) → IsAtStage stage (switch_at n p journal kept stage) start kept both
    → StartsWithin (call_at (switch_at n p journal kept stage).area (switch_at n p journal kept stage).body stage) both
switch_within n p journal kept start both step.Closing at = omega arith
switch_within n p journal kept start both step.SettlingClosed at = tt
switch_within n p journal kept start both step.WritingBody at = call_within (Holds n p) (table.flush_of (switch_at n p journal kept step.WritingBody)) start kept at.grounded BodyDue both at.stands
switch_within n p journal kept start both step.SettlingBody at = tt
switch_within n p journal kept start both step.OpeningGate at = call_within (Holds n p) (table.flush_of (switch_at n p journal kept step.OpeningGate)) start kept at.grounded BodySafe both at.stands
switch_within n p journal kept start both step.SettlingGate at = tt

-- ---- the calls of an opening that writes an area anew

pub anew_body : (n p : ℕ) (found : Found) → writes_anew found ≡ true → IsLawfulSnapshot (snapshot_with n p (content_anew found)) → IsSmallBody (flush_anew n p found).body
anew_body n p found due spelt =
    record {
      bytes = snapped_body_fits (snapshot_with n p (content_anew found)) spelt.entries;
      small = omega (arith, sized found due, snapshot_sized (snapshot_with n p (content_anew found)), length-frame (snapshot_bytes (snapshot_with n p (content_anew found))));
    }
  where
    sized : (was : Found) → writes_anew was ≡ true → 6 + snapshot_size (content_anew was).promise < 2 ^ 32
    sized Unformatted due = omega arith
    sized (Broken area offset) due = absurd cc
    sized (Active area c) due = absurd cc
    sized (Outdated area c) due = ltb-true _ _ (and_parts (ltb (c.epoch + 1) (2 ^ 64)) (ltb (6 + snapshot_size c.promise) (2 ^ 32)) due).1

-- the call that is due then
pub anew_due : (found : Found) (body : List ℕ) (stage : slots.Stage) (calls : List Call) → calls ≡ calls_from (area_anew found) body stage → due_call (opening.Rewriting found calls) ≡ call_at (area_anew found) body stage
anew_due found body stage calls is = ap (λ (cs : List Call). due_call (opening.Rewriting found cs)) is ∙ by stage
  where
    by : (stage : slots.Stage) → due_call (opening.Rewriting found (calls_from (area_anew found) body stage)) ≡ call_at (area_anew found) body stage
    by step.Closing = refl
    by step.SettlingClosed = refl
    by step.WritingBody = refl
    by step.SettlingBody = refl
    by step.OpeningGate = refl
    by step.SettlingGate = refl

module _ (n p : ℕ) (facts : List Fact) (both : Areas) (found : Found) (calls : List Call) (anew : WritesAnew n p facts both found calls) where
  -- it is small, and within its area
  pub anew_small : IsSmall (call_at (area_anew found) (flush_anew n p found).body anew.stage)
  anew_small = switch_small (area_anew found) (flush_anew n p found).body anew.stage (anew_body n p found anew.rewrites.due anew.rewrites.spelt)

  anew_within : StartsWithin (call_at (area_anew found) (flush_anew n p found).body anew.stage) both
  anew_within = by anew.stage anew.rewrites.stands
    where
      ground : must_close (image_of anew.rewrites.start (area_anew found)) ≡ false → IsGrounded (Holds n p) (flush_anew n p found) anew.rewrites.start facts
      ground shut = grounded_anew n p found anew.rewrites.due anew.rewrites.start anew.rewrites.finds anew.rewrites.spelt facts anew.holds shut

      by : (stage : slots.Stage) → IsInStage stage (flush_anew n p found) anew.rewrites.start both → StartsWithin (call_at (area_anew found) (flush_anew n p found).body stage) both
      by step.Closing at = omega arith
      by step.SettlingClosed at = tt
      by step.WritingBody at = call_within (Holds n p) (flush_anew n p found) anew.rewrites.start facts (ground at.0) BodyDue both at.1
      by step.SettlingBody at = tt
      by step.OpeningGate at = call_within (Holds n p) (flush_anew n p found) anew.rewrites.start facts (ground at.0) BodySafe both at.1
      by step.SettlingGate at = tt

  -- what is left where it fails holds the facts
  anew_fails : (new : Areas) → IsLeftBy (call_at (area_anew found) (flush_anew n p found).body anew.stage) both new → EachHolds (Holds n p) new facts
  anew_fails new left = by (failed_rewriting n p found r.due r.start r.finds r.spelt facts anew.holds anew.stage (flush_anew n p found).body both new r.stands left)
    where
      r : IsRewriting n p (record { found = found; body = (flush_anew n p found).body; stage = anew.stage }) both
      r = anew.rewrites

      by : (new ≡ both) ⊎ EachHolds (Holds n p) new facts → EachHolds (Holds n p) new facts
      by (inl same) = subst (λ (b : Areas). EachHolds (Holds n p) b facts) (sym same) (anew_holds n p facts both found calls anew)
      by (inr held) = held

module _ (leaves : Call → Areas → Areas) (fails : IsFailure leaves) (n p : ℕ) (w : World) where
  -- a failing call that writes nothing leaves the disk as it was
  each_left : (call : Call) (both : Areas) → leaves call both ≡ both → EachHoldsSome n p w both → EachHoldsSome n p w (leaves call both)
  each_left call both same each = subst (λ (b : Areas). EachHoldsSome n p w b) (sym same) each

  -- the call that is due in an opening fails
  pub opening_fails : (both : Areas) (phase : opening.Phase) → AreInOrder both → IsOpening n p w both phase → EachHoldsSome n p w both → AreInOrder (leaves (due_call phase) both) × EachHoldsSome n p w (leaves (due_call phase) both)
  opening_fails both opening.Settling order opens each = (fails.order Sync both tt order, each_left Sync both (fails.left Sync both tt) each)
  opening_fails both opening.ReadingFirst order opens each = (fails.order (due_call opening.ReadingFirst) both tt order, each_left (due_call opening.ReadingFirst) both (fails.left (due_call opening.ReadingFirst) both tt) each)
  opening_fails both (opening.ReadingSecond first) order opens each = (fails.order (due_call (opening.ReadingSecond first)) both tt order, each_left (due_call (opening.ReadingSecond first)) both (fails.left (due_call (opening.ReadingSecond first)) both tt) each)
  opening_fails both (opening.Rewriting found calls) order opens each =
      let some = opens.1 in
      let left = fails.left (call_at (area_anew found) (flush_anew n p found).body some.opens.stage) both (anew_within n p (w.kept p ++ take some.count (w.staged p)) both found calls some.opens) in
      subst (λ (c : Call). AreInOrder (leaves c both) × EachHoldsSome n p w (leaves c both)) (sym (anew_due found (flush_anew n p found).body some.opens.stage calls some.opens.calls_left)) (
        fails.order (call_at (area_anew found) (flush_anew n p found).body some.opens.stage) both (anew_small n p (w.kept p ++ take some.count (w.staged p)) both found calls some.opens) order,
        each_first n p (w.kept p) (w.staged p) some.count (leaves (call_at (area_anew found) (flush_anew n p found).body some.opens.stage) both) some.there
            (anew_fails n p (w.kept p ++ take some.count (w.staged p)) both found calls some.opens (leaves (call_at (area_anew found) (flush_anew n p found).body some.opens.stage) both) left),
      )

  -- the call that is due in a flush fails
  pub flush_fails : (both : Areas) (s : NodeState) (journal : Journaled) (call : Call) (calls : List Call) → AreInOrder both → IsServing n p w both s journal (Writing (call ∷ calls)) → AreInOrder (leaves call both) × EachHoldsSome n p w (leaves call both)
  flush_fails both s journal call calls order serves =
      let f = serves.flushes in
      let flush = flush_of n p journal f.group in
      let ground = flush_grounded n p w serves.facts serves.heard s f.group serves.reached serves.in_world f.runs journal serves.start serves.over f.lawful f.small in
      let due = (call_is flush f.moment call calls f.calls_left).0 in
      let left = fails.left (call_of flush f.moment) both (call_within (Holds n p) flush serves.start (w.kept p) ground f.moment both f.stands) in
      subst (λ (c : Call). AreInOrder (leaves c both) × EachHoldsSome n p w (leaves c both)) (sym due) (
        fails.order (call_of flush f.moment) both (call_small flush f.moment (small_flush n p journal f.group f.lawful f.small)) order,
        each_either n p (w.kept p) f.group.facts s.staged (w.staged p) (leaves (call_of flush f.moment) both) (staged_group n p w serves.facts serves.heard s f.group serves.reached serves.in_world f.runs)
            (moment_fails (Holds n p) flush serves.start (w.kept p) ground f.moment both (leaves (call_of flush f.moment) both) f.stands left),
      )

  -- the call that is due in a switch fails
  pub switch_fails : (both : Areas) (s : NodeState) (journal : Journaled) (call : Call) (calls : List Call) → AreInOrder both → IsServing n p w both s journal (Switching (call ∷ calls)) → AreInOrder (leaves call both) × EachHoldsSome n p w (leaves call both)
  switch_fails both s journal call calls order serves =
      let f = serves.flushes in
      let job = switch_at n p journal (w.kept p) f.stage in
      let due = switch_call job.area job.body f.stage call calls f.calls_left in
      let left = fails.left (call_at job.area job.body f.stage) both (switch_within n p journal (w.kept p) serves.start both f.stage f.stands) in
      subst (λ (c : Call). AreInOrder (leaves c both) × EachHoldsSome n p w (leaves c both)) (sym due) (
        fails.order (call_at job.area job.body f.stage) both (switch_small job.area job.body f.stage (switch_body n p journal (w.kept p) f.spelt f.small)) order,
        each_none n p (w.kept p) (w.staged p) (leaves (call_at job.area job.body f.stage) both)
            (held_failed (journal_at n p journal (length (w.kept p))) (w.kept p) (length (w.kept p)) f.stage serves.start both (leaves (call_at job.area job.body f.stage) both) serves.over f.stands (inr left)),
      )

  -- the next device call of a node fails
  fail_by : (m q k : ℕ) (areas : Areas) (doing : Doing) → InStep n p (seated m q k areas doing) w
      → GoesOn n p (MayFall p) w (fail_doing leaves doing (seated m q k areas doing)).0 (fail_doing leaves doing (seated m q k areas doing)).1
  fail_by m q k areas Stopped h = stays n p (MayFall p) w (Err because.Down) (seated m q k areas Stopped) (inl refl) h (record { unsent = refl; untold = refl })
  fail_by m q k areas Faulted h = stays n p (MayFall p) w (Err because.Failed) (seated m q k areas Faulted) (inl refl) h (record { unsent = refl; untold = refl })
  fail_by m q k areas (Opening phase) h =
      let left = opening_fails areas phase h.in_order h.doing (seat_holds n p (seated m q k areas (Opening phase)) w h) in
      down_falls n p m q (counted k) (MayFall p) w (Err because.Device) (leaves (due_call phase) areas) Faulted (inl refl) faulted h.exists h.nodes h.node (opening_down n p w areas phase h.doing) left.0 left.1 (record { unsent = refl; untold = refl })
  fail_by m q k areas (Serving s journal Resting) h = stays n p (MayFall p) w (Ok Quiet) (seated m q k areas (Serving s journal Resting)) (inl refl) h (record { unsent = refl; untold = refl })
  fail_by m q k areas (Serving s journal Flushed) h = stays n p (MayFall p) w (Ok Quiet) (seated m q k areas (Serving s journal Flushed)) (inl refl) h (record { unsent = refl; untold = refl })
  fail_by m q k areas (Serving s journal (Switching [])) h = stays n p (MayFall p) w (Ok Quiet) (seated m q k areas (Serving s journal (Switching []))) (inl refl) h (record { unsent = refl; untold = refl })
  fail_by m q k areas (Serving s journal (Switching (call ∷ calls))) h =
      let left = switch_fails areas s journal call calls h.in_order h.doing in
      serving_falls n p m q (counted k) (MayFall p) w (Err because.Device) areas (leaves call areas) s journal (Switching (call ∷ calls)) Faulted (inr refl) faulted h.nodes h.node h.doing left.0 left.1 (record { unsent = refl; untold = refl })
  fail_by m q k areas (Serving s journal (Writing [])) h = stays n p (MayFall p) w (Ok Quiet) (seated m q k areas (Serving s journal (Writing []))) (inl refl) h (record { unsent = refl; untold = refl })
  fail_by m q k areas (Serving s journal (Writing (call ∷ calls))) h =
      let left = flush_fails areas s journal call calls h.in_order h.doing in
      serving_falls n p m q (counted k) (MayFall p) w (Err because.Device) areas (leaves call areas) s journal (Writing (call ∷ calls)) Faulted (inr refl) faulted h.nodes h.node h.doing left.0 left.1 (record { unsent = refl; untold = refl })

pub fails_in_step : (n p : ℕ) → FailsInStep n p
fails_in_step n p fill seat next w answer fit h (inl is) =
    given n p (MayFall p) w answer next (fail_doing (after_failing fill) seat.doing seat) is (fail_by (after_failing fill) (failure fill fit) n p w seat.nodes seat.node seat.calls seat.areas seat.doing h)
fails_in_step n p fill seat next w answer fit h (inr is) =
    given n p (MayFall p) w answer next (fail_doing (after_failing_starved fill) seat.doing seat) is (fail_by (after_failing_starved fill) (starved_failure fill fit) n p w seat.nodes seat.node seat.calls seat.areas seat.doing h)
