-- A switch to a snapshot in the other area, in the world: no step, from its beginning to its end.
use Rattle.std.proofs.Common.{◌≡◌, ℕ, ◌+◌, ◌^◌, ◌<◌, Bool, true, false, ltb-true, List, length, Ok, refl, sym, ap, subst, ◌∙◌, arith, if◌then◌else◌}
use Rattle.std.proofs.lemmas.Bool.{and_parts}
use Rattle.rr_types.specs.declared.fact.Fact.{Fact}
use Rattle.rr_types.specs.declared.refusal.Refusal.TheVariants as because
use Rattle.rr_model.specs.Lawful.{Heard}
use Rattle.rr_model.specs.World.{World}
use Rattle.rr_model.specs.NodeReached.{IsReached}
use Rattle.rr_model.specs.NodeInWorld.{IsInWorld}
use Rattle.rr_model.specs.NodeState.{NodeState}
use Rattle.rr_model.proofs.NodeInWorld.{kept_are_counted, kept_are_promised}
use Rattle.rr_model.proofs.NodeReached.{reached_itself}
use Rattle.rr_disk.specs.declared.area.Area.{Area}
use Rattle.rr_disk.specs.declared.area.Area.TheVariants.{First, Second}
use Rattle.rr_disk.specs.Areas.{Areas, synced}
use Rattle.rr_types.specs.Counts.{counted}
use Rattle.rr_disk.specs.Crash.{Images, restarted}
use Rattle.rr_frame.specs.Snapshots.{Snapped}
use Rattle.rr_frame.specs.SnapshotFormat.{snapshot_bytes, IsLawfulSnapshot}
use Rattle.rr_journal.specs.Moments.{image_of}
use Rattle.rr_journal.specs.declared.journal.Journal.{Journal}
use Rattle.rr_journal.specs.Calls.{Call, frame_bytes, after_call, must_close}
use Rattle.rr_journal.specs.Journals.{IsOver}
use Rattle.rr_journal.specs.OtherAreas.{other_area, closes_in}
use Rattle.rr_journal.proofs.FlushLaws.{length-frame}
use Rattle.rr_journal.proofs.FormatLaws.{open_at_front}
use Rattle.rr_journal.proofs.OpeningLaws.{bytes_firm}
use Rattle.rr_journal.specs.declared.stage.Stage as slots
use Rattle.rr_journal.specs.declared.stage.Stage.TheVariants as step
use Rattle.rr_journal.specs.Stages.{call_at, stage_behind, calls_from}
use Rattle.rr_journal.specs.Switches.{switch_calls}
use Rattle.rr_journal.specs.SwitchTable.{IsAtStage}
use Rattle.rr_journal.proofs.SwitchLaws.{Behind, body_is_due, goes}
use Rattle.rr_types.specs.declared.event.NodeEvent.TheVariants as at
use Rattle.rr_node.specs.declared.event.Outcome.TheVariants.{Quiet}
use Rattle.rr_node.specs.Seats.{Flush, Resting, Writing, Flushed, Switching, Journaled, Serving, Seat, Answer, goes_on, refuse, snapshot_of, journal_switched, flush_on, may_snap, snap_up}
use Rattle.rr_node.specs.Worlds.{AreInOrder, journal_at, snapshot_over, switch_at, InStep}
use Rattle.rr_node.specs.Runs.{MayBe, IsSpelt, GoesOn}
use Rattle.rr_node.proofs.InOrder.{call_in_order}
use Rattle.rr_node.proofs.Going.{stays}
use Rattle.rr_node.proofs.Falling.{seated, switch_body, switch_small}
use Rattle.rr_node.proofs.ServingSteps.{nothing, refuses}

module _ (n p k : ℕ) (w : World) (both : Areas) (s : NodeState) (journal : Journaled) where
  -- the snapshot that it makes is of its kept facts
  snapshot_is : (facts : List Fact) (h : Heard) → IsReached n p facts h s → IsInWorld false n p facts h s w → snapshot_of s journal ≡ snapshot_over n p journal (w.kept p)
  snapshot_is facts h reached world =
      let own = reached_itself n p facts h s reached in
      let next = kept_are_counted n p facts h s reached w world in
      let promise = kept_are_promised n p facts h s reached w world in
      λ i. record { node = own.node i; nodes = own.nodes i; epoch = journal.epoch + 1; next = next i; entries = promise i }

  -- ---- the device calls

  module _ (calls : List Call) (h : InStep n p (seated n p k both (Serving s journal (Switching calls))) w) where
    abbrev body : List ℕ
    body = frame_bytes (snapshot_bytes (snapshot_over n p journal (w.kept p)))

    abbrev other : Area
    other = other_area journal.area

    abbrev slots_at : Journal (Unit {0})
    slots_at = journal_at n p journal (length (w.kept p))

    ordered : (stage : slots.Stage) → AreInOrder (after_call (call_at other body stage) both)
    ordered stage = call_in_order (call_at other body stage) both (switch_small other body stage (switch_body n p journal (w.kept p) h.doing.flushes.spelt h.doing.flushes.small)) h.in_order

    -- on to the next stage
    to : (stage : slots.Stage) (areas : Areas) → AreInOrder areas → (on : (start : Images) × IsOver slots_at start (w.kept p) × IsAtStage stage (switch_at n p journal (w.kept p) stage) start (w.kept p) areas)
        → GoesOn n p (MayBe p at.Device) w (Ok Quiet) (seated n p (counted k) areas (Serving s journal (Switching (calls_from other body stage))))
    to stage areas order on =
        let serves = h.doing in
        let f = h.doing.flushes in
        stays n p (MayBe p at.Device) w (Ok Quiet) (seated n p (counted k) areas (Serving s journal (Switching (calls_from other body stage)))) (nothing p at.Device)
        (record {
          exists = h.exists;
          nodes = refl;
          node = refl;
          in_order = order;
          doing = record {
            facts = serves.facts;
            heard = serves.heard;
            reached = serves.reached;
            in_world = serves.in_world;
            start = on.0;
            over = on.1;
            flushes = record { stage = stage; rests = f.rests; spelt = f.spelt; small = f.small; calls_left = refl; stands = on.2 };
          };
        })
        (record { unsent = refl; untold = refl })

    -- behind the last one the other area is active
    ends : (areas : Areas) → AreInOrder areas → (end : Images) → areas ≡ restarted end → IsOver (journal_at n p (record { area = other; gate = length body; epoch = journal.epoch + 1 }) (length (w.kept p))) end (w.kept p)
        → GoesOn n p (MayBe p at.Device) w (Ok Quiet) (seated n p (counted k) areas (Serving s (journal_switched s journal) Resting))
    ends areas order end stands over =
        let serves = h.doing in
        let snapshot = snapshot_is serves.facts serves.heard serves.reached serves.in_world in
        let gate : length body ≡ 5 + length (snapshot_bytes (snapshot_of s journal)) = length-frame (snapshot_bytes (snapshot_over n p journal (w.kept p))) ∙ ap (λ (x : Snapped). 5 + length (snapshot_bytes x)) (sym snapshot) in
        stays n p (MayBe p at.Device) w (Ok Quiet) (seated n p (counted k) areas (Serving s (journal_switched s journal) Resting)) (nothing p at.Device)
        (record {
          exists = h.exists;
          nodes = refl;
          node = refl;
          in_order = order;
          doing = record {
            facts = serves.facts;
            heard = serves.heard;
            reached = serves.reached;
            in_world = serves.in_world;
            start = end;
            over = subst (λ (g : ℕ). IsOver (journal_at n p (record { area = other; gate = g; epoch = journal.epoch + 1 }) (length (w.kept p))) end (w.kept p)) gate over;
            flushes = (serves.flushes.rests, stands);
          };
        })
        (record { unsent = refl; untold = refl })

    -- what a device call of the switch leads to at a stage
    leads : (stage : slots.Stage) → IsAtStage stage (switch_at n p journal (w.kept p) stage) h.doing.start (w.kept p) both → Behind slots_at (w.kept p) (length (w.kept p)) (after_call (call_at other body stage) both) (stage_behind stage)
    leads stage stands =
        goes slots_at (w.kept p) (length (w.kept p)) h.doing.flushes.spelt (omega (arith, h.doing.flushes.small)) stage h.doing.start both (after_call (call_at other body stage) both) h.doing.over stands refl

    switch_by : (stage : slots.Stage) → IsAtStage stage (switch_at n p journal (w.kept p) stage) h.doing.start (w.kept p) both
        → (let x = flush_on s journal (seated n p k both (Serving s journal (Switching calls))) (Switching (calls_from other body stage)) in GoesOn n p (MayBe p at.Device) w x.0 x.1)
    switch_by step.Closing stands = to step.SettlingClosed (after_call (call_at other body step.Closing) both) (ordered step.Closing) (leads step.Closing stands)
    switch_by step.SettlingClosed stands = to step.WritingBody (after_call (call_at other body step.SettlingClosed) both) (ordered step.SettlingClosed) (leads step.SettlingClosed stands)
    switch_by step.WritingBody stands = to step.SettlingBody (after_call (call_at other body step.WritingBody) both) (ordered step.WritingBody) (leads step.WritingBody stands)
    switch_by step.SettlingBody stands = to step.OpeningGate (after_call (call_at other body step.SettlingBody) both) (ordered step.SettlingBody) (leads step.SettlingBody stands)
    switch_by step.OpeningGate stands = to step.SettlingGate (after_call (call_at other body step.OpeningGate) both) (ordered step.OpeningGate) (leads step.OpeningGate stands)
    switch_by step.SettlingGate stands =
        let end = leads step.SettlingGate stands in
        ends (synced both) (ordered step.SettlingGate) end.0 end.1 (record { holds = end.2.over.holds; active = end.2.over.active })

    -- the next device call of a switch
    pub switches_on : (let x = flush_on s journal (seated n p k both (Serving s journal (Switching calls))) (Switching calls) in GoesOn n p (MayBe p at.Device) w x.0 x.1)
    switches_on =
        subst (λ (cs : List Call). (let x = flush_on s journal (seated n p k both (Serving s journal (Switching calls))) (Switching cs) in GoesOn n p (MayBe p at.Device) w x.0 x.1)) (sym h.doing.flushes.calls_left)
        (switch_by h.doing.flushes.stage h.doing.flushes.stands)

  -- ---- the beginning

  -- whether the other area has to be closed
  closes_is : (start : Images) (area : Area) → closes_in (restarted start) area ≡ must_close (image_of start area)
  closes_is start First = ap must_close (bytes_firm start.of_first)
  closes_is start Second = ap must_close (bytes_firm start.of_second)

  -- a switch begins at one of its stages
  begins : (kept : List Fact) (start : Images) → both ≡ restarted start → IsOver (journal_at n p journal (length kept)) start kept → IsLawfulSnapshot (snapshot_over n p journal kept) → 6 + length (snapshot_bytes (snapshot_over n p journal kept)) < 2 ^ 32
      → (stage : slots.Stage) × (switch_calls (other_area journal.area) (closes_in both (other_area journal.area)) (snapshot_bytes (snapshot_over n p journal kept)) ≡ calls_from (other_area journal.area) (frame_bytes (snapshot_bytes (snapshot_over n p journal kept))) stage)
      × IsAtStage stage (switch_at n p journal kept stage) start kept both
  begins kept start stands over spelt small = by (must_close (image_of start (other_area journal.area))) refl
    where
      payload : List ℕ
      payload = snapshot_bytes (snapshot_over n p journal kept)

      closes : closes_in both (other_area journal.area) ≡ must_close (image_of start (other_area journal.area))
      closes = ap (λ (b : Areas). closes_in b (other_area journal.area)) stands ∙ closes_is start (other_area journal.area)

      by : (b : Bool) → must_close (image_of start (other_area journal.area)) ≡ b
          → (stage : slots.Stage) × (switch_calls (other_area journal.area) (closes_in both (other_area journal.area)) (snapshot_bytes (snapshot_over n p journal kept)) ≡ calls_from (other_area journal.area) (frame_bytes (snapshot_bytes (snapshot_over n p journal kept))) stage)
          × IsAtStage stage (switch_at n p journal kept stage) start kept both
      by true is = (step.Closing, ap (λ (b : Bool). switch_calls (other_area journal.area) b (snapshot_bytes (snapshot_over n p journal kept))) (closes ∙ is), (is, stands))
      by false is =
          let front = open_at_front (image_of start (other_area journal.area)) is in (
            step.WritingBody,
            ap (λ (b : Bool). switch_calls (other_area journal.area) b (snapshot_bytes (snapshot_over n p journal kept))) (closes ∙ is),
            body_is_due (journal_at n p journal (length kept)) kept (length kept) spelt (omega (arith, small)) start both over stands front.0 front.1,
          )

  -- what a snap answers, by whether the snapshot is small enough
  abbrev snapped_with : Seat → Bool → Answer
  snapped_with seat fits =
      if fits then goes_on Quiet (Serving s journal (Switching (switch_calls (other_area journal.area) (closes_in seat.areas (other_area journal.area)) (snapshot_bytes (snapshot_of s journal))))) seat
      else refuse because.TooLarge seat

  snaps : (h : InStep n p (seated n p k both (Serving s journal Resting)) w) (fits : Bool) → may_snap s journal ≡ fits
      → (let x = snapped_with (seated n p k both (Serving s journal Resting)) fits in IsSpelt x.1.doing → GoesOn n p (MayBe p at.Snap) w x.0 x.1)
  snaps h false is spelt = refuses n p w at.Snap (seated n p k both (Serving s journal Resting)) because.TooLarge h
  snaps h true is spelt =
      let serves = h.doing in
      let same = snapshot_is serves.facts serves.heard serves.reached serves.in_world in
      let small : 6 + length (snapshot_bytes (snapshot_of s journal)) < 2 ^ 32 = ltb-true _ _ (and_parts _ _ is).1 in
      let own_small : 6 + length (snapshot_bytes (snapshot_over n p journal (w.kept p))) < 2 ^ 32 = subst (λ (x : Snapped). 6 + length (snapshot_bytes x) < 2 ^ 32) same small in
      let own_spelt : IsLawfulSnapshot (snapshot_over n p journal (w.kept p)) = subst IsLawfulSnapshot same spelt in
      let first = begins (w.kept p) serves.start serves.flushes.1 serves.over own_spelt own_small in
      let calls : List Call = switch_calls (other_area journal.area) (closes_in both (other_area journal.area)) (snapshot_bytes (snapshot_of s journal)) in
      stays n p (MayBe p at.Snap) w (Ok Quiet) (seated n p k both (Serving s journal (Switching calls))) (nothing p at.Snap)
      (record {
        exists = h.exists;
        nodes = refl;
        node = refl;
        in_order = h.in_order;
        doing = record {
          facts = serves.facts;
          heard = serves.heard;
          reached = serves.reached;
          in_world = serves.in_world;
          start = serves.start;
          over = serves.over;
          flushes = record {
            stage = first.0;
            rests = serves.flushes.0;
            spelt = own_spelt;
            small = own_small;
            calls_left = ap (λ (x : Snapped). switch_calls (other_area journal.area) (closes_in both (other_area journal.area)) (snapshot_bytes x)) same ∙ first.1;
            stands = first.2;
          };
        };
      })
      (record { unsent = refl; untold = refl })

  pub snaps_in_step : (flush : Flush) → InStep n p (seated n p k both (Serving s journal flush)) w
      → (let x = snap_up s journal flush (seated n p k both (Serving s journal flush)) in IsSpelt x.1.doing → GoesOn n p (MayBe p at.Snap) w x.0 x.1)
  snaps_in_step Resting h = snaps h (may_snap s journal) refl
  snaps_in_step (Writing calls) h = λ spelt. refuses n p w at.Snap (seated n p k both (Serving s journal (Writing calls))) because.Busy h
  snaps_in_step Flushed h = λ spelt. refuses n p w at.Snap (seated n p k both (Serving s journal Flushed)) because.Busy h
  snaps_in_step (Switching calls) h = λ spelt. refuses n p w at.Snap (seated n p k both (Serving s journal (Switching calls))) because.Busy h
