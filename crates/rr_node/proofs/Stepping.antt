-- Each event of a node with its disk is a run of the world's steps that keeps them in step.
use Rattle.std.proofs.Common.{◌≡◌, inl, inr, ℕ, ◌≤◌, Bool, true, false, [], Ok, Err, refl, ap, subst, ◌∙◌, if◌then◌else◌}
use Rattle.std.specs.Prelude.{unwrap_or}
use Rattle.rr_types.specs.declared.refusal.Refusal.{Refusal}
use Rattle.rr_types.specs.declared.refusal.Refusal.TheVariants as because
use Rattle.rr_model.specs.World.{World}
use Rattle.rr_disk.specs.Areas.{Areas, synced}
use Rattle.rr_types.specs.Counts.{counted}
use Rattle.rr_disk.specs.Crash.{Images}
use Rattle.rr_journal.specs.Calls.{Call, Read, Write, Sync, after_call, after_starved}
use Rattle.rr_journal.specs.Openings as opening
use Rattle.rr_journal.specs.Openings.{After, Goes, Opens, Stops, due_call, after_opening_call}
use Rattle.rr_journal.specs.OpeningTable.{contents}
use Rattle.rr_types.specs.declared.event.NodeEvent.{NodeEvent}
use Rattle.rr_types.specs.declared.message.Message.{Message}
use Rattle.rr_types.specs.declared.event.NodeEvent.TheVariants as at
use Rattle.rr_node.specs.declared.event.Outcome.TheVariants.{Quiet}
use Rattle.rr_node.specs.Seats.{Flush, Resting, Writing, Flushed, Switching, Journaled, Doing, Stopped, Faulted, Opening, Serving, Seat, Answer, Gives, called, read_by, opens_on, open_on, wait, await_opening, serve, by_doing, seat_step, fall, grows, starve_end, starve_opening, starve_awaiting, starve_beginning, starve_marking, starve_serving, starve}
use Rattle.rr_node.specs.Worlds.{AreInOrder, EachHoldsSome, HoldsSome, IsDown, InStep}
use Rattle.rr_node.specs.Runs.{MayCome, MayBe, IsSpelt, GoesOn, StepsInStep}
use Rattle.rr_model.specs.NodeState.{NodeState}
use Rattle.rr_model.specs.NodeStep.{input_refusal}
use Rattle.rr_node.proofs.InOrder.{own_image, synced_in_order, rest_image}
use Rattle.rr_node.proofs.Holding.{seat_holds}
use Rattle.rr_node.proofs.Going.{stays, given}
use Rattle.rr_node.proofs.Falling.{seated, stopped, faulted, down_falls, opening_down, starvation, opening_fails}
use Rattle.rr_node.proofs.Opens.{opens_in_step}
use Rattle.rr_node.proofs.ServingSteps.{nothing, refuses, tells, sends, replies}
use Rattle.rr_node.proofs.SwitchSteps.{snaps_in_step}
use Rattle.rr_node.proofs.FlushSteps.{takes_in_step, marks_in_step, device_in_step, starves_in_step}

module _ (n p k : ℕ) (few : n ≤ 7) (w : World) (areas : Areas) where
  -- an idle node is only started
  idle_in_step : (doing : Doing) (e : Refusal) → IsDown p w → InStep n p (seated n p k areas doing) w → (event : NodeEvent Message) → (let x = wait event (seated n p k areas doing) e in GoesOn n p (MayBe p event) w x.0 x.1)
  idle_in_step doing e down h at.Restart =
      stays n p (MayBe p at.Restart) w (Ok Quiet) (seated n p k areas (Opening opening.Settling)) refl
      (record { exists = h.exists; nodes = refl; node = refl; in_order = h.in_order; doing = (down, seat_holds n p (seated n p k areas doing) w h) }) (record { unsent = refl; untold = refl })
  idle_in_step doing e down h (at.Told input) = refuses n p w (at.Told input) (seated n p k areas doing) e h
  idle_in_step doing e down h at.Take = refuses n p w at.Take (seated n p k areas doing) e h
  idle_in_step doing e down h at.Device = refuses n p w at.Device (seated n p k areas doing) e h
  idle_in_step doing e down h at.Mark = refuses n p w at.Mark (seated n p k areas doing) e h
  idle_in_step doing e down h at.Send = refuses n p w at.Send (seated n p k areas doing) e h
  idle_in_step doing e down h at.Acknowledge = refuses n p w at.Acknowledge (seated n p k areas doing) e h
  idle_in_step doing e down h at.Snap = refuses n p w at.Snap (seated n p k areas doing) e h

  -- one that opens makes its device calls
  opening_in_step : (phase : opening.Phase) → InStep n p (seated n p k areas (Opening phase)) w → (event : NodeEvent Message) → (let x = await_opening phase (seated n p k areas (Opening phase)) event in IsSpelt x.1.doing → GoesOn n p (MayBe p event) w x.0 x.1)
  opening_in_step phase h at.Device = opens_in_step n p k few w areas phase h
  opening_in_step phase h at.Restart = λ spelt. refuses n p w at.Restart (seated n p k areas (Opening phase)) because.Busy h
  opening_in_step phase h (at.Told input) = λ spelt. refuses n p w (at.Told input) (seated n p k areas (Opening phase)) because.Down h
  opening_in_step phase h at.Take = λ spelt. refuses n p w at.Take (seated n p k areas (Opening phase)) because.Down h
  opening_in_step phase h at.Mark = λ spelt. refuses n p w at.Mark (seated n p k areas (Opening phase)) because.Down h
  opening_in_step phase h at.Send = λ spelt. refuses n p w at.Send (seated n p k areas (Opening phase)) because.Down h
  opening_in_step phase h at.Acknowledge = λ spelt. refuses n p w at.Acknowledge (seated n p k areas (Opening phase)) because.Down h
  opening_in_step phase h at.Snap = λ spelt. refuses n p w at.Snap (seated n p k areas (Opening phase)) because.Down h

  -- one that is up does as it is told
  serving_in_step : (s : NodeState) (journal : Journaled) (flush : Flush) → InStep n p (seated n p k areas (Serving s journal flush)) w → (event : NodeEvent Message) → MayCome n p w event
      → (let x = serve s journal flush (seated n p k areas (Serving s journal flush)) event in IsSpelt x.1.doing → GoesOn n p (MayBe p event) w x.0 x.1)
  serving_in_step s journal flush h (at.Told input) comes = λ spelt. tells n p k w areas s journal flush h input comes
  serving_in_step s journal flush h at.Take comes = takes_in_step n p k w areas s journal flush h
  serving_in_step s journal flush h at.Device comes = λ spelt. device_in_step n p k w areas s journal h.exists flush h
  serving_in_step s journal flush h at.Mark comes = λ spelt. marks_in_step n p k w areas s journal flush h
  serving_in_step s journal flush h at.Send comes = λ spelt. sends n p k w areas s journal flush h
  serving_in_step s journal flush h at.Acknowledge comes = λ spelt. replies n p k w areas s journal flush h
  serving_in_step s journal flush h at.Snap comes = snaps_in_step n p k w areas s journal flush h
  serving_in_step s journal flush h at.Restart comes = λ spelt. refuses n p w at.Restart (seated n p k areas (Serving s journal flush)) because.Busy h

  -- where memory is there
  doing_in_step : (doing : Doing) → InStep n p (seated n p k areas doing) w → (event : NodeEvent Message) → MayCome n p w event
      → (let x = by_doing event (seated n p k areas doing) doing in IsSpelt x.1.doing → GoesOn n p (MayBe p event) w x.0 x.1)
  doing_in_step Stopped h event comes = λ spelt. idle_in_step Stopped because.Down h.doing.0 h event
  doing_in_step Faulted h event comes = λ spelt. idle_in_step Faulted because.Failed h.doing.0 h event
  doing_in_step (Opening phase) h event comes = opening_in_step phase h event
  doing_in_step (Serving s journal flush) h event comes = serving_in_step s journal flush h event comes

  -- behind a sync every image holds what the bytes did
  synced_holds : AreInOrder areas → EachHoldsSome n p w areas → EachHoldsSome n p w (synced areas)
  synced_holds order each images left = subst (λ (x : Images). HoldsSome n p (w.kept p) (w.staged p) x) (rest_image (contents areas) images left) (each (contents areas) (own_image areas order))

  -- an opening for whose device call memory is wanting ends, but by a call that takes none
  opening_starves : (phase : opening.Phase) → InStep n p (seated n p k areas (Opening phase)) w → (call : Call) → due_call phase ≡ call
      → (let x = starve_opening phase call (seated n p k areas (Opening phase)) in IsSpelt x.1.doing → GoesOn n p (MayBe p at.Device) w x.0 x.1)
  opening_starves phase h (Read area) is = λ spelt.
      down_falls n p n p (counted k) (MayBe p at.Device) w (Err because.OutOfMemory) areas Stopped (nothing p at.Device) stopped h.exists refl refl (opening_down n p w areas phase h.doing) h.in_order
      (seat_holds n p (seated n p k areas (Opening phase)) w h) (record { unsent = refl; untold = refl })
  opening_starves phase h (Write area from bytes) is = by (grows (Write area from bytes) areas)
    where
      by : (longer : Bool) → (let x = if longer then fall after_starved (Write area from bytes) (seated n p k areas (Opening phase)) else seat_step at.Device (seated n p k areas (Opening phase)) in IsSpelt x.1.doing → GoesOn n p (MayBe p at.Device) w x.0 x.1)
      by true = λ spelt.
          let left = subst (λ (c : Call). AreInOrder (after_starved c areas) × EachHoldsSome n p w (after_starved c areas)) is
          (opening_fails after_starved starvation n p w areas phase h.in_order h.doing (seat_holds n p (seated n p k areas (Opening phase)) w h)) in
          down_falls n p n p (counted k) (MayBe p at.Device) w (Err because.Device) (after_starved (Write area from bytes) areas) Faulted (nothing p at.Device) faulted h.exists refl refl (opening_down n p w areas phase h.doing) left.0 left.1 (record { unsent = refl; untold = refl })
      by false = opens_in_step n p k few w areas phase h
  opening_starves phase h Sync is = by (after_opening_call n p [] phase) refl
    where
      behind : Seat
      behind = called (synced areas) (seated n p k areas (Opening phase))

      goes_so : (after : After) → after_opening_call n p [] phase ≡ after → (let x = opens_on behind after in IsSpelt x.1.doing → GoesOn n p (MayBe p at.Device) w x.0 x.1)
      goes_so after e =
          let same : open_on (seated n p k areas (Opening phase)) phase ≡ opens_on behind (after_opening_call n p [] phase) =
          ap (λ (c : Call). opens_on (called (after_call c areas) (seated n p k areas (Opening phase))) (after_opening_call n p (read_by c areas) phase)) is in
          subst (λ (a : Answer). IsSpelt a.1.doing → GoesOn n p (MayBe p at.Device) w a.0 a.1) (same ∙ ap (opens_on behind) e) (opens_in_step n p k few w areas phase h)

      by : (after : After) → after_opening_call n p [] phase ≡ after → (let x = starve_end behind after in IsSpelt x.1.doing → GoesOn n p (MayBe p at.Device) w x.0 x.1)
      by (Goes next) e = goes_so (Goes next) e
      by (Opens area c) e = λ spelt.
          down_falls n p n p (counted k) (MayBe p at.Device) w (Err because.OutOfMemory) (synced areas) Stopped (nothing p at.Device) stopped h.exists refl refl (opening_down n p w areas phase h.doing) (synced_in_order areas h.in_order)
          (synced_holds h.in_order (seat_holds n p (seated n p k areas (Opening phase)) w h)) (record { unsent = refl; untold = refl })
      by (Stops why) e = goes_so (Stops why) e

  awaiting_starves : (phase : opening.Phase) → InStep n p (seated n p k areas (Opening phase)) w → (event : NodeEvent Message) → (let x = starve_awaiting phase event (seated n p k areas (Opening phase)) in IsSpelt x.1.doing → GoesOn n p (MayBe p event) w x.0 x.1)
  awaiting_starves phase h at.Device = opening_starves phase h (due_call phase) refl
  awaiting_starves phase h (at.Told input) = opening_in_step phase h (at.Told input)
  awaiting_starves phase h at.Take = opening_in_step phase h at.Take
  awaiting_starves phase h at.Mark = opening_in_step phase h at.Mark
  awaiting_starves phase h at.Send = opening_in_step phase h at.Send
  awaiting_starves phase h at.Acknowledge = opening_in_step phase h at.Acknowledge
  awaiting_starves phase h at.Snap = opening_in_step phase h at.Snap
  awaiting_starves phase h at.Restart = opening_in_step phase h at.Restart

  -- a job isn't begun where none runs
  taking_starves : (s : NodeState) (journal : Journaled) (flush : Flush) → InStep n p (seated n p k areas (Serving s journal flush)) w
      → (let x = starve_beginning flush at.Take (seated n p k areas (Serving s journal flush)) in IsSpelt x.1.doing → GoesOn n p (MayBe p at.Take) w x.0 x.1)
  taking_starves s journal Resting h = λ spelt. refuses n p w at.Take (seated n p k areas (Serving s journal Resting)) because.OutOfMemory h
  taking_starves s journal (Writing calls) h = serving_in_step s journal (Writing calls) h at.Take tt
  taking_starves s journal Flushed h = serving_in_step s journal Flushed h at.Take tt
  taking_starves s journal (Switching calls) h = serving_in_step s journal (Switching calls) h at.Take tt

  snapping_starves : (s : NodeState) (journal : Journaled) (flush : Flush) → InStep n p (seated n p k areas (Serving s journal flush)) w
      → (let x = starve_beginning flush at.Snap (seated n p k areas (Serving s journal flush)) in IsSpelt x.1.doing → GoesOn n p (MayBe p at.Snap) w x.0 x.1)
  snapping_starves s journal Resting h = λ spelt. refuses n p w at.Snap (seated n p k areas (Serving s journal Resting)) because.OutOfMemory h
  snapping_starves s journal (Writing calls) h = serving_in_step s journal (Writing calls) h at.Snap tt
  snapping_starves s journal Flushed h = serving_in_step s journal Flushed h at.Snap tt
  snapping_starves s journal (Switching calls) h = serving_in_step s journal (Switching calls) h at.Snap tt

  -- a synced group isn't marked
  marking_starves : (s : NodeState) (journal : Journaled) (flush : Flush) → InStep n p (seated n p k areas (Serving s journal flush)) w
      → (let x = starve_marking flush (seated n p k areas (Serving s journal flush)) in GoesOn n p (MayBe p at.Mark) w x.0 x.1)
  marking_starves s journal Resting h = marks_in_step n p k w areas s journal Resting h
  marking_starves s journal (Writing calls) h = marks_in_step n p k w areas s journal (Writing calls) h
  marking_starves s journal Flushed h = refuses n p w at.Mark (seated n p k areas (Serving s journal Flushed)) because.OutOfMemory h
  marking_starves s journal (Switching calls) h = marks_in_step n p k w areas s journal (Switching calls) h

  serving_starves : (s : NodeState) (journal : Journaled) (flush : Flush) → InStep n p (seated n p k areas (Serving s journal flush)) w → (event : NodeEvent Message)
      → (let x = starve_serving s flush event (seated n p k areas (Serving s journal flush)) in IsSpelt x.1.doing → GoesOn n p (MayBe p event) w x.0 x.1)
  serving_starves s journal flush h (at.Told input) = λ spelt. refuses n p w (at.Told input) (seated n p k areas (Serving s journal flush)) (unwrap_or (input_refusal input s) because.OutOfMemory) h
  serving_starves s journal flush h at.Take = taking_starves s journal flush h
  serving_starves s journal flush h at.Device = λ spelt. starves_in_step n p k w areas s journal h.exists flush h
  serving_starves s journal flush h at.Mark = λ spelt. marking_starves s journal flush h
  serving_starves s journal flush h at.Send = serving_in_step s journal flush h at.Send tt
  serving_starves s journal flush h at.Acknowledge = serving_in_step s journal flush h at.Acknowledge tt
  serving_starves s journal flush h at.Snap = snapping_starves s journal flush h
  serving_starves s journal flush h at.Restart = serving_in_step s journal flush h at.Restart tt

  -- where memory is wanting
  starves : (doing : Doing) → InStep n p (seated n p k areas doing) w → (event : NodeEvent Message) → MayCome n p w event
      → (let x = starve event (seated n p k areas doing) in IsSpelt x.1.doing → GoesOn n p (MayBe p event) w x.0 x.1)
  starves Stopped h event comes = doing_in_step Stopped h event comes
  starves Faulted h event comes = doing_in_step Faulted h event comes
  starves (Opening phase) h event comes = awaiting_starves phase h event
  starves (Serving s journal flush) h event comes = serving_starves s journal flush h event

pub steps_in_step : (n p : ℕ) → n ≤ 7 → StepsInStep n p
steps_in_step n p few event seat next w answer h comes gives spelt = by gives
  where
    same : seat ≡ seated n p seat.calls seat.areas seat.doing
    same = λ i. record { nodes = h.nodes i; node = h.node i; doing = seat.doing; areas = seat.areas; calls = seat.calls }

    here : InStep n p (seated n p seat.calls seat.areas seat.doing) w
    here = record { exists = h.exists; nodes = refl; node = refl; in_order = h.in_order; doing = h.doing }

    by : Gives event seat answer next → GoesOn n p (MayBe p event) w answer next
    by (inl is) =
        let own = is ∙ ap (λ (x : Seat). by_doing event x seat.doing) same in
        given n p (MayBe p event) w answer next (by_doing event (seated n p seat.calls seat.areas seat.doing) seat.doing) own
        (doing_in_step n p seat.calls few w seat.areas seat.doing here event comes (subst (λ (a : Answer). IsSpelt a.1.doing) own spelt))
    by (inr is) =
        let own = is ∙ ap (starve event) same in
        given n p (MayBe p event) w answer next (starve event (seated n p seat.calls seat.areas seat.doing)) own
        (starves n p seat.calls few w seat.areas seat.doing here event comes (subst (λ (a : Answer). IsSpelt a.1.doing) own spelt))
