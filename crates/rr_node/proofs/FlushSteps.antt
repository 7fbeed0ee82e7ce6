-- A flush of a node that is up, in the world: taken up by no step, settled by its last device call, marked by no step.
use Rattle.std.proofs.Common.{◌≡◌, inl, inr, ℕ, ◌+◌, ◌^◌, ◌<◌, Bool, true, false, ◌==◌, nat_lt, ltb-true, List, [], ◌∷◌, ◌++◌, length, length-append, append-nil, take, Option, None, Some, is_none, IfSome, Ok, Err, refl, sym, ap, subst, ◌∙◌, arith, if◌then◌else◌}
use Rattle.std.specs.Option.{option_map_or}
use Rattle.rr_types.specs.declared.fact.Fact.{Fact}
use Rattle.rr_types.specs.declared.refusal.Refusal.TheVariants as because
use Rattle.rr_types.specs.Groups as groups
use Rattle.rr_model.specs.World.{World, Settle}
use Rattle.rr_model.specs.Laws.{after_steps}
use Rattle.rr_model.specs.NodeState.{NodeState}
use Rattle.rr_model.specs.NodeStep.{group_taken, marked_running, running_group}
use Rattle.rr_model.specs.NodeLaws.{Grouped, Marked, after_event}
use Rattle.rr_model.specs.NodeReached.{IsReached, Happened}
use Rattle.rr_model.specs.NodeInWorld.{IsInWorld, group_of}
use Rattle.rr_model.proofs.NodeInWorld.{reached_in_world, reached_marks, settles_in_world}
use Rattle.rr_model.proofs.NodeReached.{reached_still}
use Rattle.rr_disk.specs.Areas.{Areas, synced}
use Rattle.rr_types.specs.Counts.{counted}
use Rattle.rr_disk.specs.Crash.{Images}
use Rattle.rr_frame.specs.GroupFormat.{group_bytes, IsLawfulGroup}
use Rattle.rr_journal.specs.Flushes as gate
use Rattle.rr_journal.specs.Moments.{with_group, IsGrounded}
use Rattle.rr_journal.proofs.Table.{to_group}
use Rattle.rr_journal.specs.declared.journal.Journal.{Journal}
use Rattle.rr_journal.specs.Calls.{Call, after_call, after_starved, append_calls}
use Rattle.rr_journal.specs.Held.{Holds}
use Rattle.rr_journal.specs.Journals.{IsOver, once_flushed}
use Rattle.rr_journal.proofs.FlushLaws.{length-frame}
use Rattle.rr_types.specs.declared.event.NodeEvent.TheVariants as at
use Rattle.rr_node.specs.declared.event.Outcome.TheVariants.{Quiet}
use Rattle.rr_node.specs.Seats.{Flush, Resting, Writing, Flushed, Switching, Journaled, Faulted, Serving, Seat, Answer, goes_on, refuse, payload_of, take_up, mark_up, flush_on, journal_behind, seat_step, fall, grows, starve_flush}
use Rattle.rr_node.specs.Worlds.{Moment, BodyDue, BodyOut, BodySafe, GateSet, calls_at, areas_at, flush_of, AreInOrder, journal_at, IsServing, InStep}
use Rattle.rr_node.specs.Runs.{MayBe, IsSpelt, GoesOn}
use Rattle.rr_node.proofs.InOrder.{call_in_order}
use Rattle.rr_core.proofs.GroupLemmas.{runs_is}
use Rattle.rr_node.proofs.Flushing.{own_group, serial_kept, flush_grounded, flushed_over}
use Rattle.rr_node.proofs.FlushCalls.{call_of, call_small, goes_out, goes_safe, goes_set}
use Rattle.rr_node.proofs.Going.{goes_quietly}
use Rattle.rr_node.proofs.Falling.{seated, faulted, serving_falls, small_flush, starvation, flush_fails, switch_fails}
use Rattle.rr_node.proofs.SwitchSteps.{switches_on}
use Rattle.rr_node.proofs.ServingSteps.{nothing, refuses, does_nothing}

-- ---- the taking up

-- the group that is taken up
taken_runs : (s : NodeState) → running_group (group_taken s) ≡ Some (record { serial = s.marked_end; facts = take 64 s.staged })
unfolding group_taken
taken_runs s = refl

-- what a take answers, by whether nothing is staged and whether the frame fits
abbrev taken_with : NodeState → Journaled → Seat → Bool → Bool → Answer
taken_with s journal seat empty fits =
    if empty then (Ok Quiet, seat)
    else (if fits then goes_on Quiet (Serving (group_taken s) journal (Writing (append_calls journal.area journal.gate (payload_of s)))) seat else refuse because.TooLarge seat)

module _ (n p k : ℕ) (w : World) (both : Areas) (s : NodeState) (journal : Journaled) where
  -- the oldest staged facts run from now on
  taken : IsServing n p w both s journal Resting → IsLawfulGroup (record { serial = s.marked_end; facts = take 64 s.staged }) → journal.gate + 6 + length (payload_of s) < 2 ^ 32
      → IsServing n p w both (group_taken s) journal (Writing (append_calls journal.area journal.gate (payload_of s)))
  taken serves lawful small =
      let group : groups.Grouped = record { serial = s.marked_end; facts = take 64 s.staged } in
      let payload : payload_of s ≡ group_bytes group = ap (λ (o : Option groups.Grouped). option_map_or group_bytes o []) (taken_runs s) in
      let is : after_event s Grouped ≡ group_taken s = ap (λ (o : Option (List Fact)). if is_none o then group_taken s else s) serves.flushes.0 in
      record {
        facts = serves.facts ++ [];
        heard = serves.heard;
        reached = subst (λ (t : NodeState). IsReached n p (serves.facts ++ []) serves.heard t) is (Happened serves.facts serves.heard s Grouped serves.reached tt);
        in_world = subst (λ (t : NodeState). IsInWorld false n p (serves.facts ++ []) serves.heard t w) is (reached_in_world n p serves.facts serves.heard s serves.reached false Grouped tt tt w serves.in_world tt).1;
        start = serves.start;
        over = serves.over;
        flushes = record {
          group = group;
          moment = BodyDue;
          runs = taken_runs s;
          lawful = lawful;
          small = omega (arith, small, ap (λ (bytes : List ℕ). length bytes) payload);
          calls_left = ap (append_calls journal.area journal.gate) payload;
          stands = serves.flushes.1;
        };
      }

  takes : (h : InStep n p (seated n p k both (Serving s journal Resting)) w) (empty fits : Bool) → nat_lt (journal.gate + 6 + length (payload_of s)) (2 ^ 32) ≡ fits
      → (let x = taken_with s journal (seated n p k both (Serving s journal Resting)) empty fits in IsSpelt x.1.doing → GoesOn n p (MayBe p at.Take) w x.0 x.1)
  takes h true fits is spelt = does_nothing n p w at.Take (seated n p k both (Serving s journal Resting)) h
  takes h false false is spelt = refuses n p w at.Take (seated n p k both (Serving s journal Resting)) because.TooLarge h
  takes h false true is spelt =
      let lawful : IsLawfulGroup (record { serial = s.marked_end; facts = take 64 s.staged }) = subst (λ (o : Option groups.Grouped). IfSome o IsLawfulGroup) (taken_runs s) spelt in
      let small : journal.gate + 6 + length (payload_of s) < 2 ^ 32 = ltb-true _ _ is in
      let next : Flush = Writing (append_calls journal.area journal.gate (payload_of s)) in
      goes_quietly n p (MayBe p at.Take) w (Ok Quiet) (seated n p k both (Serving (group_taken s) journal next)) [] tt refl tt tt
      (record { exists = h.exists; nodes = refl; node = refl; in_order = h.in_order; doing = taken h.doing lawful small }) refl refl (record { unsent = refl; untold = refl })

  pub takes_in_step : (flush : Flush) → InStep n p (seated n p k both (Serving s journal flush)) w
      → (let x = take_up s journal flush (seated n p k both (Serving s journal flush)) in IsSpelt x.1.doing → GoesOn n p (MayBe p at.Take) w x.0 x.1)
  takes_in_step Resting h = takes h (length s.staged == 0) (nat_lt (journal.gate + 6 + length (payload_of s)) (2 ^ 32)) refl
  takes_in_step (Writing calls) h = λ spelt. refuses n p w at.Take (seated n p k both (Serving s journal (Writing calls))) because.Busy h
  takes_in_step (Switching calls) h = λ spelt. refuses n p w at.Take (seated n p k both (Serving s journal (Switching calls))) because.Busy h
  takes_in_step Flushed h = λ spelt. refuses n p w at.Take (seated n p k both (Serving s journal Flushed)) because.Busy h

  -- ---- the marking

  marked_rests : (group : List Fact) → s.running ≡ Some group → (marked_running s).running ≡ None
  unfolding marked_running
  marked_rests group runs = rw runs refl

  marked : IsServing n p w both s journal Flushed → IsServing n p w both (marked_running s) journal Resting
  marked serves = record {
    facts = serves.facts;
    heard = serves.heard;
    reached = reached_still n p serves.facts serves.heard s Marked serves.reached tt refl;
    in_world = reached_marks n p serves.facts serves.heard s serves.reached w serves.in_world;
    start = serves.start;
    over = serves.over;
    flushes = (marked_rests serves.flushes.0 serves.flushes.1, serves.flushes.2);
  }

  pub marks_in_step : (flush : Flush) → InStep n p (seated n p k both (Serving s journal flush)) w → (let x = mark_up s journal flush (seated n p k both (Serving s journal flush)) in GoesOn n p (MayBe p at.Mark) w x.0 x.1)
  marks_in_step Resting h = does_nothing n p w at.Mark (seated n p k both (Serving s journal Resting)) h
  marks_in_step (Writing calls) h = does_nothing n p w at.Mark (seated n p k both (Serving s journal (Writing calls))) h
  marks_in_step (Switching calls) h = does_nothing n p w at.Mark (seated n p k both (Serving s journal (Switching calls))) h
  marks_in_step Flushed h =
      goes_quietly n p (MayBe p at.Mark) w (Ok Quiet) (seated n p k both (Serving (marked_running s) journal Resting)) [] tt refl tt tt
      (record { exists = h.exists; nodes = refl; node = refl; in_order = h.in_order; doing = marked h.doing }) refl refl (record { unsent = refl; untold = refl })

-- ---- the device calls

module _ (n p k : ℕ) (w : World) (both : Areas) (s : NodeState) (journal : Journaled) (exists : p < n) where
  -- where the journal appends behind the flush
  journal_is : (group : groups.Grouped) (kept : List Fact) → running_group s ≡ Some group → group.serial ≡ length kept
      → once_flushed (flush_of n p journal group) (journal_at n p journal (length kept)) ≡ journal_at n p (journal_behind s journal) (length (kept ++ group.facts))
  journal_is group kept runs serial =
      let size : option_map_or (λ (g : groups.Grouped). length (group_bytes g)) (running_group s) 0 ≡ length (group_bytes group) = ap (λ (o : Option groups.Grouped). option_map_or (λ (g : groups.Grouped). length (group_bytes g)) o 0) runs in
      let gate : journal.gate + length (flush_of n p journal group).body ≡ (journal_behind s journal).gate = omega (arith, size, length-frame (group_bytes group)) in
      let next : group.serial + length group.facts ≡ length (kept ++ group.facts) = omega (arith, serial, length-append kept group.facts) in
      λ i. record { disk = tt; nodes = n; node = p; area = journal.area; epoch = journal.epoch; gate = gate i; next = next i; failed = false; busy = false; closes_other = true }

  -- a flush at a moment, with the calls that are left then
  abbrev Flushes : Areas → groups.Grouped → Moment → Type 0
  Flushes areas group moment = IsServing n p w areas s journal (Writing (calls_at (flush_of n p journal group) moment))

  -- one device call leads to the next moment
  moved : (areas : Areas) (group : groups.Grouped) (moment : Moment) (calls : List Call) → (serves : IsServing n p w both s journal (Writing calls)) → serves.flushes.group ≡ group
      → areas ≡ areas_at moment (flush_of n p journal group) serves.start → Flushes areas group moment
  moved areas group moment calls serves same stands = record {
    facts = serves.facts;
    heard = serves.heard;
    reached = serves.reached;
    in_world = serves.in_world;
    start = serves.start;
    over = serves.over;
    flushes = record {
      group = group;
      moment = moment;
      runs = subst (λ (g : groups.Grouped). running_group s ≡ Some g) same serves.flushes.runs;
      lawful = subst IsLawfulGroup same serves.flushes.lawful;
      small = subst (λ (g : groups.Grouped). journal.gate + 6 + length (group_bytes g) < 2 ^ 32) same serves.flushes.small;
      calls_left = refl;
      stands = stands;
    };
  }

  -- the last device call settles the group
  settles : (calls : List Call) (serves : IsServing n p w both s journal (Writing calls)) → both ≡ areas_at GateSet (flush_of n p journal serves.flushes.group) serves.start
      → IsServing n p (after_steps w (Settle p (length serves.flushes.group.facts) ∷ [])) (synced both) s (journal_behind s journal) Flushed
  settles calls serves is =
      let f = serves.flushes in
      let runs = (runs_is s f.group f.runs).0 in
      let came = settles_in_world n p serves.facts serves.heard s w f.group.facts runs serves.in_world in
      let now : IsInWorld true n p serves.facts serves.heard s (after_steps w (Settle p (length serves.flushes.group.facts) ∷ [])) = came.1 in
      let kept : (after_steps w (Settle p (length serves.flushes.group.facts) ∷ [])).kept p ≡ w.kept p ++ f.group.facts =
      now.kept ∙ ap (λ (fs : List Fact). fs ++ group_of s) (sym (serves.in_world.kept ∙ append-nil _)) ∙ ap (λ (fs : List Fact). w.kept p ++ fs) (own_group n p w serves.facts serves.heard s f.group serves.reached serves.in_world f.runs) in
      let ground = flush_grounded n p w serves.facts serves.heard s f.group serves.reached serves.in_world f.runs journal serves.start serves.over f.lawful f.small in
      let behind = flushed_over n p w serves.facts serves.heard s f.group serves.reached serves.in_world f.runs journal serves.start serves.over f.lawful f.small in
      let serial = serial_kept n p w serves.facts serves.heard s f.group serves.reached serves.in_world f.runs in
      let end : Images = with_group (flush_of n p journal f.group) serves.start in
      let over : IsOver (journal_at n p (journal_behind s journal) (length (w.kept p ++ f.group.facts))) end (w.kept p ++ f.group.facts) =
      subst (λ (j : Journal (Unit {0})). IsOver j end (w.kept p ++ f.group.facts)) (journal_is f.group (w.kept p) f.runs serial) behind in
      record {
        facts = serves.facts;
        heard = serves.heard;
        reached = serves.reached;
        in_world = now;
        start = end;
        over = subst (λ (fs : List Fact). IsOver (journal_at n p (journal_behind s journal) (length fs)) end fs) (sym kept) over;
        flushes = (f.group.facts, runs, to_group (Holds n p) (flush_of n p journal f.group) serves.start (w.kept p) both (synced both) (record { grounded = ground; stands = is }) refl);
      }

  module _ (calls : List Call) (h : InStep n p (seated n p k both (Serving s journal (Writing calls))) w) where
    -- the group and where the flush began
    abbrev its_group : groups.Grouped
    its_group = h.doing.flushes.group

    abbrev its_flush : gate.Flush
    its_flush = flush_of n p journal h.doing.flushes.group

    ground : IsGrounded (Holds n p) its_flush h.doing.start (w.kept p)
    ground =
        let serves = h.doing in
        let f = serves.flushes in
        flush_grounded n p w serves.facts serves.heard s f.group serves.reached serves.in_world f.runs journal serves.start serves.over f.lawful f.small

    ordered : (moment : Moment) → AreInOrder (after_call (call_of its_flush moment) both)
    ordered moment = call_in_order (call_of its_flush moment) both (call_small its_flush moment (small_flush n p journal its_group h.doing.flushes.lawful h.doing.flushes.small)) h.in_order

    -- on to the next moment
    to : (next : Moment) (areas : Areas) → AreInOrder areas → areas ≡ areas_at next its_flush h.doing.start → GoesOn n p (MayBe p at.Device) w (Ok Quiet) (seated n p (counted k) areas (Serving s journal (Writing (calls_at its_flush next))))
    to next areas order stands =
        goes_quietly n p (MayBe p at.Device) w (Ok Quiet) (seated n p (counted k) areas (Serving s journal (Writing (calls_at its_flush next)))) [] tt (nothing p at.Device) tt tt
        (record { exists = exists; nodes = refl; node = refl; in_order = order; doing = moved areas its_group next calls h.doing refl stands }) refl refl (record { unsent = refl; untold = refl })

    -- a device call of the flush at each of its moments
    call_in_step : (moment : Moment) → both ≡ areas_at moment its_flush h.doing.start
        → (let x = flush_on s journal (seated n p k both (Serving s journal (Writing calls))) (Writing (calls_at its_flush moment)) in GoesOn n p (MayBe p at.Device) w x.0 x.1)
    call_in_step BodyDue is = to BodyOut (after_call (call_of its_flush BodyDue) both) (ordered BodyDue) (goes_out (Holds n p) its_flush h.doing.start (w.kept p) ground both (after_call (call_of its_flush BodyDue) both) is refl)
    call_in_step BodyOut is = to BodySafe (synced both) (ordered BodyOut) (goes_safe (Holds n p) its_flush h.doing.start (w.kept p) ground both (synced both) is refl)
    call_in_step BodySafe is = to GateSet (after_call (call_of its_flush BodySafe) both) (ordered BodySafe) (goes_set (Holds n p) its_flush h.doing.start (w.kept p) ground both (after_call (call_of its_flush BodySafe) both) is refl)
    call_in_step GateSet is =
        let serves = h.doing in
        let count = length h.doing.flushes.group.facts in
        let runs = (runs_is s serves.flushes.group serves.flushes.runs).0 in
        let came = settles_in_world n p serves.facts serves.heard s w serves.flushes.group.facts runs serves.in_world in
        goes_quietly n p (MayBe p at.Device) w (Ok Quiet) (seated n p (counted k) (synced both) (Serving s (journal_behind s journal) Flushed)) (Settle p count ∷ []) tt (inr (inl (count, refl))) came.0 (refl, tt)
        (record { exists = exists; nodes = refl; node = refl; in_order = ordered GateSet; doing = settles calls h.doing is }) refl refl (record { unsent = refl; untold = refl })

    calls_in_step : (let x = flush_on s journal (seated n p k both (Serving s journal (Writing calls))) (Writing calls) in GoesOn n p (MayBe p at.Device) w x.0 x.1)
    calls_in_step =
        subst (λ (cs : List Call). (let x = flush_on s journal (seated n p k both (Serving s journal (Writing calls))) (Writing cs) in GoesOn n p (MayBe p at.Device) w x.0 x.1)) (sym h.doing.flushes.calls_left)
        (call_in_step h.doing.flushes.moment h.doing.flushes.stands)

  -- the next device call of a node that is up
  pub device_in_step : (flush : Flush) → InStep n p (seated n p k both (Serving s journal flush)) w → (let x = flush_on s journal (seated n p k both (Serving s journal flush)) flush in GoesOn n p (MayBe p at.Device) w x.0 x.1)
  device_in_step Resting h = does_nothing n p w at.Device (seated n p k both (Serving s journal Resting)) h
  device_in_step Flushed h = does_nothing n p w at.Device (seated n p k both (Serving s journal Flushed)) h
  device_in_step (Writing calls) h = calls_in_step calls h
  device_in_step (Switching calls) h = switches_on n p k w both s journal calls h

  -- and where memory is wanting for it
  pub starves_in_step : (flush : Flush) → InStep n p (seated n p k both (Serving s journal flush)) w → (let x = starve_flush flush (seated n p k both (Serving s journal flush)) in GoesOn n p (MayBe p at.Device) w x.0 x.1)
  starves_in_step Resting h = device_in_step Resting h
  starves_in_step Flushed h = device_in_step Flushed h
  starves_in_step (Writing []) h = device_in_step (Writing []) h
  starves_in_step (Writing (call ∷ calls)) h = by (grows call both)
    where
      by : (longer : Bool) → (let x = if longer then fall after_starved call (seated n p k both (Serving s journal (Writing (call ∷ calls)))) else seat_step at.Device (seated n p k both (Serving s journal (Writing (call ∷ calls)))) in GoesOn n p (MayBe p at.Device) w x.0 x.1)
      by true =
          let left = flush_fails after_starved starvation n p w both s journal call calls h.in_order h.doing in
          serving_falls n p n p (counted k) (MayBe p at.Device) w (Err because.Device) both (after_starved call both) s journal (Writing (call ∷ calls)) Faulted (inl (inr refl)) faulted refl refl h.doing left.0 left.1 (record { unsent = refl; untold = refl })
      by false = device_in_step (Writing (call ∷ calls)) h
  starves_in_step (Switching []) h = device_in_step (Switching []) h
  starves_in_step (Switching (call ∷ calls)) h = by (grows call both)
    where
      by : (longer : Bool) → (let x = if longer then fall after_starved call (seated n p k both (Serving s journal (Switching (call ∷ calls)))) else seat_step at.Device (seated n p k both (Serving s journal (Switching (call ∷ calls)))) in GoesOn n p (MayBe p at.Device) w x.0 x.1)
      by true =
          let left = switch_fails after_starved starvation n p w both s journal call calls h.in_order h.doing in
          serving_falls n p n p (counted k) (MayBe p at.Device) w (Err because.Device) both (after_starved call both) s journal (Switching (call ∷ calls)) Faulted (inl (inr refl)) faulted refl refl h.doing left.0 left.1 (record { unsent = refl; untold = refl })
      by false = device_in_step (Switching (call ∷ calls)) h
