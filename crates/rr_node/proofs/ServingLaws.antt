-- Each event at a node that is up does what the definitions say, and keeps its parts together.
use Rattle.std.proofs.Common.{◌≡◌, ◌≢◌, ◌⊎◌, inl, inr, ℕ, suc, ◌+◌, ◌^◌, ◌<◌, ◌≤◌, Bool, true, false, eqb, List, [], ◌∷◌, ◌++◌, length, Option, None, Some, option_map, Result, Ok, Err, refl, sym, ap, subst, ◌∙◌, arith, if◌then◌else◌, nat_lt}
use Rattle.std.specs.Result.{OnOk, OnErr, IfErr}
use Rattle.std.specs.Option.{option_map_or}
use Rattle.std.proofs.lemmas.Bool.{false≢true, ne_eqb, lt-ltb, le-ltb}
use Rattle.std.proofs.lemmas.List.{take-append-drop, length-append}
use Rattle.rr_types.specs.declared.fact.Fact.{Fact}
use Rattle.rr_types.specs.declared.refusal.Refusal.{Refusal}
use Rattle.rr_types.specs.declared.refusal.Refusal.TheVariants as because
use Rattle.rr_types.specs.Groups.{Grouped}
use Rattle.rr_types.specs.Promises.{all_fit}
use Rattle.rr_types.specs.declared.promise.Entry.{Entry}
use Rattle.rr_types.specs.Registry.{Bindings, registry_of}
use Rattle.rr_model.specs.NodeState.{NodeState, decided_prefix}
use Rattle.rr_types.specs.declared.input.Input.{Input}
use Rattle.rr_types.specs.declared.message.Message.{Message}
use Rattle.rr_model.specs.NodeStep.{node_step, input_refusal, refusal_of, group_taken, group_put_back, marked_running, running_group, restored, started}
use Rattle.rr_model.specs.NodeStays.{StaysMarked}
use Rattle.rr_model.proofs.NodeSteady.{input_stays, started_stays}
use Rattle.rr_disk.specs.declared.area.Area.{Area}
use Rattle.rr_disk.specs.Areas.{Areas, synced}
use Rattle.rr_types.specs.Counts.{counted, Grew}
use Rattle.rr_disk.specs.Failing.{FailingWrite, FailingSync}
use Rattle.rr_disk.specs.Memory.{MemoryWrite, MemorySync}
use Rattle.rr_frame.specs.Numbers.{number_bytes}
use Rattle.rr_frame.specs.GroupFormat.{group_bytes, IsLawfulGroup}
use Rattle.rr_frame.specs.Snapshots.{Snapped, IsSnapshot}
use Rattle.rr_frame.specs.SnapshotFormat.{snapshot_bytes, IsLawfulSnapshot}
use Rattle.rr_frame.proofs.FieldLaws.{length-number_bytes}
use Rattle.rr_journal.specs.Flushes as gate
use Rattle.rr_journal.specs.declared.journal.Journal.{Journal}
use Rattle.rr_journal.specs.Calls.{Call, Write, Sync, frame_bytes, append_calls, after_call, after_starved, after_failing}
use Rattle.rr_journal.specs.OtherAreas.{other_area, closes_in, IsOtherKnown}
use Rattle.rr_journal.specs.Stages.{Gave}
use Rattle.rr_journal.proofs.PromisedLaws.{none_taken, facts_stand}
use Rattle.rr_node.proofs.FrontLaws.{Reaches, KeepsFronts, sync_keeps, write_keeps, appends_on, knows_on}
use Rattle.rr_node.proofs.DiskLaws.{passed_on, synced_by, starved_by, starved_grows, starved_falls, gave_failing, gave_not}
use Rattle.rr_node.specs.declared.doing.Doing.TheVariants as does
use Rattle.rr_node.specs.declared.serving.Serving.{Serving}
use Rattle.rr_node.specs.declared.serving.Flush.{Flush}
use Rattle.rr_node.specs.declared.serving.Flush.TheVariants as flush
use Rattle.rr_types.specs.declared.event.NodeEvent.TheVariants as at
use Rattle.rr_node.specs.declared.event.Outcome.TheVariants.{Quiet, Opened}
use Rattle.rr_node.specs.Seats as seats
use Rattle.rr_node.specs.Seats.{Seat, Answer, Journaled, Fails, goes_on, refuse, told, starve_input, take_up, payload_of, journal_behind}
use Rattle.rr_node.specs.Views.{NodeDisk, areas_in, IsBeside, journaled_of, flush_of, seat_of, IsJobOf, IsFlushOf, MaySnap, IsServing, IsOpened, CarriesOn, CarriesFailing, Serves, armed, quiet}

-- where the same group runs, a flush stays of it
flush_stays : (s t : NodeState) (j : Journal NodeDisk) (f : Flush) → StaysMarked s t → IsFlushOf s j f → IsFlushOf t j f
flush_stays s t j f same h = by f h
  where
    group : running_group t ≡ running_group s
    group = ap (λ (o : Option (List Fact)). option_map (λ facts. record { serial = t.marked_end; facts = facts }) o) same.running ∙ ap (λ (n : ℕ). option_map (λ (facts : List Fact). record { serial = n; facts = facts }) s.running) same.marked_end

    job_stays : (job : gate.Flush) → IsJobOf s j job → IsJobOf t j job
    job_stays job h = record { node = h.node ∙ sym same.node; area = h.area; gate = h.gate; body = h.body; group = group ∙ h.group; lawful = h.lawful; next = h.next ∙ sym same.marked_end }

    snapshot : seats.snapshot_of t (journaled_of j) ≡ seats.snapshot_of s (journaled_of j)
    snapshot = λ i. record { node = same.node i; nodes = same.nodes i; epoch = j.epoch + 1; next = same.marked_end i; entries = same.marked i }

    by : (f : Flush) → IsFlushOf s j f → IsFlushOf t j f
    by flush.Resting h = (same.running ∙ h.0, h.1, h.2 ∙ sym same.marked_end)
    by (flush.Body job) h = job_stays job h
    by (flush.BodyOut job) h = job_stays job h
    by (flush.BodySafe job) h = job_stays job h
    by (flush.GateSet job) h = job_stays job h
    by (flush.Flushed kept) h = (h.0 ∙ sym same.node, group ∙ h.1, h.2, h.3)
    by (flush.Switching job) h = record { area = h.area; epoch = h.epoch; body = h.body ∙ ap (λ (x : Snapped). frame_bytes (snapshot_bytes x)) (sym snapshot); lawful = subst IsLawfulSnapshot (sym snapshot) h.lawful; next = h.next ∙ sym same.marked_end; rests = same.running ∙ h.rests }

-- where the same facts are marked, a snapshot can hold them
snaps_stay : (s t : NodeState) → StaysMarked s t → MaySnap s → MaySnap t
snaps_stay s t same h =
    let snapshot : record { node = t.node; nodes = t.nodes; epoch = 1; next = t.marked_end; entries = t.marked } ≡ record { node = s.node; nodes = s.nodes; epoch = 1; next = s.marked_end; entries = s.marked } =
    λ i. record { node = same.node i; nodes = same.nodes i; epoch = 1; next = same.marked_end i; entries = same.marked i } in
    subst IsSnapshot (sym snapshot) h

taken_snaps : (s : NodeState) → MaySnap s → MaySnap (group_taken s)
unfolding group_taken
taken_snaps s h = record { node = h.node; epoch = h.epoch; empty = h.empty; proposals = h.proposals }

-- and so it can with the facts of the running group, which fit them
marked_snaps : (s : NodeState) (g : Grouped) → running_group s ≡ Some g → all_fit s.nodes s.node s.marked g.facts ≡ true → MaySnap s → MaySnap (marked_running s)
unfolding marked_running
marked_snaps s g e fit h = by s.running refl
  where
    by : (o : Option (List Fact)) → s.running ≡ o → MaySnap (marked_running s)
    by None runs = absurd (none (rw runs at e))
      where
        none : (option_map (λ (facts : List Fact). record { serial = s.marked_end; facts = facts }) None ≡ Some g) → ⊥
        none x = cc
    by (Some facts) runs =
        let group : record { serial = s.marked_end; facts = facts } ≡ g = grouped facts (rw runs at e) in
        let fits : all_fit s.nodes s.node s.marked facts ≡ true = ap (λ (x : Grouped). all_fit s.nodes s.node s.marked x.facts) group ∙ fit in
        rw runs (record {
          node = h.node;
          epoch = h.epoch;
          empty = λ start. none_taken s.marked_end s.marked facts h.empty start;
          proposals = facts_stand s.nodes s.node s.marked facts fits h.proposals;
        })
      where
        grouped : (facts : List Fact) → option_map (λ (facts : List Fact). record { serial = s.marked_end; facts = facts }) (Some facts) ≡ Some g → record { serial = s.marked_end; facts = facts } ≡ g
        grouped facts x = cc

-- a node that is up is the one that its core says
pub own_serving : (n p : ℕ) (s : Serving) → IsServing n p s → IsServing s.core.nodes s.core.node s
own_serving n p s h = record {
  nodes = refl;
  node = refl;
  journal_nodes = h.journal_nodes ∙ sym h.nodes;
  journal_node = h.journal_node ∙ sym h.node;
  sound = h.sound;
  calm = h.calm;
  flush = h.flush;
  appending = h.appending;
  beside = h.beside;
  snaps = h.snaps;
}

serving_stays : (n p : ℕ) (s t : NodeState) (j : Journal NodeDisk) (f : Flush) → StaysMarked s t → IsServing n p (record { core = s; slots = j; flush = f }) → IsServing n p (record { core = t; slots = j; flush = f })
serving_stays n p s t j f same h = record {
  nodes = same.nodes ∙ h.nodes;
  node = same.node ∙ h.node;
  journal_nodes = h.journal_nodes;
  journal_node = h.journal_node;
  sound = h.sound;
  calm = h.calm;
  flush = flush_stays s t j f same h.flush;
  appending = h.appending;
  beside = h.beside;
  snaps = snaps_stay s t same h.snaps;
}

-- what an input to the core answered, and the core after it
pub record IsTold (input : Input Message) (s t : NodeState) (r : Result (Unit {0}) Refusal) : Type 0 where
  pub ok : OnOk r (t ≡ node_step input s)
  pub allowed : OnOk r (refusal_of input s ≡ None)
  pub order : (e : Refusal) → input_refusal input s ≡ Some e → r ≡ Err e
  pub refused : IfErr r (λ e. (e ≡ because.OutOfMemory) ⊎ (refusal_of input s ≡ Some e))
  pub err : OnErr r (t ≡ s)

-- the same, of a seat
abbrev Tells : Input Message → NodeState → Journal NodeDisk → Flush → Seat → Answer → Type 0
Tells input s j f seat given = (given ≡ told input s (journaled_of j) (flush_of f) seat) ⊎ (given ≡ starve_input input s seat)

pub told_on : (input : Input Message) (s t : NodeState) (j : Journal NodeDisk) (f : Flush) (r : Result (Unit {0}) Refusal) (n p : ℕ) → IsTold input s t r → IsServing n p (record { core = s; slots = j; flush = f })
    → Tells input s j f (seat_of n p (does.Serving (record { core = s; slots = j; flush = f }))) (quiet r, seat_of n p (does.Serving (record { core = t; slots = j; flush = f })))
    × IsServing n p (record { core = t; slots = j; flush = f })
told_on input s t j f (Ok x) n p h steady =
    rw (h.ok, h.allowed) (inl refl, serving_stays n p s (node_step input s) j f (input_stays input s) steady)
told_on input s t j f (Err e) n p h steady = rw h.err (by h.refused, steady)
  where
    by : (e ≡ because.OutOfMemory) ⊎ (refusal_of input s ≡ Some e) → Tells input s j f (seat_of n p (does.Serving (record { core = s; slots = j; flush = f }))) (Err e, seat_of n p (does.Serving (record { core = s; slots = j; flush = f })))
    by (inl memory) = inr (wants (input_refusal input s) refl)
      where
        same : (why : Refusal) → Path (Result (Unit {0}) Refusal) (Err e) (Err why) → e ≡ why
        same why x = cc

        wants : (o : Option Refusal) → input_refusal input s ≡ o → Path Answer (Err e, seat_of n p (does.Serving (record { core = s; slots = j; flush = f }))) (starve_input input s (seat_of n p (does.Serving (record { core = s; slots = j; flush = f }))))
        wants None g = rw (memory, g) refl
        wants (Some why) g = rw (same why (h.order why g), g) refl
    by (inr why) = inl (rw why refl)

-- the marked group leaves none running
marked_rests : (s : NodeState) (g : Grouped) → running_group s ≡ Some g → ((marked_running s).running ≡ None) × ((marked_running s).nodes ≡ s.nodes) × ((marked_running s).node ≡ s.node) × ((marked_running s).marked_end ≡ g.serial + length g.facts)
unfolding marked_running
marked_rests s g e = by s.running refl
  where
    by : (o : Option (List Fact)) → s.running ≡ o → ((marked_running s).running ≡ None) × ((marked_running s).nodes ≡ s.nodes) × ((marked_running s).node ≡ s.node) × ((marked_running s).marked_end ≡ g.serial + length g.facts)
    by None h = absurd (none (rw h at e))
      where
        none : (option_map (λ (facts : List Fact). record { serial = s.marked_end; facts = facts }) None ≡ Some g) → ⊥
        none x = cc
    by (Some facts) h =
        let group : record { serial = s.marked_end; facts = facts } ≡ g = grouped facts (rw h at e) in
        let count : s.marked_end + length facts ≡ g.serial + length g.facts = ap (λ (x : Grouped). x.serial + length x.facts) group in
        rw h (refl, refl, refl, count)
      where
        grouped : (facts : List Fact) → option_map (λ (facts : List Fact). record { serial = s.marked_end; facts = facts }) (Some facts) ≡ Some g → record { serial = s.marked_end; facts = facts } ≡ g
        grouped facts x = cc

pub mark_done : (s t : NodeState) (j : Journal NodeDisk) (kept : gate.Kept) → t ≡ marked_running s → all_fit s.nodes s.node s.marked kept.group.facts ≡ true → CarriesOn at.Mark (record { core = s; slots = j; flush = flush.Flushed kept }) (Ok Quiet) (does.Serving (record { core = t; slots = j; flush = flush.Resting }))
mark_done s t j kept e fit n p h =
    let rests = marked_rests s kept.group h.flush.1 in
    rw e (
      inl refl,
      record { nodes = rests.1 ∙ h.nodes; node = rests.2 ∙ h.node; journal_nodes = h.journal_nodes; journal_node = h.journal_node; sound = h.sound; calm = h.calm; flush = (rests.0, h.flush.2, h.flush.3 ∙ sym rests.3); appending = h.appending; beside = h.beside; snaps = marked_snaps s kept.group h.flush.1 fit h.snaps },
    )

pub frame_long : (payload : List ℕ) → length (frame_bytes payload) ≡ 5 + length payload
unfolding number_bytes
frame_long payload = length-append (number_bytes 4 (length payload)) (payload ++ 0 ∷ []) ∙ omega (arith, length-number_bytes 4 (length payload), length-append payload (0 ∷ []))

-- where the journal appends once the job's frame is on the disk
behind : (s : NodeState) (j : Journal NodeDisk) (job : gate.Flush) → IsJobOf s j job → job.gate + length job.body ≡ (journal_behind s (journaled_of j)).gate
behind s j job h =
    let payload : List ℕ = group_bytes job.group in
    let size : option_map_or (λ (g : Grouped). length (group_bytes g)) (running_group s) 0 ≡ length (group_bytes job.group) = ap (λ (o : Option Grouped). option_map_or (λ (g : Grouped). length (group_bytes g)) o 0) h.group in
    let body : length job.body ≡ 5 + length (group_bytes job.group) = ap (λ (bytes : List ℕ). length bytes) h.body ∙ frame_long (group_bytes job.group) in
    omega (arith, size, body, h.gate)

pub gate_done : (s : NodeState) (j k : Journal NodeDisk) (job : gate.Flush) (kept : gate.Kept) (next : ℕ) → kept ≡ record { node = job.node; group = job.group }
    → k ≡ record { disk = k.disk; nodes = j.nodes; node = j.node; area = j.area; epoch = j.epoch; gate = job.gate + length job.body; next = next; failed = j.failed; busy = false; closes_other = j.closes_other }
    → next ≡ job.group.serial + length job.group.facts
    → FailingSync MemorySync j.disk (Ok tt) k.disk
    → CarriesOn at.Device (record { core = s; slots = j; flush = flush.GateSet job }) (Ok Quiet) (does.Serving (record { core = s; slots = k; flush = flush.Flushed kept }))
gate_done s j k job kept next is ended count gave n p h =
    let left = synced_by j.disk k.disk h.calm gave in
    let own : Path Seat (seat_of n p (does.Serving (record { core = s; slots = k; flush = flush.Flushed kept }))) (record { nodes = n; node = p; doing = seats.Serving s (journal_behind s (journaled_of j)) seats.Flushed; areas = synced j.disk.below.areas; calls = counted j.disk.calls }) =
    rw (left.1, left.3, ap (λ (x : Journal NodeDisk). x.area) ended, ap (λ (x : Journal NodeDisk). x.gate) ended, ap (λ (x : Journal NodeDisk). x.epoch) ended, behind s j job h.flush) refl in
    let keeps = sync_keeps j.disk.below.areas j.area in (
      inl (ap (λ (x : Seat). pair x) own),
      record {
        nodes = h.nodes;
        node = h.node;
        journal_nodes = ap (λ (x : Journal NodeDisk). x.nodes) ended ∙ h.journal_nodes;
        journal_node = ap (λ (x : Journal NodeDisk). x.node) ended ∙ h.journal_node;
        sound = ap (λ (x : Journal NodeDisk). x.failed) ended ∙ h.sound;
        calm = left.0;
        flush = (
          ap (λ (x : gate.Kept). x.node) is ∙ h.flush.node,
          h.flush.group ∙ ap (λ (x : gate.Kept). Some x.group) (sym is),
          ap (λ (x : Journal NodeDisk). x.busy) ended,
          ap (λ (x : Journal NodeDisk). x.next) ended ∙ count ∙ ap (λ (x : gate.Kept). x.group.serial + length x.group.facts) (sym is),
        );
        appending = record {
          behind = omega (arith, ap (λ (x : Journal NodeDisk). x.gate) ended, h.flush.gate, h.appending.behind);
          formatted = ap (λ (x : Journal NodeDisk). closes_in k.disk.below.areas x.area) ended ∙ ap (λ (b : Areas). closes_in b j.area) left.1 ∙ keeps.0 ∙ h.appending.formatted;
        };
        beside = ap (λ (x : Journal NodeDisk). x.closes_other) ended ∙ h.beside ∙ sym keeps.1 ∙ ap (λ (b : Areas). closes_in b (other_area j.area)) (sym left.1) ∙ ap (λ (x : Journal NodeDisk). closes_in k.disk.below.areas (other_area x.area)) (sym ended);
        snaps = h.snaps;
      },
    )
  where
    pair : Seat → Answer
    pair x = (Ok Quiet, x)

-- a group that is taken and put back leaves all as it was
back_again : (s : NodeState) → s.running ≡ None → group_put_back (group_taken s) ≡ s
unfolding group_put_back group_taken
back_again s rests = rw (take-append-drop 64 s.staged, sym rests) refl

taken_stays : (s : NodeState) → ((group_taken s).nodes ≡ s.nodes) × ((group_taken s).node ≡ s.node) × ((group_taken s).marked_end ≡ s.marked_end)
unfolding group_taken
taken_stays s = (refl, refl, refl)

staged_some : (xs : List Fact) → xs ≢ [] → eqb (length xs) 0 ≡ false
staged_some [] some = absurd (some refl)
staged_some (x ∷ rest) some = ne_eqb (suc (length rest)) 0 (λ e. omega (arith, e))

-- what a take answers, by whether nothing is staged, by whether the frame fits, and by the group's bytes
abbrev taken_with : NodeState → Journaled → Seat → Bool → Bool → List ℕ → Answer
taken_with s j seat empty fits payload =
    if empty then (Ok Quiet, seat)
    else (if fits then goes_on Quiet (seats.Serving (group_taken s) j (seats.Writing (append_calls j.area j.gate payload))) seat else refuse because.TooLarge seat)

take_is : (s : NodeState) (j : Journaled) (seat : Seat) (group : Grouped) (fits : Bool) → s.staged ≢ [] → running_group (group_taken s) ≡ Some group → nat_lt (j.gate + 6 + length (group_bytes group)) (2 ^ 32) ≡ fits
    → take_up s j seats.Resting seat ≡ taken_with s j seat false fits (group_bytes group)
take_is s j seat group fits some is fit =
    let payload : payload_of s ≡ group_bytes group = ap (λ (o : Option Grouped). option_map_or group_bytes o []) is in
    ap (λ (b : Bool). taken_with s j seat b (nat_lt (j.gate + 6 + length (payload_of s)) (2 ^ 32)) (payload_of s)) (staged_some s.staged some)
    ∙ ap (λ (bytes : List ℕ). taken_with s j seat false (nat_lt (j.gate + 6 + length bytes) (2 ^ 32)) bytes) payload
    ∙ ap (λ (b : Bool). taken_with s j seat false b (group_bytes group)) fit

pub begin_done : (s t : NodeState) (j k : Journal NodeDisk) (group : Grouped) (job : gate.Flush) → s.staged ≢ [] → t ≡ group_taken s → Some group ≡ running_group t → s.running ≡ None
    → IsLawfulGroup group → j.gate + 6 + length (group_bytes group) < 2 ^ 32 → k ≡ record j { busy = true }
    → job ≡ record { nodes = j.nodes; node = j.node; area = j.area; gate = j.gate; body = frame_bytes (group_bytes group); group = group }
    → CarriesOn at.Take (record { core = s; slots = j; flush = flush.Resting }) (Ok Quiet) (does.Serving (record { core = t; slots = k; flush = flush.Body job }))
begin_done s t j k group job some taken runs rests lawful small busy is n p h =
    rw (taken, busy, is) (
      inl (sym step),
      record {
        nodes = nodes_stay.0 ∙ h.nodes;
        node = nodes_stay.1 ∙ h.node;
        journal_nodes = h.journal_nodes;
        journal_node = h.journal_node;
        sound = h.sound;
        calm = h.calm;
        flush = record { node = h.journal_node ∙ sym (nodes_stay.1 ∙ h.node); area = refl; gate = refl; body = refl; group = group_is; lawful = lawful; next = h.flush.2 ∙ sym nodes_stay.2 };
        appending = record { behind = h.appending.behind; formatted = h.appending.formatted };
        beside = h.beside;
        snaps = taken_snaps s h.snaps;
      },
    )
  where
    group_is : running_group (group_taken s) ≡ Some group
    group_is = ap running_group (sym taken) ∙ sym runs

    nodes_stay : ((group_taken s).nodes ≡ s.nodes) × ((group_taken s).node ≡ s.node) × ((group_taken s).marked_end ≡ s.marked_end)
    nodes_stay = taken_stays s

    seat : Seat
    seat = seat_of n p (does.Serving (record { core = s; slots = j; flush = flush.Resting }))

    step : take_up s (journaled_of j) seats.Resting seat ≡ taken_with s (journaled_of j) seat false true (group_bytes group)
    step = take_is s (journaled_of j) seat group true some group_is (lt-ltb _ _ small)

pub begin_refused : (s t u : NodeState) (j k : Journal NodeDisk) (group : Grouped) (e : Refusal) → s.staged ≢ [] → t ≡ group_taken s → Some group ≡ running_group t → s.running ≡ None → u ≡ group_put_back t → k ≡ j
    → (e ≡ because.OutOfMemory) ⊎ ((e ≡ because.Failed) × (j.failed ≡ true)) ⊎ ((e ≡ because.Busy) × (j.busy ≡ true)) ⊎ ((e ≡ because.TooLarge) × (2 ^ 32 ≤ j.gate + 6 + length (group_bytes group)))
    → CarriesOn at.Take (record { core = s; slots = j; flush = flush.Resting }) (Err e) (does.Serving (record { core = u; slots = k; flush = flush.Resting }))
begin_refused s t u j k group e some taken runs rests back same why n p h = rw (again, same) (by why, h)
  where
    group_is : running_group (group_taken s) ≡ Some group
    group_is = ap running_group (sym taken) ∙ sym runs

    again : u ≡ s
    again = back ∙ ap group_put_back taken ∙ back_again s rests

    seat : Seat
    seat = seat_of n p (does.Serving (record { core = s; slots = j; flush = flush.Resting }))

    step : 2 ^ 32 ≤ j.gate + 6 + length (group_bytes group) → take_up s (journaled_of j) seats.Resting seat ≡ taken_with s (journaled_of j) seat false false (group_bytes group)
    step large = take_is s (journaled_of j) seat group false some group_is (le-ltb _ _ large)

    by : (e ≡ because.OutOfMemory) ⊎ ((e ≡ because.Failed) × (j.failed ≡ true)) ⊎ ((e ≡ because.Busy) × (j.busy ≡ true)) ⊎ ((e ≡ because.TooLarge) × (2 ^ 32 ≤ j.gate + 6 + length (group_bytes group)))
        → seats.Gives at.Take seat (Err e) seat
    by (inl memory) = inr (rw memory refl)
    by (inr (inl failed)) = absurd (false≢true (sym h.sound ∙ failed.1))
    by (inr (inr (inl busy))) = absurd (false≢true (sym h.flush.1 ∙ busy.1))
    by (inr (inr (inr large))) = inl (rw large.0 (sym (step large.1)))

-- an opening ended, and the node serves
serves_with : (n p : ℕ) (j : Journal NodeDisk) (promise : List Entry) (decided : ℕ) (core : NodeState) (names : Bindings) (s : Serving) → core ≡ started n p promise j.next → IsOpened n p j → IsSnapshot (record { node = p; nodes = n; epoch = 1; next = j.next; entries = promise })
    → decided ≡ length (decided_prefix core) → names ≡ registry_of (decided_prefix core) → s ≡ record { core = core; slots = j; flush = flush.Resting }
    → (let given : Answer = (Ok (Opened j.next decided names), seat_of n p (does.Serving s)) in given ≡ seats.serves j.area (record { epoch = j.epoch; promise = promise; next = j.next; gate = j.gate }) (seat_of n p (does.Stopped j.disk))) × IsServing n p s
serves_with n p j promise decided core names s is h snaps count bound own =
    let same : StaysMarked (restored n p promise j.next) (started n p promise j.next) = started_stays n p promise j.next in
    rw (own, bound, count, is) (
      refl,
      record { nodes = same.nodes; node = same.node; journal_nodes = h.nodes; journal_node = h.node; sound = h.sound; calm = h.calm; flush = (same.running, h.rests, sym same.marked_end); appending = h.appending; beside = h.beside; snaps = snaps_stay (restored n p promise j.next) (started n p promise j.next) same snaps },
    )

pub serve_done : (n p : ℕ) (j : Journal NodeDisk) (decided : ℕ) (core : NodeState) (names : Bindings) (s : Serving)
    → decided ≡ length (decided_prefix core) → names ≡ registry_of (decided_prefix core) → s ≡ record { core = core; slots = j; flush = flush.Resting } → Serves n p core j (Ok (Opened j.next decided names)) (does.Serving s)
serve_done n p j decided core names s count bound own h is snaps =
    let done = serves_with n p j core.marked decided core names s is h snaps count bound own in
    (inl done.0, done.1)

-- beside this flush it is known whether the other area has to be closed
abbrev IsOtherKnownThen : Flush → Journal NodeDisk → Type 0
IsOtherKnownThen f j = IsBeside f j → IsOtherKnown areas_in j

-- a flush writes behind the first byte of its own area
flush_keeps : (s : NodeState) (j : Journal NodeDisk) (f : Flush) (call next : Call) (calls : List Call) → flush_of f ≡ seats.Writing (call ∷ next ∷ calls) → IsFlushOf s j f → 0 < j.gate → Reaches call j.disk.below.areas
    → KeepsFronts j.disk.below.areas (after_call call j.disk.below.areas) j.area × IsOtherKnownThen f j
flush_keeps s j flush.Resting call next calls is h some reach = absurd (cc)
flush_keeps s j (flush.Body job) call next calls is h some reach =
    let made : Write job.area (job.gate + 1) job.body ≡ call = cc in
    (subst (λ (c : Call). Reaches c j.disk.below.areas → KeepsFronts j.disk.below.areas (after_call c j.disk.below.areas) j.area) (write_is job h ∙ made) (λ le. write_keeps j.disk.below.areas j.area (job.gate + 1) job.body (omega arith) le) reach, λ known. known)
  where
    write_is : (job : gate.Flush) → IsJobOf s j job → Write j.area (job.gate + 1) job.body ≡ Write job.area (job.gate + 1) job.body
    write_is job h = ap (λ (a : Area). Write a (job.gate + 1) job.body) (sym h.area)
flush_keeps s j (flush.BodyOut job) call next calls is h some reach =
    let made : Sync ≡ call = cc in
    (subst (λ (c : Call). KeepsFronts j.disk.below.areas (after_call c j.disk.below.areas) j.area) made (sync_keeps j.disk.below.areas j.area), λ known. known)
flush_keeps s j (flush.BodySafe job) call next calls is h some reach =
    let made : Write job.area job.gate (165 ∷ []) ≡ call = cc in
    (subst (λ (c : Call). Reaches c j.disk.below.areas → KeepsFronts j.disk.below.areas (after_call c j.disk.below.areas) j.area) (write_is job h ∙ made) (λ le. write_keeps j.disk.below.areas j.area job.gate (165 ∷ []) (omega (arith, h.gate, some)) le) reach, λ known. known)
  where
    write_is : (job : gate.Flush) → IsJobOf s j job → Write j.area job.gate (165 ∷ []) ≡ Write job.area job.gate (165 ∷ [])
    write_is job h = ap (λ (a : Area). Write a job.gate (165 ∷ [])) (sym h.area)
flush_keeps s j (flush.GateSet job) call next calls is h some reach = absurd (cc)
flush_keeps s j (flush.Flushed kept) call next calls is h some reach = absurd (cc)
flush_keeps s j (flush.Switching job) call next calls is h some reach = absurd (cc)

-- beside a flush that is known
beside_flush : (f : Flush) (k : Journal NodeDisk) (calls : List Call) → flush_of f ≡ seats.Writing calls → IsOtherKnown areas_in k → IsBeside f k
beside_flush flush.Resting k calls is known = known
beside_flush (flush.Body job) k calls is known = known
beside_flush (flush.BodyOut job) k calls is known = known
beside_flush (flush.BodySafe job) k calls is known = known
beside_flush (flush.GateSet job) k calls is known = known
beside_flush (flush.Flushed kept) k calls is known = known
beside_flush (flush.Switching job) k calls is known = absurd (cc)

-- a flush goes on behind a device call
pub flush_goes : (s : NodeState) (j k : Journal NodeDisk) (f g : Flush) (call next : Call) (calls : List Call) → flush_of f ≡ seats.Writing (call ∷ next ∷ calls) → flush_of g ≡ seats.Writing (next ∷ calls)
    → k ≡ record j { disk = k.disk } → (j.disk.due ≡ None → (k.disk.due ≡ None) × (k.disk.below.areas ≡ after_call call j.disk.below.areas) × Reaches call j.disk.below.areas × (k.disk.calls ≡ counted j.disk.calls)) → (IsFlushOf s j f → IsFlushOf s k g)
    → CarriesOn at.Device (record { core = s; slots = j; flush = f }) (Ok Quiet) (does.Serving (record { core = s; slots = k; flush = g }))
flush_goes s j k f g call next calls is rest same gave keeps n p h =
    let left = gave h.calm in
    let old : Seat = seat_of n p (does.Serving (record { core = s; slots = j; flush = f })) in
    let here : seats.flush_on s (journaled_of j) old (flush_of f) ≡ seats.flush_on s (journaled_of j) old (seats.Writing (call ∷ next ∷ calls)) = ap (seats.flush_on s (journaled_of j) old) is in
    let own : Path Answer (Ok Quiet, seat_of n p (does.Serving (record { core = s; slots = k; flush = g }))) (seats.flush_on s (journaled_of j) old (seats.Writing (call ∷ next ∷ calls))) =
    rw (rest, left.1, left.3, ap (λ (x : Journal NodeDisk). x.area) same, ap (λ (x : Journal NodeDisk). x.gate) same, ap (λ (x : Journal NodeDisk). x.epoch) same) refl in
    let fronts = flush_keeps s j f call next calls is h.flush h.appending.behind left.2 in (
      inl (own ∙ sym here),
      record {
        nodes = h.nodes;
        node = h.node;
        journal_nodes = ap (λ (x : Journal NodeDisk). x.nodes) same ∙ h.journal_nodes;
        journal_node = ap (λ (x : Journal NodeDisk). x.node) same ∙ h.journal_node;
        sound = ap (λ (x : Journal NodeDisk). x.failed) same ∙ h.sound;
        calm = left.0;
        flush = keeps h.flush;
        appending = appends_on j k same (ap (λ (b : Areas). closes_in b j.area) left.1 ∙ fronts.0.0) h.appending;
        beside = beside_flush g k (next ∷ calls) rest (knows_on j k same (ap (λ (b : Areas). closes_in b (other_area j.area)) left.1 ∙ fronts.0.1) (fronts.1 h.beside));
        snaps = h.snaps;
      },
    )

-- a job stays of the running group over another disk
pub job_goes : (s : NodeState) (j k : Journal NodeDisk) (job next : gate.Flush) → k ≡ record j { disk = k.disk } → next ≡ job → IsJobOf s j job → IsJobOf s k next
job_goes s j k job next same is h =
    rw is (record { node = h.node; area = h.area ∙ sym (ap (λ (x : Journal NodeDisk). x.area) same); gate = h.gate ∙ sym (ap (λ (x : Journal NodeDisk). x.gate) same); body = h.body; group = h.group; lawful = h.lawful; next = ap (λ (x : Journal NodeDisk). x.next) same ∙ h.next })

-- a job's step was refused: by a journal that has failed, and nothing has changed, or by a device call that gave this
abbrev pub IsRefused : (NodeDisk → Result (Unit {0}) Refusal → NodeDisk → Type 0) → Journal NodeDisk → Journal NodeDisk → Refusal → Type 0
IsRefused gives j k e =
    ((e ≡ because.Failed) × (j.failed ≡ true) × (k ≡ j))
    ⊎ ((e ≡ because.Device) × (j.failed ≡ false) × (k ≡ record j { disk = k.disk; failed = true }) × gives j.disk (Err because.Device) k.disk × Grew j.disk.faults k.disk.faults)

pub write_refused : (s : NodeState) (j k : Journal NodeDisk) (f : Flush) (e : Refusal) (area : Area) (from : ℕ) (bytes : List ℕ) (calls : List Call) → flush_of f ≡ seats.Writing (Write area from bytes ∷ calls)
    → IsRefused (λ old r new. FailingWrite MemoryWrite old area from bytes r new) j k e → CarriesOn at.Device (record { core = s; slots = j; flush = f }) (Err e) (does.Faulted k.disk)
write_refused s j k f e area from bytes calls is (inl failed) n p h = absurd (false≢true (sym h.sound ∙ failed.1))
write_refused s j k f e area from bytes calls is (inr gave) n p h =
    let left = starved_by j.disk k.disk area from bytes h.calm gave.3 in
    let old : Seat = seat_of n p (does.Serving (record { core = s; slots = j; flush = f })) in
    let here : seats.starve_flush (flush_of f) old ≡ seats.starve_flush (seats.Writing (Write area from bytes ∷ calls)) old = ap (λ (x : seats.Flush). seats.starve_flush x old) is in
    let own : Path Answer (Err e, seat_of n p (does.Faulted k.disk)) (seats.fall after_starved (Write area from bytes) old) = rw (gave.0, left.1, left.2) refl in
    let falls = starved_falls (Write area from bytes) old (starved_grows j.disk k.disk area from bytes h.calm gave.3) in
    (inr (own ∙ sym falls ∙ sym here), left.0)

pub sync_refused : (s : NodeState) (j k : Journal NodeDisk) (f : Flush) (e : Refusal) → IsRefused (λ old r new. FailingSync MemorySync old r new) j k e → CarriesOn at.Device (record { core = s; slots = j; flush = f }) (Err e) (does.Faulted k.disk)
sync_refused s j k f e (inl failed) n p h = absurd (false≢true (sym h.sound ∙ failed.1))
sync_refused s j k f e (inr gave) n p h = absurd (false≢true (passed_on j.disk.due _ _ h.calm gave.3).0.0)

-- the device call that is due in a flush fails
pub call_failing : (n p : ℕ) (fill : List ℕ) (s : NodeState) (j late k : Journal NodeDisk) (f : Flush) (e : Refusal) (call : Call) (calls : List Call) → flush_of f ≡ seats.Writing (call ∷ calls)
    → late ≡ armed fill j → IsRefused (Gave (FailingWrite MemoryWrite) (FailingSync MemorySync) call) late k e
    → CarriesFailing n p fill (does.Serving (record { core = s; slots = j; flush = f })) (Err because.Device) (does.Faulted k.disk)
call_failing n p fill s j late k f e call calls is arms refused h = by (subst (λ (x : Journal NodeDisk). IsRefused (Gave (FailingWrite MemoryWrite) (FailingSync MemorySync) call) x k e) arms refused)
  where
    ends : (x : seats.Flush) → flush_of f ≡ x → (left : (k.disk.below.areas ≡ after_failing fill call j.disk.below.areas) ⊎ (k.disk.below.areas ≡ seats.after_failing_starved fill call j.disk.below.areas)) → k.disk.calls ≡ counted j.disk.calls → x ≡ seats.Writing (call ∷ calls)
        → Fails fill (seat_of n p (does.Serving (record { core = s; slots = j; flush = f }))) (Err because.Device) (seat_of n p (does.Faulted k.disk))
    ends x g (inl left) count e = inl (rw (left, count) (sym (ap (λ (y : seats.Flush). seats.fail_flush (after_failing fill) y (seat_of n p (does.Serving (record { core = s; slots = j; flush = f })))) (g ∙ e))))
    ends x g (inr left) count e = inr (rw (left, count) (sym (ap (λ (y : seats.Flush). seats.fail_flush (seats.after_failing_starved fill) y (seat_of n p (does.Serving (record { core = s; slots = j; flush = f })))) (g ∙ e))))

    by : IsRefused (Gave (FailingWrite MemoryWrite) (FailingSync MemorySync) call) (armed fill j) k e
        → Fails fill (seat_of n p (does.Serving (record { core = s; slots = j; flush = f }))) (Err because.Device) (seat_of n p (does.Faulted k.disk)) × (k.disk.due ≡ None)
    by (inl failed) = absurd (false≢true (sym h.sound ∙ failed.1))
    by (inr gave) = let left = gave_failing fill call j.disk k.disk gave.3 in (ends (flush_of f) refl left.1 left.2 is, left.0)

-- over a journal that is armed no device call is done
pub none_done : {A : Type 0} (fill : List ℕ) (call : Call) (j late k : Journal NodeDisk) → late ≡ armed fill j → Gave (FailingWrite MemoryWrite) (FailingSync MemorySync) call late.disk (Ok tt) k.disk → A
none_done fill call j late k arms gave = absurd (gave_not fill call j.disk k.disk (subst (λ (x : Journal NodeDisk). Gave (FailingWrite MemoryWrite) (FailingSync MemorySync) call x.disk (Ok tt) k.disk) arms gave))
