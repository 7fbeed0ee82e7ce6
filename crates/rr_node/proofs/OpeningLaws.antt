-- Each device call of an opening does what the definitions say.
use Rattle.std.proofs.Common.{◌≡◌, ◌≢◌, ◌⊎◌, inl, inr, ℕ, ◌+◌, arith, Bool, true, false, if◌then◌else◌, List, [], ◌∷◌, Option, None, Some, Result, Ok, Err, IfOk, Vec, refl, sym, ap, subst, ◌∙◌}
use Rattle.std.specs.Global.{Global}
use Rattle.std.specs.Prelude.{IsSome}
use Rattle.std.proofs.lemmas.Bool.{false≢true, lt-ltb}
use Rattle.rr_types.specs.declared.refusal.Refusal.{Refusal}
use Rattle.rr_types.specs.declared.refusal.Refusal.TheVariants as because
use Rattle.rr_model.specs.NodeState.{NodeState}
use Rattle.rr_model.specs.NodeStep.{started}
use Rattle.rr_disk.specs.declared.area.Area.{Area}
use Rattle.rr_disk.specs.Areas.{Areas, synced}
use Rattle.rr_types.specs.Counts.{counted}
use Rattle.rr_disk.specs.Failing.{FailingRead, FailingWrite, FailingSync, passed, fell}
use Rattle.rr_disk.specs.Memory.{MemoryState, MemoryRead, MemoryWrite, MemorySync}
use Rattle.rr_frame.specs.Snapshots.{IsSnapshot}
use Rattle.rr_journal.specs.declared.journal.Journal.{Journal}
use Rattle.rr_journal.specs.OpeningStates.{OpeningState}
use Rattle.rr_journal.specs.declared.opening.Phase as code
use Rattle.rr_journal.specs.declared.opening.Phase.TheVariants as step
use Rattle.rr_journal.specs.declared.opened.Opened.{Opened}
use Rattle.rr_journal.specs.declared.opening.End.{End}
use Rattle.rr_journal.specs.Fronts.{KnowsOther}
use Rattle.rr_journal.specs.StepsInPlace.{journal_of, opened_of, ended_by, as_progress}
use Rattle.rr_journal.specs.declared.opening.Progress as of_journal
use Rattle.rr_journal.specs.declared.opening.Progress.TheVariants as of_journal_is
use Rattle.rr_journal.specs.declared.opening.Stepped as code_2
use Rattle.rr_journal.specs.declared.opening.Stepped.TheVariants as stepped
use Rattle.rr_journal.specs.declared.stage.Stage.{Stage}
use Rattle.rr_journal.specs.declared.stage.Stage.TheVariants as due
use Rattle.rr_journal.specs.Calls.{Call, Read, Write, Sync, after_call, after_failing, after_starved}
use Rattle.rr_journal.specs.Image.{Content, Found, Unformatted, Broken, Active, Outdated, found}
use Rattle.rr_journal.specs.Openings.{Phase, Settling, ReadingFirst, ReadingSecond, Rewriting, After, Goes, Opens, Stops, Done, Refused, bytes_in, migrate_calls, due_call, after_found, end_by, after_opening_call}
use Rattle.rr_journal.specs.Migration.{migrated, may_migrate}
use Rattle.rr_journal.specs.Phases.{phase_of, TakesMemory}
use Rattle.rr_journal.specs.OpeningSteps.{Steps, MaySnap}
use Rattle.rr_journal.specs.OpeningTable.{OpensAny, ComesToAny, disk_after}
use Rattle.rr_journal.specs.Stages.{calls_from}
use Rattle.rr_journal.specs.OtherAreas.{other_area, IsOtherKnown}
use Rattle.rr_journal.specs.Rewrites.{area_anew}
use Rattle.rr_core.specs.declared.steps.Progress as progress_of
use Rattle.rr_core.specs.declared.steps.Progress.TheVariants as progress
use Rattle.rr_core.specs.Recoveries.{end_of, as_step, IsStarted, StandsFor, Recovers}
use Rattle.rr_node.specs.declared.doing.Doing as doing
use Rattle.rr_node.specs.declared.doing.Doing.TheVariants as does
use Rattle.rr_types.specs.declared.event.NodeEvent.TheVariants as at
use Rattle.rr_node.specs.declared.event.Outcome.{Outcome}
use Rattle.rr_node.specs.declared.event.Outcome.TheVariants.{Quiet}
use Rattle.rr_node.specs.Seats as seats
use Rattle.rr_node.specs.Seats.{Seat, Answer, Gives, Fails, called, read_by, opens_on, seat_step, starve_end, starve_opening}
use Rattle.rr_node.specs.Views.{NodeDisk, areas_in, seat_of, IsOpened, IsSteady, Serves, closed, Ended, Carries, CarriesFailing}
use Rattle.rr_core.proofs.OpeningLaws.{ended, starts, last_whose, last_stands, stands_so}
use Rattle.rr_node.proofs.FrontLaws.{ends_appending}
use Rattle.rr_node.proofs.DiskLaws.{passed_on, starved_falls, call_fails}

-- device calls of a node's disk, that succeeded and that were refused, and a step of an opening over it
abbrev Made : Call → NodeDisk → Vec ℕ Global → NodeDisk → Type 0
Made call old v new = Done (FailingRead MemoryRead) (FailingWrite MemoryWrite) (FailingSync MemorySync) call old v new

abbrev pub Unmade : Call → NodeDisk → Refusal → NodeDisk → Type 0
Unmade call old e new = Refused (FailingRead MemoryRead) (FailingWrite MemoryWrite) (FailingSync MemorySync) call old e new

abbrev Stepped : OpeningState NodeDisk → Result (of_journal.Progress NodeDisk) (Refusal × NodeDisk) → Type 0
Stepped o r = Steps (FailingRead MemoryRead) (FailingWrite MemoryWrite) (FailingSync MemorySync) o r

abbrev pub Recovered : OpeningState NodeDisk → Result (progress_of.Progress NodeDisk) (Refusal × NodeDisk) → Type 0
Recovered o r = Recovers (FailingRead MemoryRead) (FailingWrite MemoryWrite) (FailingSync MemorySync) o r

-- where no failure is due, a device call is the one of the disk below
made_below : (call : Call) (old new : NodeDisk) (v : Vec ℕ Global) → old.due ≡ None → Made call old v new → Done MemoryRead MemoryWrite MemorySync call old.below v new.below × (new.due ≡ None)
made_below (Read area) old new v calm h = let x = passed_on old.due _ _ calm h in (x.0, ap (λ (d : NodeDisk). d.due) x.1)
made_below (Write area from bytes) old new v calm h = let x = passed_on old.due _ _ calm h in (x.0, ap (λ (d : NodeDisk). d.due) x.1)
made_below Sync old new v calm h = let x = passed_on old.due _ _ calm h in (x.0, ap (λ (d : NodeDisk). d.due) x.1)

unmade_below : (call : Call) (old new : NodeDisk) (e : Refusal) → old.due ≡ None → Unmade call old e new → Refused MemoryRead MemoryWrite MemorySync call old.below e new.below × (new.due ≡ None)
unmade_below (Read area) old new e calm h = let x = passed_on old.due _ _ calm h in (x.0, by x.1)
  where
    by : ((e ≡ because.OutOfMemory) × (new ≡ passed new.below old)) ⊎ ((e ≡ because.Device) × (new ≡ fell new.below old)) → new.due ≡ None
    by (inl y) = ap (λ (d : NodeDisk). d.due) y.1
    by (inr y) = ap (λ (d : NodeDisk). d.due) y.1
unmade_below (Write area from bytes) old new e calm h = let x = passed_on old.due _ _ calm h in (x.0, ap (λ (d : NodeDisk). d.due) x.1)
unmade_below Sync old new e calm h = let x = passed_on old.due _ _ calm h in (x.0, ap (λ (d : NodeDisk). d.due) x.1)

-- what a device call that succeeded leaves
done_areas : (call : Call) (old new : MemoryState) (v : Vec ℕ Global) → Done MemoryRead MemoryWrite MemorySync call old v new → new.areas ≡ after_call call old.areas
done_areas (Read area) old new v h = ap (λ (m : MemoryState). m.areas) h.1
done_areas (Write area from bytes) old new v h = ap (λ (m : MemoryState). m.areas) h.1
done_areas Sync old new v h = ap (λ (m : MemoryState). m.areas) h.1

-- what comes behind a device call goes by what it read
done_after : (n p : ℕ) (phase : Phase) (old new : MemoryState) (v : Vec ℕ Global) → Done MemoryRead MemoryWrite MemorySync (due_call phase) old v new
    → after_opening_call n p v.items phase ≡ after_opening_call n p (read_by (due_call phase) old.areas) phase
done_after n p Settling old new v h = refl
done_after n p ReadingFirst old new v h = ap (λ (bytes : List ℕ). after_opening_call n p bytes ReadingFirst) h.0
done_after n p (ReadingSecond first) old new v h = ap (λ (bytes : List ℕ). after_opening_call n p bytes (ReadingSecond first)) h.0
done_after n p (Rewriting f []) old new v h = refl
done_after n p (Rewriting f (call ∷ [])) old new v h = refl
done_after n p (Rewriting f (call ∷ next ∷ calls)) old new v h = refl

-- an opening in a phase, over these areas, behind so many device calls
abbrev seat_in : ℕ → ℕ → Phase → Areas → ℕ → Seat
seat_in n p phase areas calls = record { nodes = n; node = p; doing = seats.Opening phase; areas = areas; calls = calls }

-- the seat after a device call that succeeded
call_stepped : (n p : ℕ) (phase : Phase) (old new : MemoryState) (from to : ℕ) (v : Vec ℕ Global) (after : After) → Done MemoryRead MemoryWrite MemorySync (due_call phase) old v new → to ≡ counted from → after_opening_call n p v.items phase ≡ after
    → opens_on (seat_in n p phase new.areas to) after ≡ seat_step at.Device (seat_in n p phase old.areas from)
call_stepped n p phase old new from to v after h count is =
    ap (opens_on (seat_in n p phase new.areas to)) (sym is ∙ done_after n p phase old new v h)
    ∙ ap (λ (calls : ℕ). opens_on (seat_in n p phase new.areas calls) (after_opening_call n p (read_by (due_call phase) old.areas) phase)) count
    ∙ ap (λ (areas : Areas). opens_on (seat_in n p phase areas (counted from)) (after_opening_call n p (read_by (due_call phase) old.areas) phase)) (done_areas (due_call phase) old new v h)

-- a step that wasn't refused is one of the journal's
not_refused : (o : OpeningState NodeDisk) (x : progress_of.Progress NodeDisk) → Recovered o (Ok x) → Stepped o (as_step (Ok x))
not_refused o x (inl steps) = steps
not_refused o x (inr (j, end, steps, e)) = absurd cc

-- an opening that goes on
pub opens_more : (n p : ℕ) (o next : OpeningState NodeDisk) → Recovered o (Ok (progress.More next)) → OpensAny next.nodes next.node next.phase (areas_in next.disk) → next.disk.calls ≡ counted o.disk.calls → Carries n p at.Device (does.Opening o) (Ok Quiet) (does.Opening next)
opens_more n p o next recovered stands count h = by (not_refused o (progress.More next) recovered)
  where
    by : Stepped o (Ok (of_journal_is.More next)) → Gives at.Device (seat_of n p (does.Opening o)) (Ok Quiet) (seat_of n p (does.Opening next)) × IsSteady n p (does.Opening next)
    by (v, made, goes, nodes, node) =
        let done = made_below (due_call (phase_of o.phase)) o.disk next.disk v h.2 made in
        let goes_here : after_opening_call n p v.items (phase_of o.phase) ≡ Goes (phase_of next.phase) =
        ap (λ (k : ℕ). after_opening_call k p v.items (phase_of o.phase)) (sym h.0) ∙ ap (λ (k : ℕ). after_opening_call o.nodes k v.items (phase_of o.phase)) (sym h.1) ∙ goes in
        (inl (call_stepped n p (phase_of o.phase) o.disk.below next.disk.below o.disk.calls next.disk.calls v (Goes (phase_of next.phase)) done.0 count goes_here), (nodes ∙ h.0, node ∙ h.1, done.1, subst (λ (k : ℕ). OpensAny k p next.phase (areas_in next.disk)) (nodes ∙ h.0) (subst (λ (k : ℕ). OpensAny next.nodes k next.phase (areas_in next.disk)) (node ∙ h.1) stands)))

-- only a read or a sync ends an opening
abbrev StopsBy : Phase → Type 0
StopsBy phase = (before after : Areas) (from to : ℕ) → (n p : ℕ) → after ≡ after_call (due_call phase) before → to ≡ counted from → starve_opening phase (due_call phase) (seat_in n p phase before from) ≡ (let down : Answer = (Err because.OutOfMemory, record { nodes = n; node = p; doing = seats.Stopped; areas = after; calls = to }) in down)

-- what is wanting then
ends_by : (n p : ℕ) (bytes : List ℕ) (phase : code.Phase) (area : Area) (c : Content) → after_opening_call n p bytes (phase_of phase) ≡ Opens area c → StopsBy (phase_of phase)
ends_by n p bytes step.Settling area c e = absurd (cc)
ends_by n p bytes step.ReadingFirst area c e = absurd (cc)
ends_by n p bytes (step.ReadingSecond first) area c e = λ before after from to m q is count. rw (is, count) refl
ends_by n p bytes (step.Rewriting rewrite) area c e = by rewrite.stage e
  where
    by : (stage : Stage) → after_opening_call n p bytes (Rewriting rewrite.found (calls_from (area_anew rewrite.found) rewrite.body stage)) ≡ Opens area c → StopsBy (Rewriting rewrite.found (calls_from (area_anew rewrite.found) rewrite.body stage))
    by due.Closing e = absurd (cc)
    by due.SettlingClosed e = absurd (cc)
    by due.WritingBody e = absurd (cc)
    by due.SettlingBody e = absurd (cc)
    by due.OpeningGate e = absurd (cc)
    by due.SettlingGate e = λ before after from to m q is count. rw (is, count) (ap (starve_end (called (synced before) (seat_in m q (Rewriting rewrite.found (Sync ∷ [])) before from))) e)

-- what is wanting at the end of an opening leaves the node down
starved_end : (n p : ℕ) (o : OpeningState NodeDisk) (j : Journal NodeDisk) (end : Opened) → Stepped o (Ok (of_journal_is.Done j end)) → j.disk.calls ≡ counted o.disk.calls → IsSteady n p (does.Opening o)
    → (starve_opening (phase_of o.phase) (due_call (phase_of o.phase)) (seat_in n p (phase_of o.phase) o.disk.below.areas o.disk.calls) ≡ (let down : Answer = (Err because.OutOfMemory, seat_of n p (does.Stopped j.disk)) in down)) × (j.disk.due ≡ None)
starved_end n p o j end (v, made, opens, is, of_nodes, of_node) count h =
    let done = made_below (due_call (phase_of o.phase)) o.disk j.disk v h.2 made in
    let content : Content = record { epoch = j.epoch; promise = end.promise; next = end.next; gate = j.gate } in
    (ends_by o.nodes o.node v.items o.phase j.area content opens o.disk.below.areas j.disk.below.areas o.disk.calls j.disk.calls n p (done_areas (due_call (phase_of o.phase)) o.disk.below j.disk.below v done.0) count, done.1)

-- an opening that ends
pub opens_done : (n p : ℕ) (o : OpeningState NodeDisk) (core : NodeState) (j : Journal NodeDisk) (answer : Result Outcome Refusal) (new : doing.Doing) → Recovered o (Ok (progress.Done core j)) → IsStarted core j
    → StandsFor areas_in core.marked j → IsOtherKnown areas_in j → IsSnapshot (record { node = j.node; nodes = j.nodes; epoch = j.epoch + 1; next = j.next; entries = core.marked }) → j.disk.calls ≡ counted o.disk.calls → Serves n p core j answer new → Carries n p at.Device (does.Opening o) answer new
opens_done n p o core j answer new recovered starts stands fronts snaps count serves h = by_steps (not_refused o (progress.Done core j) recovered)
  where
    by_steps : Stepped o (Ok (of_journal_is.Done j (end_of core j))) → Gives at.Device (seat_of n p (does.Opening o)) answer (seat_of n p new) × IsSteady n p new
    by_steps (v, made, opens, is, of_nodes, of_node) = by (serves opened started_here own_snaps)
      where
        done : Done MemoryRead MemoryWrite MemorySync (due_call (phase_of o.phase)) o.disk.below v j.disk.below × (j.disk.due ≡ None)
        done = made_below (due_call (phase_of o.phase)) o.disk j.disk v h.2 made

        nodes : j.nodes ≡ n
        nodes = ap (λ (x : Journal NodeDisk). x.nodes) is ∙ h.0

        node : j.node ≡ p
        node = ap (λ (x : Journal NodeDisk). x.node) is ∙ h.1

        opened : IsOpened n p j
        opened = record {
          nodes = nodes;
          node = node;
          sound = ap (λ (x : Journal NodeDisk). x.failed) is;
          rests = ap (λ (x : Journal NodeDisk). x.busy) is;
          calm = done.1;
          appending = ends_appending j core.marked stands;
          beside = fronts;
        }

        started_here : core ≡ started n p core.marked j.next
        started_here = starts ∙ ap (λ (k : ℕ). started k j.node core.marked j.next) nodes ∙ ap (λ (k : ℕ). started n k core.marked j.next) node

        own_snaps : IsSnapshot (record { node = p; nodes = n; epoch = 1; next = j.next; entries = core.marked })
        own_snaps =
            let same = subst (λ (k : ℕ). IsSnapshot (record { node = k; nodes = n; epoch = j.epoch + 1; next = j.next; entries = core.marked })) node
            (subst (λ (k : ℕ). IsSnapshot (record { node = j.node; nodes = k; epoch = j.epoch + 1; next = j.next; entries = core.marked })) nodes snaps) in
            record { node = same.node; epoch = omega arith; empty = same.empty; proposals = same.proposals }

        content : Content
        content = record { epoch = j.epoch; promise = core.marked; next = j.next; gate = j.gate }

        here : after_opening_call n p v.items (phase_of o.phase) ≡ Opens j.area content
        here = ap (λ (k : ℕ). after_opening_call k p v.items (phase_of o.phase)) (sym h.0) ∙ ap (λ (k : ℕ). after_opening_call o.nodes k v.items (phase_of o.phase)) (sym h.1) ∙ opens

        own : opens_on (seat_in n p (phase_of o.phase) j.disk.below.areas j.disk.calls) (Opens j.area content) ≡ seat_step at.Device (seat_of n p (does.Opening o))
        own = call_stepped n p (phase_of o.phase) o.disk.below j.disk.below o.disk.calls j.disk.calls v (Opens j.area content) done.0 count here

        given : Answer
        given = (answer, seat_of n p new)

        by : ((given ≡ seats.serves j.area content (seat_of n p (does.Stopped j.disk))) ⊎ (given ≡ (Err because.OutOfMemory, seat_of n p (does.Stopped j.disk)))) × IsSteady n p new → Gives at.Device (seat_of n p (does.Opening o)) answer (seat_of n p new) × IsSteady n p new
        by (inl serving, steady) = (inl (serving ∙ own), steady)
        by (inr memory, steady) = (inr (memory ∙ sym (starved_end n p o j (end_of core j) (v, made, opens, is, of_nodes, of_node) count h).0), steady)

-- what is found stops an opening by no device
stops_by : (n p : ℕ) (bytes : List ℕ) (phase : code.Phase) (e : Refusal) → after_opening_call n p bytes (phase_of phase) ≡ Stops e → e ≢ because.Device
stops_by n p bytes step.Settling e h = absurd (cc)
stops_by n p bytes step.ReadingFirst e h = absurd (cc)
stops_by n p bytes (step.ReadingSecond first) e h = by (found n p first.items bytes) h
  where
    by : (f : Found) → after_found n p first.items bytes f ≡ Stops e → e ≢ because.Device
    by Unformatted h = absurd (cc)
    by (Broken area offset) h = λ device. cc
    by (Active area c) h = absurd (cc)
    by (Outdated area c) h = no_room (may_migrate c) (Rewriting (Outdated area c) (migrate_calls n p area c (bytes_in (other_area area) first.items bytes))) h
      where
        no_room : (may : Bool) (phase : Phase) → (if may then Goes phase else Stops because.TooLarge) ≡ Stops e → e ≢ because.Device
        no_room true phase h = absurd (cc)
        no_room false phase h = λ device. cc
stops_by n p bytes (step.Rewriting rewrite) e h = by rewrite.stage h
  where
    ends : (f : Found) → end_by f ≡ Stops e → e ≢ because.Device
    ends Unformatted h = absurd (cc)
    ends (Broken area offset) h = λ device. cc
    ends (Active area c) h = absurd (cc)
    ends (Outdated area c) h = no_room (may_migrate c) h
      where
        no_room : (may : Bool) → (if may then Opens (other_area area) (migrated c) else Stops because.TooLarge) ≡ Stops e → e ≢ because.Device
        no_room true h = absurd (cc)
        no_room false h = λ device. cc

    by : (stage : Stage) → after_opening_call n p bytes (Rewriting rewrite.found (calls_from (area_anew rewrite.found) rewrite.body stage)) ≡ Stops e → e ≢ because.Device
    by due.Closing h = absurd (cc)
    by due.SettlingClosed h = absurd (cc)
    by due.WritingBody h = absurd (cc)
    by due.SettlingBody h = absurd (cc)
    by due.OpeningGate h = absurd (cc)
    by due.SettlingGate h = ends rewrite.found h

-- a device call that was refused fails the node where it is a write, and else ends the opening
abbrev Falls : ℕ → ℕ → Phase → Areas → ℕ → Refusal → MemoryState → ℕ → Type 0
Falls n p phase areas from e new to =
    (let fallen : Answer = (Err e, record { nodes = n; node = p; doing = seats.Faulted; areas = new.areas; calls = to }) in e ≡ because.Device → (fallen ≡ seat_step at.Device (seat_in n p phase areas from)) ⊎ (fallen ≡ starve_opening phase (due_call phase) (seat_in n p phase areas from)))
    × (let down : Answer = (Err e, record { nodes = n; node = p; doing = seats.Stopped; areas = new.areas; calls = to }) in e ≢ because.Device → (down ≡ seat_step at.Device (seat_in n p phase areas from)) ⊎ (down ≡ starve_opening phase (due_call phase) (seat_in n p phase areas from)))

refused_call : (n p : ℕ) (phase : Phase) (call : Call) (old new : MemoryState) (from to : ℕ) (e : Refusal) → due_call phase ≡ call → to ≡ counted from → Refused MemoryRead MemoryWrite MemorySync call old e new → Falls n p phase old.areas from e new to
refused_call n p phase (Read area) old new from to e is count h =
    let own : starve_opening phase (due_call phase) (seat_in n p phase old.areas from) ≡ starve_opening phase (Read area) (seat_in n p phase old.areas from) = ap (λ (call : Call). starve_opening phase call (seat_in n p phase old.areas from)) is in
    let same : new.areas ≡ old.areas = ap (λ (m : MemoryState). m.areas) h.1 in
    ((λ device. absurd (memory_device (sym h.0 ∙ device))), (λ other. inr (rw (h.0, same, count) (sym own))))
  where
    memory_device : because.OutOfMemory ≢ because.Device
    memory_device x = cc
refused_call n p phase (Write area offset bytes) old new from to e is count h =
    let own : starve_opening phase (due_call phase) (seat_in n p phase old.areas from) ≡ starve_opening phase (Write area offset bytes) (seat_in n p phase old.areas from) = ap (λ (call : Call). starve_opening phase call (seat_in n p phase old.areas from)) is in
    let falls : starve_opening phase (Write area offset bytes) (seat_in n p phase old.areas from) ≡ seats.fall after_starved (Write area offset bytes) (seat_in n p phase old.areas from) = starved_falls (Write area offset bytes) (seat_in n p phase old.areas from) (lt-ltb _ _ h.1) in
    let torn = ap (λ (m : MemoryState). m.areas) h.2 in
    ((λ device. inr (rw (h.0, torn, count) (sym (own ∙ falls)))), (λ other. absurd (other h.0)))
refused_call n p phase Sync old new from to e is count h = absurd (false≢true h.0)

stopped : (n p : ℕ) (o : OpeningState NodeDisk) (e : Refusal) (new : NodeDisk) → o.nodes ≡ n → o.node ≡ p → o.disk.due ≡ None → new.calls ≡ counted o.disk.calls → Stepped o (Err (e, new)) → Falls n p (phase_of o.phase) o.disk.below.areas o.disk.calls e new.below new.calls × (new.due ≡ None)
stopped n p o e new nodes node calm count (inl refused) =
    let below = unmade_below (due_call (phase_of o.phase)) o.disk new e calm refused in
    (refused_call n p (phase_of o.phase) (due_call (phase_of o.phase)) o.disk.below new.below o.disk.calls new.calls e refl count below.0, below.1)
stopped n p o e new nodes node calm count (inr (v, made, inl memory)) =
    let done = made_below (due_call (phase_of o.phase)) o.disk new v calm made in
    (wanting (phase_of o.phase) memory.1 done.0, done.1)
  where
    memory_device : because.OutOfMemory ≢ because.Device
    memory_device x = cc

    wanting : (phase : Phase) → TakesMemory phase → Done MemoryRead MemoryWrite MemorySync (due_call phase) o.disk.below v new.below → Falls n p phase o.disk.below.areas o.disk.calls e new.below new.calls
    wanting Settling takes done = absurd takes
    wanting ReadingFirst takes done = absurd takes
    wanting (ReadingSecond first) takes done =
        let same : new.below.areas ≡ o.disk.below.areas = ap (λ (m : MemoryState). m.areas) done.1 in
        ((λ device. absurd (memory_device (sym memory.0 ∙ device))), (λ other. inr (rw (memory.0, same, count) refl)))
    wanting (Rewriting f calls) takes done = absurd takes
stopped n p o e new nodes node calm count (inr (v, made, inr stops)) =
    let done = made_below (due_call (phase_of o.phase)) o.disk new v calm made in
    let here : after_opening_call n p v.items (phase_of o.phase) ≡ Stops e = ap (λ (k : ℕ). after_opening_call k p v.items (phase_of o.phase)) (sym nodes) ∙ ap (λ (k : ℕ). after_opening_call o.nodes k v.items (phase_of o.phase)) (sym node) ∙ stops in
    (((λ device. absurd (stops_by n p v.items o.phase e here device)), (λ other. inl (call_stepped n p (phase_of o.phase) o.disk.below new.below o.disk.calls new.calls v (Stops e) done.0 count here))), done.1)

-- what is wanting at the end of an opening is memory
wanting_memory : (e : Refusal) (new : NodeDisk) (j : Journal NodeDisk) → Path (Result (progress_of.Progress NodeDisk) (Refusal × NodeDisk)) (Err (e, new)) (Err (because.OutOfMemory, j.disk)) → (e ≡ because.OutOfMemory) × (new ≡ j.disk)
wanting_memory e new j is =
    let both : Path (Refusal × NodeDisk) (e, new) (because.OutOfMemory, j.disk) = cc in
    (ap (λ (x : Refusal × NodeDisk). x.0) both, ap (λ (x : Refusal × NodeDisk). x.1) both)

-- an opening that is refused by its device
pub opens_fallen : (n p : ℕ) (o : OpeningState NodeDisk) (e : Refusal) (new : NodeDisk) → Recovered o (Err (e, new)) → new.calls ≡ counted o.disk.calls → e ≡ because.Device → Carries n p at.Device (does.Opening o) (Err e) (does.Faulted new)
opens_fallen n p o e new (inl steps) count device h = let x = stopped n p o e new h.0 h.1 h.2 count steps in (x.0.0 device, x.1)
opens_fallen n p o e new (inr (j, ending, steps, is)) count device h = absurd (memory_device (sym (wanting_memory e new j is).0 ∙ device))
  where
    memory_device : because.OutOfMemory ≢ because.Device
    memory_device x = cc

-- an opening that is refused by memory or for what was found
pub opens_stopped : (n p : ℕ) (o : OpeningState NodeDisk) (e : Refusal) (new : NodeDisk) → Recovered o (Err (e, new)) → new.calls ≡ counted o.disk.calls → e ≢ because.Device → Carries n p at.Device (does.Opening o) (Err e) (does.Stopped new)
opens_stopped n p o e new (inl steps) count other h = let x = stopped n p o e new h.0 h.1 h.2 count steps in (x.0.1 other, x.1)
opens_stopped n p o e new (inr (j, ending, steps, is)) count other h =
    let wanting = wanting_memory e new j is in
    let end = starved_end n p o j ending steps (ap (λ (d : NodeDisk). d.calls) (sym wanting.1) ∙ count) h in
    rw (wanting.0, wanting.1) (inr (sym end.0), end.1)

-- a node that opens has one opening
pub one_opening : (o other : OpeningState NodeDisk) → does.Opening o ≡ does.Opening other → o ≡ other
one_opening o other same = cc

-- an opening that has an end has this one
pub an_end : (found : Option End) → IsSome found → (end : End) × (found ≡ Some end)
an_end None some = absurd (false≢true some)
an_end (Some end) some = (end, refl)

pub is_there : (found : Option End) (end : End) → found ≡ Some end → IsSome found
is_there None end is = absurd cc
is_there (Some other) end is = refl

-- the last step of an opening left its end in it
pub ended_there : (old o : OpeningState NodeDisk) (end : End) (told : code_2.Stepped) → told ≡ stepped.Ended → o.end ≡ Some end → Steps (FailingRead MemoryRead) (FailingWrite MemoryWrite) (FailingSync MemorySync) old (as_progress {D = NodeDisk} o (Ok told))
    → IfOk (as_progress {D = NodeDisk} o (Ok told)) (λ (y : of_journal.Progress NodeDisk). ComesToAny {D = NodeDisk} areas_in y)
    → IfOk (as_progress {D = NodeDisk} o (Ok told)) (λ (y : of_journal.Progress NodeDisk). KnowsOther {D = NodeDisk} areas_in y)
    → IfOk (as_progress {D = NodeDisk} o (Ok told)) (λ (y : of_journal.Progress NodeDisk). MaySnap {D = NodeDisk} y)
    → (disk_after {D = NodeDisk} (as_progress {D = NodeDisk} o (Ok told))).calls ≡ counted old.disk.calls → Ended old o end
ended_there old o end told is there exact comes knows snaps calls =
    let by : as_progress {D = NodeDisk} o (Ok told) ≡ Ok (closed o end) = ap (λ (x : code_2.Stepped). as_progress {D = NodeDisk} o (Ok x)) is ∙ ap (λ (x : Option End). Ok (ended_by {D = NodeDisk} o x)) there in
    record {
      steps = subst (λ (x : Result (of_journal.Progress NodeDisk) (Refusal × NodeDisk)). Steps (FailingRead MemoryRead) (FailingWrite MemoryWrite) (FailingSync MemorySync) old x) by exact;
      comes = subst (λ (x : Result (of_journal.Progress NodeDisk) (Refusal × NodeDisk)). IfOk x (λ (y : of_journal.Progress NodeDisk). ComesToAny {D = NodeDisk} areas_in y)) by comes;
      knows = subst (λ (x : Result (of_journal.Progress NodeDisk) (Refusal × NodeDisk)). IfOk x (λ (y : of_journal.Progress NodeDisk). KnowsOther {D = NodeDisk} areas_in y)) by knows;
      snaps = subst (λ (x : Result (of_journal.Progress NodeDisk) (Refusal × NodeDisk)). IfOk x (λ (y : of_journal.Progress NodeDisk). MaySnap {D = NodeDisk} y)) by snaps;
      calls = subst (λ (x : Result (of_journal.Progress NodeDisk) (Refusal × NodeDisk)). (disk_after {D = NodeDisk} x).calls ≡ counted old.disk.calls) by calls;
    }

-- what the closing of an opening gives: the node starts to serve
pub closes_served : (n p : ℕ) (old o : OpeningState NodeDisk) (end : End) (core : NodeState) (slots : Journal NodeDisk) (answer : Result Outcome Refusal) (new : doing.Doing) → Ended old o end
    → (core ≡ started o.nodes o.node end.promise end.next) × (core.marked ≡ end.promise) × (slots ≡ journal_of o end) → Serves n p core slots answer new → Carries n p at.Device (does.Opening old) answer new
closes_served n p old o end core slots answer new ended_so made serves =
    let j : Journal NodeDisk = journal_of o end in
    let e : Opened = opened_of o end in
    let whose = last_whose {D = NodeDisk} (FailingRead MemoryRead) (FailingWrite MemoryWrite) (FailingSync MemorySync) areas_in old j e ended_so.steps in
    let done : closed o end ≡ of_journal_is.Done slots (end_of core slots) = ended {D = NodeDisk} j slots e core made.2 made.1 whose.2 whose.3 whose.4 in
    opens_done n p old core slots answer new
    (inl (subst (λ (x : of_journal.Progress NodeDisk). Stepped old (Ok x)) done ended_so.steps))
    (starts {D = NodeDisk} j slots e core made.0 made.2 made.1 whose.2 whose.3 whose.4)
    (stands_so {D = NodeDisk} areas_in j slots e.promise core made.2 made.1
    (last_stands {D = NodeDisk} (FailingRead MemoryRead) (FailingWrite MemoryWrite) (FailingSync MemorySync) areas_in old (closed o end) j e refl ended_so.steps ended_so.comes))
    (subst (λ (x : of_journal.Progress NodeDisk). KnowsOther {D = NodeDisk} areas_in x) done ended_so.knows)
    (subst (λ (x : of_journal.Progress NodeDisk). MaySnap {D = NodeDisk} x) done ended_so.snaps)
    (ap (λ (k : Journal NodeDisk). k.disk.calls) made.2 ∙ ended_so.calls) serves

-- or memory is wanting for its core, and it is down
pub closes_wanting : (n p : ℕ) (old o : OpeningState NodeDisk) (end : End) (e : Refusal) (disk : NodeDisk) → Ended old o end → (e ≡ because.OutOfMemory) × (disk ≡ o.disk) → Carries n p at.Device (does.Opening old) (Err e) (does.Stopped disk)
closes_wanting n p old o end e disk ended_so wanting =
    opens_stopped n p old e disk (inr (journal_of o end, opened_of o end, ended_so.steps, λ i. Err (wanting.0 i, wanting.1 i)))
    (ap (λ (d : NodeDisk). d.calls) wanting.1 ∙ ended_so.calls)
    (λ device. memory_device (sym wanting.0 ∙ device))
  where
    memory_device : because.OutOfMemory ≢ because.Device
    memory_device x = cc

-- the device call that is due in an opening fails
pub opens_failing : (n p : ℕ) (fill : List ℕ) (o : OpeningState NodeDisk) (new : NodeDisk) → Unmade (due_call (phase_of o.phase)) (record o.disk { due = Some fill }) because.Device new
    → CarriesFailing n p fill (does.Opening o) (Err because.Device) (does.Faulted new)
opens_failing n p fill o new refused h =
    let left = call_fails fill (due_call (phase_of o.phase)) o.disk new refused in
    (by left.1 left.2, left.0)
  where
    by : (new.below.areas ≡ after_failing fill (due_call (phase_of o.phase)) o.disk.below.areas) ⊎ (new.below.areas ≡ seats.after_failing_starved fill (due_call (phase_of o.phase)) o.disk.below.areas)
        → new.calls ≡ counted o.disk.calls → Fails fill (seat_of n p (does.Opening o)) (Err because.Device) (seat_of n p (does.Faulted new))
    by (inl is) count = inl (rw (is, count) refl)
    by (inr is) count = inr (rw (is, count) refl)
