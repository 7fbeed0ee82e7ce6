-- A switch at a node that is up does what the definitions say, device call by device call.
use Rattle.std.proofs.Common.{◌≡◌, ◌≢◌, ◌⊎◌, inl, inr, ℕ, ◌+◌, ◌^◌, ◌<◌, ◌≤◌, Bool, true, false, ◌&&◌, ltb, List, [], ◌∷◌, length, None, Some, Result, Ok, Err, refl, sym, ap, subst, ◌∙◌, arith, if◌then◌else◌}
use Rattle.std.proofs.lemmas.Bool.{false≢true, and_from, lt-ltb, le-ltb}
use Rattle.rr_types.specs.declared.refusal.Refusal.{Refusal}
use Rattle.rr_types.specs.declared.refusal.Refusal.TheVariants as because
use Rattle.rr_types.specs.declared.promise.Entry.{Entry}
use Rattle.rr_model.specs.NodeState.{NodeState}
use Rattle.rr_disk.specs.declared.area.Area.{Area}
use Rattle.rr_disk.specs.Areas.{Areas, synced}
use Rattle.rr_types.specs.Counts.{counted, Grew}
use Rattle.rr_disk.specs.Failing.{FailingWrite, FailingSync}
use Rattle.rr_disk.specs.Memory.{MemoryWrite, MemorySync}
use Rattle.rr_frame.specs.Snapshots.{Snapped, IsSnapshot}
use Rattle.rr_frame.specs.SnapshotFormat.{snapshot_bytes, IsLawfulSnapshot}
use Rattle.rr_journal.specs.declared.journal.Journal.{Journal}
use Rattle.rr_journal.specs.Calls.{Call, Read, Write, Sync, frame_bytes, after_call, after_failing, after_starved}
use Rattle.rr_journal.specs.OtherAreas.{other_area, closes_in}
use Rattle.rr_journal.specs.declared.stage.Stage.{Stage}
use Rattle.rr_journal.specs.declared.stage.Stage.TheVariants.{Closing, SettlingClosed, WritingBody, SettlingBody, OpeningGate, SettlingGate}
use Rattle.rr_journal.specs.declared.switch.Switching.TheVariants as switching
use Rattle.rr_journal.specs.Switches as slots
use Rattle.rr_journal.specs.Stages.{first_stage, call_at, calls_from, stage_behind, Gave}
use Rattle.rr_journal.specs.Switches.{Switch, due_call, switch_calls, switched}
use Rattle.rr_journal.specs.SwitchTable.{GoesOn}
use Rattle.rr_node.specs.declared.doing.Doing.TheVariants as does
use Rattle.rr_node.specs.declared.serving.Flush.TheVariants as flush
use Rattle.rr_types.specs.declared.event.NodeEvent.TheVariants as at
use Rattle.rr_node.specs.declared.event.Outcome.TheVariants.{Quiet}
use Rattle.rr_node.specs.Seats as seats
use Rattle.rr_node.specs.Seats.{Seat, Answer, Fails, snapshot_of, may_snap, journal_switched}
use Rattle.rr_node.specs.Views.{NodeDisk, journaled_of, seat_of, IsServing, CarriesOn, CarriesFailing, armed}
use Rattle.rr_node.proofs.DiskLaws.{passed_on, starved_by, starved_grows, starved_falls, gave_by, gave_failing}
use Rattle.rr_node.proofs.FrontLaws.{Reaches, sync_keeps, beside_keeps, opened_closes, other_other, appends_on}
use Rattle.rr_node.proofs.ServingLaws.{frame_long}

-- the calls from a stage on: the one that is due, and those of the next stage
record IsDue (area : Area) (body : List ℕ) (stage next : Stage) : Type 0 where
  call : Call
  calls : List Call
  due : calls_from area body stage ≡ call_at area body stage ∷ call ∷ calls
  behind : calls_from area body next ≡ call ∷ calls

is_due : (area : Area) (body : List ℕ) (stage next : Stage) → stage_behind stage ≡ Some next → IsDue area body stage next
is_due area body Closing next e = let is : SettlingClosed ≡ next = cc in record { call = Sync; calls = Write area 1 body ∷ Sync ∷ Write area 0 (165 ∷ []) ∷ Sync ∷ []; due = refl; behind = ap (calls_from area body) (sym is) }
is_due area body SettlingClosed next e = let is : WritingBody ≡ next = cc in record { call = Write area 1 body; calls = Sync ∷ Write area 0 (165 ∷ []) ∷ Sync ∷ []; due = refl; behind = ap (calls_from area body) (sym is) }
is_due area body WritingBody next e = let is : SettlingBody ≡ next = cc in record { call = Sync; calls = Write area 0 (165 ∷ []) ∷ Sync ∷ []; due = refl; behind = ap (calls_from area body) (sym is) }
is_due area body SettlingBody next e = let is : OpeningGate ≡ next = cc in record { call = Write area 0 (165 ∷ []); calls = Sync ∷ []; due = refl; behind = ap (calls_from area body) (sym is) }
is_due area body OpeningGate next e = let is : SettlingGate ≡ next = cc in record { call = Sync; calls = []; due = refl; behind = ap (calls_from area body) (sym is) }
is_due area body SettlingGate next e = absurd (cc)

-- a call is due in each stage
some_due : (area : Area) (body : List ℕ) (stage : Stage) → (calls : List Call) × (calls_from area body stage ≡ call_at area body stage ∷ calls)
some_due area body Closing = (_, refl)
some_due area body SettlingClosed = (_, refl)
some_due area body WritingBody = (_, refl)
some_due area body SettlingBody = (_, refl)
some_due area body OpeningGate = (_, refl)
some_due area body SettlingGate = (_, refl)

last_stage : (stage : Stage) → stage_behind stage ≡ None → stage ≡ SettlingGate
last_stage Closing e = absurd (cc)
last_stage SettlingClosed e = absurd (cc)
last_stage WritingBody e = absurd (cc)
last_stage SettlingBody e = absurd (cc)
last_stage OpeningGate e = absurd (cc)
last_stage SettlingGate e = refl

opens_before : (stage next : Stage) → stage_behind stage ≡ Some next → next ≡ SettlingGate → stage ≡ OpeningGate
opens_before Closing next e is = absurd (cc)
opens_before SettlingClosed next e is = absurd (cc)
opens_before WritingBody next e is = absurd (cc)
opens_before SettlingBody next e is = absurd (cc)
opens_before OpeningGate next e is = refl
opens_before SettlingGate next e is = absurd (cc)

-- a switch leaves the area that it comes from
call_keeps : (both : Areas) (area : Area) (body : List ℕ) (stage : Stage) → closes_in (after_call (call_at (other_area area) body stage) both) area ≡ closes_in both area
call_keeps both area body Closing = beside_keeps both area 0 (0 ∷ [])
call_keeps both area body SettlingClosed = (sync_keeps both area).0
call_keeps both area body WritingBody = beside_keeps both area 1 body
call_keeps both area body SettlingBody = (sync_keeps both area).0
call_keeps both area body OpeningGate = beside_keeps both area 0 (165 ∷ [])
call_keeps both area body SettlingGate = (sync_keeps both area).0

abbrev Made : Switch → NodeDisk → Result (Unit {0}) Refusal → NodeDisk → Type 0
Made job old r new = Gave (FailingWrite MemoryWrite) (FailingSync MemorySync) (due_call job) old r new

-- a switch goes on behind a device call
pub switch_goes : (s : NodeState) (j k : Journal NodeDisk) (job next : Switch) → GoesOn job j (switching.More next) k → Made job j.disk (Ok tt) k.disk
    → CarriesOn at.Device (record { core = s; slots = j; flush = flush.Switching job }) (Ok Quiet) (does.Serving (record { core = s; slots = k; flush = flush.Switching next }))
switch_goes s j k job next went made n p h = (
  inl (own ∙ sym here),
  record {
    nodes = h.nodes;
    node = h.node;
    journal_nodes = ap (λ (x : Journal NodeDisk). x.nodes) same ∙ h.journal_nodes;
    journal_node = ap (λ (x : Journal NodeDisk). x.node) same ∙ h.journal_node;
    sound = ap (λ (x : Journal NodeDisk). x.failed) same ∙ h.sound;
    calm = left.0;
    flush = record {
      area = ap (λ (x : Switch). x.area) is ∙ h.flush.area ∙ ap (λ (x : Journal NodeDisk). other_area x.area) (sym same);
      epoch = ap (λ (x : Switch). x.epoch) is ∙ h.flush.epoch ∙ ap (λ (x : Journal NodeDisk). x.epoch + 1) (sym same);
      body = ap (λ (x : Switch). x.body) is ∙ h.flush.body ∙ ap (λ (x : Journal NodeDisk). frame_bytes (snapshot_bytes (snapshot_of s (journaled_of x)))) (sym same);
      lawful = subst (λ (x : Journal NodeDisk). IsLawfulSnapshot (snapshot_of s (journaled_of x))) (sym same) h.flush.lawful;
      next = ap (λ (x : Journal NodeDisk). x.next) same ∙ h.flush.next;
      rests = h.flush.rests;
    };
    appending = appends_on j k same keeps h.appending;
    beside = λ last. ap (λ (x : Switch). closes_in k.disk.below.areas x.area) is ∙ ap (λ (b : Areas). closes_in b job.area) left.1
        ∙ ap (λ (x : Stage). closes_in (after_call (call_at job.area job.body x) j.disk.below.areas) job.area) (opens_before job.stage next.stage went.0 last) ∙ opened_closes j.disk.below.areas job.area;
    snaps = h.snaps;
  },
)
  where
    is : next ≡ record job { stage = next.stage }
    is = went.1

    same : k ≡ record j { disk = k.disk }
    same = went.2

    left : (k.disk.due ≡ None) × (k.disk.below.areas ≡ after_call (due_call job) j.disk.below.areas) × Reaches (due_call job) j.disk.below.areas × (k.disk.calls ≡ counted j.disk.calls)
    left = gave_by (due_call job) j.disk k.disk h.calm made

    due : IsDue job.area job.body job.stage next.stage
    due = is_due job.area job.body job.stage next.stage went.0

    old : Seat
    old = seat_of n p (does.Serving (record { core = s; slots = j; flush = flush.Switching job }))

    here : seats.flush_on s (journaled_of j) old (seats.Switching (calls_from job.area job.body job.stage)) ≡ seats.flush_on s (journaled_of j) old (seats.Switching (due_call job ∷ due.call ∷ due.calls))
    here = ap (λ (calls : List Call). seats.flush_on s (journaled_of j) old (seats.Switching calls)) due.due

    rest : calls_from next.area next.body next.stage ≡ due.call ∷ due.calls
    rest = ap (λ (x : Switch). calls_from x.area x.body next.stage) is ∙ due.behind

    own : Path Answer (Ok Quiet, seat_of n p (does.Serving (record { core = s; slots = k; flush = flush.Switching next }))) (seats.flush_on s (journaled_of j) old (seats.Switching (due_call job ∷ due.call ∷ due.calls)))
    own = rw (rest, left.1, left.3, ap (λ (x : Journal NodeDisk). x.area) same, ap (λ (x : Journal NodeDisk). x.gate) same, ap (λ (x : Journal NodeDisk). x.epoch) same) refl

    keeps : closes_in k.disk.below.areas j.area ≡ closes_in j.disk.below.areas j.area
    keeps = ap (λ (b : Areas). closes_in b j.area) left.1 ∙ ap (λ (a : Area). closes_in (after_call (call_at a job.body job.stage) j.disk.below.areas) j.area) h.flush.area ∙ call_keeps j.disk.below.areas j.area job.body job.stage

-- a switch ends
pub switch_ends : (s : NodeState) (j k : Journal NodeDisk) (job : Switch) → GoesOn job j switching.Done k → Made job j.disk (Ok tt) k.disk
    → CarriesOn at.Device (record { core = s; slots = j; flush = flush.Switching job }) (Ok Quiet) (does.Serving (record { core = s; slots = k; flush = flush.Resting }))
switch_ends s j k job went made n p h = (
  inl (own ∙ sym here),
  record {
    nodes = h.nodes;
    node = h.node;
    journal_nodes = ap (λ (x : Journal NodeDisk). x.nodes) same ∙ h.journal_nodes;
    journal_node = ap (λ (x : Journal NodeDisk). x.node) same ∙ h.journal_node;
    sound = ap (λ (x : Journal NodeDisk). x.failed) same ∙ h.sound;
    calm = left.0;
    flush = (h.flush.rests, ap (λ (x : Journal NodeDisk). x.busy) same, ap (λ (x : Journal NodeDisk). x.next) same ∙ h.flush.next);
    appending = record {
      behind = omega (arith, ap (λ (x : Journal NodeDisk). x.gate) same, long);
      formatted = ap (λ (x : Journal NodeDisk). closes_in k.disk.below.areas x.area) same ∙ ap (λ (b : Areas). closes_in b job.area) areas ∙ (sync_keeps j.disk.below.areas job.area).0 ∙ h.beside last;
    };
    beside = ap (λ (x : Journal NodeDisk). x.closes_other) same ∙ sym (ap (λ (x : Journal NodeDisk). closes_in k.disk.below.areas (other_area x.area)) same ∙ ap (λ (b : Areas). closes_in b (other_area job.area)) areas
        ∙ ap (λ (a : Area). closes_in (synced j.disk.below.areas) (other_area a)) h.flush.area ∙ ap (closes_in (synced j.disk.below.areas)) (other_other j.area)
        ∙ (sync_keeps j.disk.below.areas j.area).0 ∙ h.appending.formatted);
    snaps = h.snaps;
  },
)
  where
    same : k ≡ record (switched job j) { disk = k.disk }
    same = went.1

    last : job.stage ≡ SettlingGate
    last = last_stage job.stage went.0

    left : (k.disk.due ≡ None) × (k.disk.below.areas ≡ after_call (due_call job) j.disk.below.areas) × Reaches (due_call job) j.disk.below.areas × (k.disk.calls ≡ counted j.disk.calls)
    left = gave_by (due_call job) j.disk k.disk h.calm made

    areas : k.disk.below.areas ≡ synced j.disk.below.areas
    areas = left.1 ∙ ap (λ (x : Stage). after_call (call_at job.area job.body x) j.disk.below.areas) last

    long : length job.body ≡ 5 + length (snapshot_bytes (snapshot_of s (journaled_of j)))
    long = ap (λ (b : List ℕ). length b) h.flush.body ∙ frame_long (snapshot_bytes (snapshot_of s (journaled_of j)))

    old : Seat
    old = seat_of n p (does.Serving (record { core = s; slots = j; flush = flush.Switching job }))

    here : seats.flush_on s (journaled_of j) old (seats.Switching (calls_from job.area job.body job.stage)) ≡ seats.flush_on s (journaled_of j) old (seats.Switching (Sync ∷ []))
    here = ap (λ (x : Stage). seats.flush_on s (journaled_of j) old (seats.Switching (calls_from job.area job.body x))) last

    appends : journaled_of k ≡ journal_switched s (journaled_of j)
    appends = ap journaled_of same ∙ (λ i. record { area = h.flush.area i; gate = long i; epoch = h.flush.epoch i })

    own : Path Answer (Ok Quiet, seat_of n p (does.Serving (record { core = s; slots = k; flush = flush.Resting }))) (seats.flush_on s (journaled_of j) old (seats.Switching (Sync ∷ [])))
    own = λ i. (Ok Quiet, record { nodes = n; node = p; doing = seats.Serving s (appends i) seats.Resting; areas = areas i; calls = left.3 i })

-- what a step of a switch was refused for
abbrev pub IsRefusedBy : Switch → Journal NodeDisk → Journal NodeDisk → Refusal → Type 0
IsRefusedBy job j k e =
    ((e ≡ because.Failed) × (j.failed ≡ true) × (k ≡ j))
    ⊎ ((e ≡ because.Device) × (j.failed ≡ false) × (k ≡ record j { disk = k.disk; failed = true }) × Made job j.disk (Err because.Device) k.disk × Grew j.disk.faults k.disk.faults)

pub switch_refused : (s : NodeState) (j k : Journal NodeDisk) (job : Switch) (e : Refusal) → IsRefusedBy job j k e → CarriesOn at.Device (record { core = s; slots = j; flush = flush.Switching job }) (Err e) (does.Faulted k.disk)
switch_refused s j k job e (inl failed) n p h = absurd (false≢true (sym h.sound ∙ failed.1))
switch_refused s j k job e (inr gave) n p h = by (due_call job) refl gave.3
  where
    old : Seat
    old = seat_of n p (does.Serving (record { core = s; slots = j; flush = flush.Switching job }))

    here : (call : Call) → due_call job ≡ call → seats.starve_flush (seats.Switching (calls_from job.area job.body job.stage)) old ≡ seats.starve_call call old
    here call is = ap (λ (calls : List Call). seats.starve_flush (seats.Switching calls) old) (some_due job.area job.body job.stage).1 ∙ ap (λ (c : Call). seats.starve_call c old) is

    by : (call : Call) → due_call job ≡ call → Gave (FailingWrite MemoryWrite) (FailingSync MemorySync) call j.disk (Err because.Device) k.disk
        → seats.Gives at.Device old (Err e) (seat_of n p (does.Faulted k.disk)) × (k.disk.due ≡ None)
    by (Read area) is made = absurd made
    by (Write area from bytes) is made =
        let left = starved_by j.disk k.disk area from bytes h.calm made in
        let own : Path Answer (Err e, seat_of n p (does.Faulted k.disk)) (seats.fall after_starved (Write area from bytes) old) = rw (gave.0, left.1, left.2) refl in
        let falls = starved_falls (Write area from bytes) old (starved_grows j.disk k.disk area from bytes h.calm made) in
        (inr (own ∙ sym falls ∙ sym (here (Write area from bytes) is)), left.0)
    by Sync is made = absurd (false≢true (passed_on j.disk.due _ _ h.calm made).0.0)

-- the device call of a switch that is due fails
pub switch_failing : (n p : ℕ) (fill : List ℕ) (s : NodeState) (j late k : Journal NodeDisk) (job : Switch) (e : Refusal) → late ≡ armed fill j → IsRefusedBy job late k e
    → CarriesFailing n p fill (does.Serving (record { core = s; slots = j; flush = flush.Switching job })) (Err because.Device) (does.Faulted k.disk)
switch_failing n p fill s j late k job e arms refused h = by (subst (λ (x : Journal NodeDisk). IsRefusedBy job x k e) arms refused)
  where
    old : Seat
    old = seat_of n p (does.Serving (record { core = s; slots = j; flush = flush.Switching job }))

    here : (leaves : Call → Areas → Areas) → seats.fail_flush leaves (seats.Switching (calls_from job.area job.body job.stage)) old ≡ seats.fall leaves (due_call job) old
    here leaves = ap (λ (calls : List Call). seats.fail_flush leaves (seats.Switching calls) old) (some_due job.area job.body job.stage).1

    ends : (k.disk.below.areas ≡ after_failing fill (due_call job) j.disk.below.areas) ⊎ (k.disk.below.areas ≡ seats.after_failing_starved fill (due_call job) j.disk.below.areas) → k.disk.calls ≡ counted j.disk.calls → Fails fill old (Err because.Device) (seat_of n p (does.Faulted k.disk))
    ends (inl left) count = inl (rw (left, count) (sym (here (after_failing fill))))
    ends (inr left) count = inr (rw (left, count) (sym (here (seats.after_failing_starved fill))))

    by : IsRefusedBy job (armed fill j) k e → Fails fill old (Err because.Device) (seat_of n p (does.Faulted k.disk)) × (k.disk.due ≡ None)
    by (inl failed) = absurd (false≢true (sym h.sound ∙ failed.1))
    by (inr gave) = let left = gave_failing fill (due_call job) j.disk k.disk gave.3 in (ends left.1 left.2, left.0)

-- the snapshot of the marked facts is the one that the areas make of them
snapshot_is : (s : NodeState) (j : Journal NodeDisk) (n p : ℕ) → IsServing n p (record { core = s; slots = j; flush = flush.Resting }) → slots.snapshot_of j s.marked ≡ snapshot_of s (journaled_of j)
snapshot_is s j n p h =
    let node : j.node ≡ s.node = h.journal_node ∙ sym h.node in
    let nodes : j.nodes ≡ s.nodes = h.journal_nodes ∙ sym h.nodes in
    λ i. record { node = node i; nodes = nodes i; epoch = j.epoch + 1; next = h.flush.2 i; entries = s.marked }

-- a snapshot can hold their promise
pub may_begin : (s : NodeState) (j : Journal NodeDisk) (promise : List Entry) (n p : ℕ) → promise ≡ s.marked → IsServing n p (record { core = s; slots = j; flush = flush.Resting }) → IsSnapshot (slots.snapshot_of j promise)
may_begin s j promise n p marked h =
    subst IsSnapshot (sym (ap (slots.snapshot_of j) marked ∙ snapshot_is s j n p h)) (record { node = h.snaps.node; epoch = omega arith; empty = h.snaps.empty; proposals = h.snaps.proposals })

calls_begin : (area : Area) (closes : Bool) (payload : List ℕ) → calls_from area (frame_bytes payload) (first_stage closes) ≡ switch_calls area closes payload
calls_begin area true payload = refl
calls_begin area false payload = refl

not_last : (closes : Bool) → first_stage closes ≢ SettlingGate
not_last true e = absurd (cc)
not_last false e = absurd (cc)

-- what a snap answers at a node at rest, by whether the snapshot may be
abbrev snapped_if : NodeState → Journal NodeDisk → Seat → Bool → Answer
snapped_if s j seat may =
    if may then seats.goes_on Quiet (seats.Serving s (journaled_of j) (seats.Switching (switch_calls (other_area j.area) (closes_in seat.areas (other_area j.area)) (snapshot_bytes (snapshot_of s (journaled_of j)))))) seat
    else seats.refuse because.TooLarge seat

pub switch_begun : (s : NodeState) (j k : Journal NodeDisk) (promise : List Entry) (job : Switch) → promise ≡ s.marked → j.epoch + 1 < 2 ^ 64 → IsLawfulSnapshot (slots.snapshot_of j promise) → 6 + length (snapshot_bytes (slots.snapshot_of j promise)) < 2 ^ 32 → k ≡ record j { busy = true }
    → job ≡ record { nodes = j.nodes; node = j.node; area = other_area j.area; epoch = j.epoch + 1; next = j.next; body = frame_bytes (snapshot_bytes (slots.snapshot_of j promise)); stage = first_stage j.closes_other }
    → CarriesOn at.Snap (record { core = s; slots = j; flush = flush.Resting }) (Ok Quiet) (does.Serving (record { core = s; slots = k; flush = flush.Switching job }))
switch_begun s j k promise job marked epoch lawful short busy is n p h = (
  inl (own ∙ ap (snapped_if s j old) (sym may)),
  record {
    nodes = h.nodes;
    node = h.node;
    journal_nodes = ap (λ (x : Journal NodeDisk). x.nodes) busy ∙ h.journal_nodes;
    journal_node = ap (λ (x : Journal NodeDisk). x.node) busy ∙ h.journal_node;
    sound = ap (λ (x : Journal NodeDisk). x.failed) busy ∙ h.sound;
    calm = ap (λ (x : Journal NodeDisk). x.disk.due) busy ∙ h.calm;
    flush = record {
      area = ap (λ (x : Switch). x.area) is ∙ ap (λ (x : Journal NodeDisk). other_area x.area) (sym busy);
      epoch = ap (λ (x : Switch). x.epoch) is ∙ ap (λ (x : Journal NodeDisk). x.epoch + 1) (sym busy);
      body = body ∙ ap (λ (x : Journal NodeDisk). frame_bytes (snapshot_bytes (snapshot_of s (journaled_of x)))) (sym busy);
      lawful = subst (λ (x : Journal NodeDisk). IsLawfulSnapshot (snapshot_of s (journaled_of x))) (sym busy) (subst IsLawfulSnapshot snapshot lawful);
      next = ap (λ (x : Journal NodeDisk). x.next) busy ∙ h.flush.2;
      rests = h.flush.0;
    };
    appending = record {
      behind = omega (arith, ap (λ (x : Journal NodeDisk). x.gate) busy, h.appending.behind);
      formatted = ap (λ (x : Journal NodeDisk). closes_in x.disk.below.areas x.area) busy ∙ h.appending.formatted;
    };
    beside = λ last. absurd (not_last j.closes_other (ap (λ (x : Switch). x.stage) (sym is) ∙ last));
    snaps = h.snaps;
  },
)
  where
    old : Seat
    old = seat_of n p (does.Serving (record { core = s; slots = j; flush = flush.Resting }))

    snapshot : slots.snapshot_of j promise ≡ snapshot_of s (journaled_of j)
    snapshot = ap (slots.snapshot_of j) marked ∙ snapshot_is s j n p h

    body : job.body ≡ frame_bytes (snapshot_bytes (snapshot_of s (journaled_of j)))
    body = ap (λ (x : Switch). x.body) is ∙ ap (λ (x : Snapped). frame_bytes (snapshot_bytes x)) snapshot

    may : may_snap s (journaled_of j) ≡ true
    may =
        let fits : ltb (6 + length (snapshot_bytes (snapshot_of s (journaled_of j)))) (2 ^ 32) ≡ true = lt-ltb _ _ (omega (arith, short, ap (λ (x : Snapped). length (snapshot_bytes x)) snapshot)) in
        and_from (ltb (j.epoch + 1) (2 ^ 64)) (ltb (6 + length (snapshot_bytes (snapshot_of s (journaled_of j)))) (2 ^ 32)) (lt-ltb _ _ epoch) fits

    calls : calls_from job.area job.body job.stage ≡ switch_calls (other_area j.area) (closes_in j.disk.below.areas (other_area j.area)) (snapshot_bytes (snapshot_of s (journaled_of j)))
    calls = ap (λ (x : Switch). calls_from x.area job.body x.stage) is ∙ ap (λ (b : List ℕ). calls_from (other_area j.area) b (first_stage j.closes_other)) body
        ∙ ap (λ (c : Bool). calls_from (other_area j.area) (frame_bytes (snapshot_bytes (snapshot_of s (journaled_of j)))) (first_stage c)) h.beside
        ∙ calls_begin (other_area j.area) (closes_in j.disk.below.areas (other_area j.area)) (snapshot_bytes (snapshot_of s (journaled_of j)))

    own : Path Answer (Ok Quiet, seat_of n p (does.Serving (record { core = s; slots = k; flush = flush.Switching job }))) (snapped_if s j old true)
    own = rw (busy, calls) refl

-- a switch that doesn't begin changes nothing
pub switch_not_begun : (s : NodeState) (j k : Journal NodeDisk) (promise : List Entry) (e : Refusal) → promise ≡ s.marked → k ≡ j
    → (e ≡ because.OutOfMemory) ⊎ ((e ≡ because.Failed) × (j.failed ≡ true)) ⊎ ((e ≡ because.Busy) × (j.busy ≡ true))
    ⊎ ((e ≡ because.TooLarge) × ((2 ^ 64 ≤ j.epoch + 1) ⊎ (2 ^ 32 ≤ 6 + length (snapshot_bytes (slots.snapshot_of j promise)))))
    → CarriesOn at.Snap (record { core = s; slots = j; flush = flush.Resting }) (Err e) (does.Serving (record { core = s; slots = k; flush = flush.Resting }))
switch_not_begun s j k promise e marked same why n p h = rw same (by why, h)
  where
    old : Seat
    old = seat_of n p (does.Serving (record { core = s; slots = j; flush = flush.Resting }))

    snapshot : slots.snapshot_of j promise ≡ snapshot_of s (journaled_of j)
    snapshot = ap (slots.snapshot_of j) marked ∙ snapshot_is s j n p h

    second_false : (a b : Bool) → b ≡ false → (a && b) ≡ false
    second_false true b is = is
    second_false false b is = refl

    may_not : (2 ^ 64 ≤ j.epoch + 1) ⊎ (2 ^ 32 ≤ 6 + length (snapshot_bytes (slots.snapshot_of j promise))) → may_snap s (journaled_of j) ≡ false
    may_not (inl epoch) = ap (λ (b : Bool). b && ltb (6 + length (snapshot_bytes (snapshot_of s (journaled_of j)))) (2 ^ 32)) (le-ltb _ _ epoch)
    may_not (inr long) =
        let fits : ltb (6 + length (snapshot_bytes (snapshot_of s (journaled_of j)))) (2 ^ 32) ≡ false = le-ltb _ _ (omega (arith, long, ap (λ (x : Snapped). length (snapshot_bytes x)) snapshot)) in
        second_false (ltb (j.epoch + 1) (2 ^ 64)) (ltb (6 + length (snapshot_bytes (snapshot_of s (journaled_of j)))) (2 ^ 32)) fits

    by : (e ≡ because.OutOfMemory) ⊎ ((e ≡ because.Failed) × (j.failed ≡ true)) ⊎ ((e ≡ because.Busy) × (j.busy ≡ true))
        ⊎ ((e ≡ because.TooLarge) × ((2 ^ 64 ≤ j.epoch + 1) ⊎ (2 ^ 32 ≤ 6 + length (snapshot_bytes (slots.snapshot_of j promise))))) → seats.Gives at.Snap old (Err e) old
    by (inl memory) = inr (rw memory refl)
    by (inr (inl failed)) = absurd (false≢true (sym h.sound ∙ failed.1))
    by (inr (inr (inl busy))) = absurd (false≢true (sym h.flush.1 ∙ busy.1))
    by (inr (inr (inr large))) = inl (rw large.0 (ap (snapped_if s j old) (sym (may_not large.1))))
