-- An event of a node makes at most one device call, and none but a device event.
use Rattle.std.proofs.Common.{◌≡◌, ◌≢◌, ◌⊎◌, inl, inr, ℕ, ◌+◌, ◌^◌, Bool, true, false, ◌==◌, nat_lt, List, [], ◌∷◌, length, Option, None, Some, Result, Ok, refl, sym, ap, ◌∙◌, subst, if◌then◌else◌}
use Rattle.std.specs.Prelude.{IfSome}
use Rattle.std.specs.Option.{option_map_or}
use Rattle.rr_types.specs.declared.command.RequestNo.{RequestNo}
use Rattle.rr_types.specs.declared.command.Reply.{Reply}
use Rattle.rr_types.specs.declared.message.Message.{Message}
use Rattle.rr_types.specs.declared.refusal.Refusal.{Refusal}
use Rattle.rr_types.specs.declared.refusal.Refusal.TheVariants as because
use Rattle.rr_types.specs.Registry.{reply_of}
use Rattle.rr_model.specs.NodeState.{NodeState, decided_prefix}
use Rattle.rr_types.specs.declared.input.Input.{Input}
use Rattle.rr_model.specs.NodeStep.{node_step, refusal_of, group_taken, next_leaving, message_left, next_acknowledged, acknowledged}
use Rattle.rr_disk.specs.Areas.{Areas, synced}
use Rattle.rr_frame.specs.SnapshotFormat.{snapshot_bytes}
use Rattle.rr_journal.specs.Calls.{Call, Read, Write, Sync, after_call, after_starved, after_failing, append_calls}
use Rattle.rr_journal.specs.Openings.{Phase, After, Goes, Opens, Stops, due_call, after_opening_call}
use Rattle.rr_journal.specs.OtherAreas.{other_area, closes_in}
use Rattle.rr_journal.specs.Switches.{switch_calls}
use Rattle.rr_node.specs.declared.doing.Doing as code
use Rattle.rr_types.specs.declared.event.NodeEvent.{NodeEvent}
use Rattle.rr_types.specs.declared.event.NodeEvent.TheVariants as at
use Rattle.rr_node.specs.declared.event.Outcome.{Outcome}
use Rattle.rr_node.specs.declared.event.Outcome.TheVariants.{Quiet, Left, Replied}
use Rattle.rr_node.specs.Seats.{Flush, Resting, Writing, Flushed, Switching, Journaled, Doing, Stopped, Faulted, Opening, Serving, Seat, Answer, Gives, Fails, AtMostOneCall, called, refuse, goes_on, read_by, opens_on, open_on, flush_on, told, payload_of, take_up, may_snap, snapshot_of, snap_up, mark_up, send_off, reply_off, serve, wait, await_opening, by_doing, seat_step, fall, grows, starve_call, starve_flush, starve_end, starve_opening, starve_awaiting, starve_beginning, starve_marking, starve_serving, starve_doing, fail_doing, after_failing_starved}
use Rattle.rr_node.specs.Views.{seat_of, IsSteady, Carries, CarriesFailing, CarriesQuietly, quiet}

-- no device call was made for an answer
abbrev MakesNone : Seat → Answer → Type 0
MakesNone seat given = given.1.calls ≡ seat.calls

-- at most one was
abbrev MakesOne : Seat → Answer → Type 0
MakesOne seat given = AtMostOneCall seat given.1

-- ---- events that make none

told_none : (input : Input Message) (s : NodeState) (journal : Journaled) (flush : Flush) (seat : Seat) → MakesNone seat (told input s journal flush seat)
told_none input s journal flush seat = by (refusal_of input s)
  where
    by : (o : Option Refusal) → MakesNone seat (option_map_or (λ e. refuse e seat) o (goes_on Quiet (Serving (node_step input s) journal flush) seat))
    by None = refl
    by (Some e) = refl

take_none : (s : NodeState) (journal : Journaled) (flush : Flush) (seat : Seat) → MakesNone seat (take_up s journal flush seat)
take_none s journal Resting seat = by (length s.staged == 0) (nat_lt (journal.gate + 6 + length (payload_of s)) (2 ^ 32))
  where
    by : (empty fits : Bool) → MakesNone seat (if empty then (Ok Quiet, seat) else (if fits then goes_on Quiet (Serving (group_taken s) journal (Writing (append_calls journal.area journal.gate (payload_of s)))) seat else refuse because.TooLarge seat))
    by true fits = refl
    by false true = refl
    by false false = refl
take_none s journal (Writing calls) seat = refl
take_none s journal Flushed seat = refl
take_none s journal (Switching calls) seat = refl

snap_none : (s : NodeState) (journal : Journaled) (flush : Flush) (seat : Seat) → MakesNone seat (snap_up s journal flush seat)
snap_none s journal Resting seat = by (may_snap s journal)
  where
    by : (may : Bool) → MakesNone seat (if may then goes_on Quiet (Serving s journal (Switching (switch_calls (other_area journal.area) (closes_in seat.areas (other_area journal.area)) (snapshot_bytes (snapshot_of s journal))))) seat else refuse because.TooLarge seat)
    by true = refl
    by false = refl
snap_none s journal (Writing calls) seat = refl
snap_none s journal Flushed seat = refl
snap_none s journal (Switching calls) seat = refl

mark_none : (s : NodeState) (journal : Journaled) (flush : Flush) (seat : Seat) → MakesNone seat (mark_up s journal flush seat)
mark_none s journal Resting seat = refl
mark_none s journal (Writing calls) seat = refl
mark_none s journal Flushed seat = refl
mark_none s journal (Switching calls) seat = refl

send_none : (s : NodeState) (journal : Journaled) (flush : Flush) (seat : Seat) → MakesNone seat (send_off s journal flush seat)
send_none s journal flush seat = by (next_leaving s)
  where
    by : (o : Option Message) → MakesNone seat (option_map_or (λ m. goes_on (Left m) (Serving (message_left s) journal flush) seat) o (Ok Quiet, seat))
    by None = refl
    by (Some m) = refl

reply_none : (s : NodeState) (journal : Journaled) (flush : Flush) (seat : Seat) → MakesNone seat (reply_off s journal flush seat)
reply_none s journal flush seat = by (next_acknowledged s)
  where
    replied : (q : RequestNo) (o : Option Reply) → MakesNone seat (option_map_or (λ reply. goes_on (Replied q reply) (Serving (acknowledged s) journal flush) seat) o (Ok Quiet, seat))
    replied q None = refl
    replied q (Some reply) = refl

    by : (o : Option RequestNo) → MakesNone seat (option_map_or (λ q. option_map_or (λ reply. goes_on (Replied q reply) (Serving (acknowledged s) journal flush) seat) (reply_of (decided_prefix s) q) (Ok Quiet, seat)) o (Ok Quiet, seat))
    by None = refl
    by (Some q) = replied q (reply_of (decided_prefix s) q)

serve_none : (event : NodeEvent Message) (s : NodeState) (journal : Journaled) (flush : Flush) (seat : Seat) → event ≢ at.Device → MakesNone seat (serve s journal flush seat event)
serve_none (at.Told input) s journal flush seat other = told_none input s journal flush seat
serve_none at.Take s journal flush seat other = take_none s journal flush seat
serve_none at.Device s journal flush seat other = absurd (other refl)
serve_none at.Mark s journal flush seat other = mark_none s journal flush seat
serve_none at.Send s journal flush seat other = send_none s journal flush seat
serve_none at.Acknowledge s journal flush seat other = reply_none s journal flush seat
serve_none at.Snap s journal flush seat other = snap_none s journal flush seat
serve_none at.Restart s journal flush seat other = refl

wait_none : (event : NodeEvent Message) (seat : Seat) (e : Refusal) → MakesNone seat (wait event seat e)
wait_none (at.Told input) seat e = refl
wait_none at.Take seat e = refl
wait_none at.Device seat e = refl
wait_none at.Mark seat e = refl
wait_none at.Send seat e = refl
wait_none at.Acknowledge seat e = refl
wait_none at.Snap seat e = refl
wait_none at.Restart seat e = refl

await_none : (event : NodeEvent Message) (phase : Phase) (seat : Seat) → event ≢ at.Device → MakesNone seat (await_opening phase seat event)
await_none (at.Told input) phase seat other = refl
await_none at.Take phase seat other = refl
await_none at.Device phase seat other = absurd (other refl)
await_none at.Mark phase seat other = refl
await_none at.Send phase seat other = refl
await_none at.Acknowledge phase seat other = refl
await_none at.Snap phase seat other = refl
await_none at.Restart phase seat other = refl

step_none : (event : NodeEvent Message) (seat : Seat) (doing : Doing) → event ≢ at.Device → MakesNone seat (by_doing event seat doing)
step_none event seat Stopped other = wait_none event seat because.Down
step_none event seat Faulted other = wait_none event seat because.Failed
step_none event seat (Opening phase) other = await_none event phase seat other
step_none event seat (Serving s journal flush) other = serve_none event s journal flush seat other

-- where memory is wanting

awaiting_none : (event : NodeEvent Message) (phase : Phase) (seat : Seat) → event ≢ at.Device → MakesNone seat (starve_awaiting phase event seat)
awaiting_none (at.Told input) phase seat other = step_none (at.Told input) seat seat.doing other
awaiting_none at.Take phase seat other = step_none at.Take seat seat.doing other
awaiting_none at.Device phase seat other = absurd (other refl)
awaiting_none at.Mark phase seat other = step_none at.Mark seat seat.doing other
awaiting_none at.Send phase seat other = step_none at.Send seat seat.doing other
awaiting_none at.Acknowledge phase seat other = step_none at.Acknowledge seat seat.doing other
awaiting_none at.Snap phase seat other = step_none at.Snap seat seat.doing other
awaiting_none at.Restart phase seat other = step_none at.Restart seat seat.doing other

beginning_none : (event : NodeEvent Message) (flush : Flush) (seat : Seat) → event ≢ at.Device → MakesNone seat (starve_beginning flush event seat)
beginning_none event Resting seat other = refl
beginning_none event (Writing calls) seat other = step_none event seat seat.doing other
beginning_none event Flushed seat other = step_none event seat seat.doing other
beginning_none event (Switching calls) seat other = step_none event seat seat.doing other

marking_none : (flush : Flush) (seat : Seat) → MakesNone seat (starve_marking flush seat)
marking_none Resting seat = step_none at.Mark seat seat.doing (λ e. cc)
marking_none (Writing calls) seat = step_none at.Mark seat seat.doing (λ e. cc)
marking_none Flushed seat = refl
marking_none (Switching calls) seat = step_none at.Mark seat seat.doing (λ e. cc)

serving_none : (event : NodeEvent Message) (s : NodeState) (flush : Flush) (seat : Seat) → event ≢ at.Device → MakesNone seat (starve_serving s flush event seat)
serving_none (at.Told input) s flush seat other = refl
serving_none at.Take s flush seat other = beginning_none at.Take flush seat other
serving_none at.Device s flush seat other = absurd (other refl)
serving_none at.Mark s flush seat other = marking_none flush seat
serving_none at.Send s flush seat other = step_none at.Send seat seat.doing other
serving_none at.Acknowledge s flush seat other = step_none at.Acknowledge seat seat.doing other
serving_none at.Snap s flush seat other = beginning_none at.Snap flush seat other
serving_none at.Restart s flush seat other = step_none at.Restart seat seat.doing other

starve_none : (event : NodeEvent Message) (seat : Seat) (doing : Doing) → event ≢ at.Device → MakesNone seat (starve_doing doing event seat)
starve_none event seat Stopped other = step_none event seat seat.doing other
starve_none event seat Faulted other = step_none event seat seat.doing other
starve_none event seat (Opening phase) other = awaiting_none event phase seat other
starve_none event seat (Serving s journal flush) other = serving_none event s flush seat other

-- ---- a device event makes at most one

open_one : (seat : Seat) (phase : Phase) → MakesOne seat (open_on seat phase)
open_one seat phase = by (after_opening_call seat.nodes seat.node (read_by (due_call phase) seat.areas) phase)
  where
    by : (after : After) → MakesOne seat (opens_on (called (after_call (due_call phase) seat.areas) seat) after)
    by (Goes next) = inr refl
    by (Opens area c) = inr refl
    by (Stops e) = inr refl

flush_one : (s : NodeState) (journal : Journaled) (seat : Seat) (flush : Flush) → MakesOne seat (flush_on s journal seat flush)
flush_one s journal seat Resting = inl refl
flush_one s journal seat Flushed = inl refl
flush_one s journal seat (Writing []) = inl refl
flush_one s journal seat (Writing (call ∷ [])) = inr refl
flush_one s journal seat (Writing (call ∷ next ∷ calls)) = inr refl
flush_one s journal seat (Switching []) = inl refl
flush_one s journal seat (Switching (call ∷ [])) = inr refl
flush_one s journal seat (Switching (call ∷ next ∷ calls)) = inr refl

step_one : (seat : Seat) (doing : Doing) → MakesOne seat (by_doing at.Device seat doing)
step_one seat Stopped = inl refl
step_one seat Faulted = inl refl
step_one seat (Opening phase) = open_one seat phase
step_one seat (Serving s journal flush) = flush_one s journal seat flush

starve_call_one : (call : Call) (seat : Seat) → MakesOne seat (starve_call call seat)
starve_call_one call seat = by (grows call seat.areas)
  where
    by : (longer : Bool) → MakesOne seat (if longer then fall after_starved call seat else seat_step at.Device seat)
    by true = inr refl
    by false = step_one seat seat.doing

starve_end_one : (seat : Seat) (areas : Areas) (after : After) → MakesOne seat (starve_end (called areas seat) after)
starve_end_one seat areas (Goes next) = inr refl
starve_end_one seat areas (Opens area c) = inr refl
starve_end_one seat areas (Stops e) = inr refl

starve_opening_one : (phase : Phase) (call : Call) (seat : Seat) → MakesOne seat (starve_opening phase call seat)
starve_opening_one phase (Read area) seat = inr refl
starve_opening_one phase (Write area from bytes) seat = starve_call_one (Write area from bytes) seat
starve_opening_one phase Sync seat = starve_end_one seat (synced seat.areas) (after_opening_call seat.nodes seat.node [] phase)

starve_flush_one : (flush : Flush) (seat : Seat) → MakesOne seat (starve_flush flush seat)
starve_flush_one Resting seat = step_one seat seat.doing
starve_flush_one Flushed seat = step_one seat seat.doing
starve_flush_one (Writing []) seat = step_one seat seat.doing
starve_flush_one (Writing (call ∷ calls)) seat = starve_call_one call seat
starve_flush_one (Switching []) seat = step_one seat seat.doing
starve_flush_one (Switching (call ∷ calls)) seat = starve_call_one call seat

starve_one : (doing : Doing) (seat : Seat) → MakesOne seat (starve_doing doing at.Device seat)
starve_one Stopped seat = step_one seat seat.doing
starve_one Faulted seat = step_one seat seat.doing
starve_one (Opening phase) seat = starve_opening_one phase (due_call phase) seat
starve_one (Serving s journal flush) seat = starve_flush_one flush seat

fail_one : (leaves : Call → Areas → Areas) (doing : Doing) (seat : Seat) → MakesOne seat (fail_doing leaves doing seat)
fail_one leaves Stopped seat = inl refl
fail_one leaves Faulted seat = inl refl
fail_one leaves (Opening phase) seat = inr refl
fail_one leaves (Serving s journal Resting) seat = inl refl
fail_one leaves (Serving s journal Flushed) seat = inl refl
fail_one leaves (Serving s journal (Writing [])) seat = inl refl
fail_one leaves (Serving s journal (Writing (call ∷ calls))) seat = inr refl
fail_one leaves (Serving s journal (Switching [])) seat = inl refl
fail_one leaves (Serving s journal (Switching (call ∷ calls))) seat = inr refl

-- ---- what was given

is_device : (event : NodeEvent Message) → (event ≡ at.Device) ⊎ (event ≢ at.Device)
is_device (at.Told input) = inr (λ e. cc)
is_device at.Take = inr (λ e. cc)
is_device at.Device = inl refl
is_device at.Mark = inr (λ e. cc)
is_device at.Send = inr (λ e. cc)
is_device at.Acknowledge = inr (λ e. cc)
is_device at.Snap = inr (λ e. cc)
is_device at.Restart = inr (λ e. cc)

-- an event that isn't a device event makes no device call
pub gives_none : (event : NodeEvent Message) (old new : Seat) (answer : Result Outcome Refusal) → Gives event old answer new → event ≢ at.Device → new.calls ≡ old.calls
gives_none event old new answer (inl is) other = subst (λ (x : Answer). MakesNone old x) (sym is) (step_none event old old.doing other)
gives_none event old new answer (inr is) other = subst (λ (x : Answer). MakesNone old x) (sym is) (starve_none event old old.doing other)

-- each makes at most one
pub gives_one : (event : NodeEvent Message) (old new : Seat) (answer : Result Outcome Refusal) → Gives event old answer new → AtMostOneCall old new
gives_one event old new answer gives = by (is_device event)
  where
    device : Gives at.Device old answer new → AtMostOneCall old new
    device (inl is) = subst (λ (x : Answer). MakesOne old x) (sym is) (step_one old old.doing)
    device (inr is) = subst (λ (x : Answer). MakesOne old x) (sym is) (starve_one old.doing old)

    by : (event ≡ at.Device) ⊎ (event ≢ at.Device) → AtMostOneCall old new
    by (inl is) = device (subst (λ (e : NodeEvent Message). Gives e old answer new) is gives)
    by (inr other) = inl (gives_none event old new answer gives other)

-- so does a failing device call
pub fails_one : (fill : List ℕ) (old new : Seat) (answer : Result Outcome Refusal) → Fails fill old answer new → AtMostOneCall old new
fails_one fill old new answer (inl is) = subst (λ (x : Answer). MakesOne old x) (sym is) (fail_one (after_failing fill) old.doing old)
fails_one fill old new answer (inr is) = subst (λ (x : Answer). MakesOne old x) (sym is) (fail_one (after_failing_starved fill) old.doing old)

-- ---- of the code's node

-- what was given to a node that was steady
pub gave : (n p : ℕ) (event : NodeEvent Message) (inside taken left last : code.Doing) (now : Seat) (answer : Result Outcome Refusal) → seat_of n p inside ≡ now → IsSteady n p inside → taken ≡ inside
    → Carries n p event taken answer left → last ≡ left → Gives event now answer (seat_of n p last)
gave n p event inside taken left last now answer is steady same carries after =
    let here = (carries (subst (λ (d : code.Doing). IsSteady n p d) (sym same) steady)).0 in
    subst (λ (s : Seat). Gives event s answer (seat_of n p last)) is
    (subst (λ (d : code.Doing). Gives event (seat_of n p inside) answer (seat_of n p d)) (sym after) (subst (λ (d : code.Doing). Gives event (seat_of n p d) answer (seat_of n p left)) same here))

pub gave_failing : (n p : ℕ) (fill : List ℕ) (inside taken left last : code.Doing) (now : Seat) (answer : Result Outcome Refusal) → seat_of n p inside ≡ now → IsSteady n p inside → taken ≡ inside
    → CarriesFailing n p fill taken answer left → last ≡ left → Fails fill now answer (seat_of n p last)
gave_failing n p fill inside taken left last now answer is steady same carries after =
    let here = (carries (subst (λ (d : code.Doing). IsSteady n p d) (sym same) steady)).0 in
    subst (λ (s : Seat). Fails fill s answer (seat_of n p last)) is
    (subst (λ (d : code.Doing). Fails fill (seat_of n p inside) answer (seat_of n p d)) (sym after) (subst (λ (d : code.Doing). Fails fill (seat_of n p d) answer (seat_of n p left)) same here))

-- equal parts carry alike
pub carried : (n p : ℕ) (event made : NodeEvent Message) (old was new now : code.Doing) (answer : Result Outcome Refusal) → event ≡ made → old ≡ was → new ≡ now → Carries n p made was answer now → Carries n p event old answer new
carried n p event made old was new now answer same before after h =
    subst (λ (x : NodeEvent Message). Carries n p x old answer new) (sym same)
    (subst (λ (d : code.Doing). Carries n p made d answer new) (sym before) (subst (λ (d : code.Doing). Carries n p made was answer d) (sym after) h))

-- ---- of a quiet event

module _ (n p : ℕ) (event : NodeEvent Message) (inside last : code.Doing) (now : Seat) (is : seat_of n p inside ≡ now) (steady : IsSteady n p inside) where
  -- what it gave to a node that was steady
  pub gave_quietly : (r : Option (Result (Unit {0}) Refusal)) → CarriesQuietly event inside r last → IfSome r (λ answer. Gives event now (quiet answer) (seat_of n p last))
  gave_quietly None carries = tt
  gave_quietly (Some answer) carries = subst (λ (s : Seat). Gives event s (quiet answer) (seat_of n p last)) is (carries n p steady).0

  -- the node is steady behind it
  pub steady_quietly : (r : Option (Result (Unit {0}) Refusal)) → CarriesQuietly event inside r last → IsSteady n p last
  steady_quietly None carries = subst (λ (d : code.Doing). IsSteady n p d) (sym carries) steady
  steady_quietly (Some answer) carries = (carries n p steady).1

  -- where it gave nothing the node is as it was
  pub kept_quietly : (r : Option (Result (Unit {0}) Refusal)) → CarriesQuietly event inside r last → r ≡ None → seat_of n p last ≡ now
  kept_quietly None carries none = ap (seat_of n p) carries ∙ is
  kept_quietly (Some answer) carries none = absurd (cc)

  -- it made at most one device call, and none but by a device event
  pub one_quietly : (r : Option (Result (Unit {0}) Refusal)) → CarriesQuietly event inside r last → AtMostOneCall now (seat_of n p last)
  one_quietly None carries = inl (ap (λ (s : Seat). s.calls) (kept_quietly None carries refl))
  one_quietly (Some answer) carries = gives_one event now (seat_of n p last) (quiet answer) (gave_quietly (Some answer) carries)

  pub none_quietly : (r : Option (Result (Unit {0}) Refusal)) → CarriesQuietly event inside r last → event ≢ at.Device → (seat_of n p last).calls ≡ now.calls
  none_quietly None carries other = ap (λ (s : Seat). s.calls) (kept_quietly None carries refl)
  none_quietly (Some answer) carries other = gives_none event now (seat_of n p last) (quiet answer) (gave_quietly (Some answer) carries) other
