-- What a node answers where memory is wanting is told from what it answers where memory is there, or is the same.
use Rattle.std.proofs.Common.{◌≡◌, ◌⊎◌, inl, inr, ℕ, Bool, true, false, List, [], ◌∷◌, Err, Option, None, Some, refl, ap, sym, ◌∙◌}
use Rattle.std.specs.Prelude.{if◌then◌else◌}
use Rattle.rr_types.specs.declared.refusal.Refusal.{Refusal}
use Rattle.rr_types.specs.declared.refusal.Refusal.TheVariants as because
use Rattle.rr_model.specs.NodeState.{NodeState}
use Rattle.rr_types.specs.declared.input.Input.{Input}
use Rattle.rr_model.specs.NodeStep.{input_refusal, refusal_of}
use Rattle.rr_journal.specs.Calls.{Call, Read, Write, Sync, after_call, after_starved, after_failing}
use Rattle.rr_journal.specs.Openings.{Phase, After, Goes, Opens, Stops, due_call, after_opening_call}
use Rattle.rr_types.specs.declared.event.NodeEvent.{NodeEvent}
use Rattle.rr_types.specs.declared.message.Message.{Message}
use Rattle.rr_types.specs.declared.event.NodeEvent.TheVariants as node
use Rattle.rr_node.specs.Seats.{Flush, Resting, Writing, Flushed, Switching, Doing, Stopped, Faulted, Opening, Serving, Journaled, Seat, Answer, called, read_by, opens_on, told, by_doing, seat_step, fall, grows, starve, starve_doing, starve_input, starve_serving, starve_marking, starve_beginning, starve_awaiting, starve_opening, starve_end, starve_call, starve_flush, fail_flush, fail_doing, seat_fails, starve_fails, after_failing_starved}

-- the answer is a refusal for want of memory, or by the device
pub record IsWanting (answer : Answer) : Type 0 where
  pub refusal : Refusal
  pub wants : (refusal ≡ because.OutOfMemory) ⊎ (refusal ≡ because.Device)
  pub is : answer.0 ≡ Err refusal

-- an answer is such a refusal, or that where memory is there
abbrev pub WantsOrSame : NodeEvent Message → Seat → Answer → Type 0
WantsOrSame event seat answer = IsWanting answer ⊎ (answer ≡ seat_step event seat)

no_memory : (answer : Answer) → answer.0 ≡ Err because.OutOfMemory → IsWanting answer
no_memory answer e = record { refusal = because.OutOfMemory; wants = inl refl; is = e }

no_device : (answer : Answer) → answer.0 ≡ Err because.Device → IsWanting answer
no_device answer e = record { refusal = because.Device; wants = inr refl; is = e }

-- a write or a sync fails where it makes its area longer, and is as it is with memory else
by_growth : (b : Bool) (call : Call) (seat : Seat) → WantsOrSame node.Device seat (if b then fall after_starved call seat else seat_step node.Device seat)
by_growth true call seat = inl (no_device _ refl)
by_growth false call seat = inr refl

wanting_call : (call : Call) (seat : Seat) → WantsOrSame node.Device seat (starve_call call seat)
wanting_call call seat = by_growth (grows call seat.areas) call seat

wanting_flush : (flush : Flush) (seat : Seat) → WantsOrSame node.Device seat (starve_flush flush seat)
wanting_flush Resting seat = inr refl
wanting_flush Flushed seat = inr refl
wanting_flush (Writing []) seat = inr refl
wanting_flush (Writing (call ∷ calls)) seat = wanting_call call seat
wanting_flush (Switching []) seat = inr refl
wanting_flush (Switching (call ∷ calls)) seat = wanting_call call seat

wanting_end : (seat next : Seat) (after : After) → opens_on next after ≡ seat_step node.Device seat → WantsOrSame node.Device seat (starve_end next after)
wanting_end seat next (Goes phase) same = inr same
wanting_end seat next (Opens area c) same = inl (no_memory _ refl)
wanting_end seat next (Stops e) same = inr same

wanting_opening : (phase : Phase) (seat : Seat) → seat.doing ≡ Opening phase → (call : Call) → due_call phase ≡ call → WantsOrSame node.Device seat (starve_opening phase call seat)
wanting_opening phase seat opens (Read area) due = inl (no_memory _ refl)
wanting_opening phase seat opens (Write area at bytes) due = wanting_call (Write area at bytes) seat
wanting_opening phase seat opens Sync due =
    wanting_end seat (called (after_call Sync seat.areas) seat) (after_opening_call seat.nodes seat.node [] phase)
    (ap (λ (call : Call). opens_on (called (after_call call seat.areas) seat) (after_opening_call seat.nodes seat.node (read_by call seat.areas) phase)) (sym due)
    ∙ ap (by_doing node.Device seat) (sym opens))

wanting_awaiting : (phase : Phase) (event : NodeEvent Message) (seat : Seat) → seat.doing ≡ Opening phase → WantsOrSame event seat (starve_awaiting phase event seat)
wanting_awaiting phase node.Device seat opens = wanting_opening phase seat opens (due_call phase) refl
wanting_awaiting phase (node.Told input) seat opens = inr refl
wanting_awaiting phase node.Take seat opens = inr refl
wanting_awaiting phase node.Mark seat opens = inr refl
wanting_awaiting phase node.Send seat opens = inr refl
wanting_awaiting phase node.Acknowledge seat opens = inr refl
wanting_awaiting phase node.Snap seat opens = inr refl
wanting_awaiting phase node.Restart seat opens = inr refl

wanting_beginning : (flush : Flush) (event : NodeEvent Message) (seat : Seat) → WantsOrSame event seat (starve_beginning flush event seat)
wanting_beginning Resting event seat = inl (no_memory _ refl)
wanting_beginning (Writing calls) event seat = inr refl
wanting_beginning Flushed event seat = inr refl
wanting_beginning (Switching calls) event seat = inr refl

wanting_marking : (flush : Flush) (seat : Seat) → WantsOrSame node.Mark seat (starve_marking flush seat)
wanting_marking Resting seat = inr refl
wanting_marking (Writing calls) seat = inr refl
wanting_marking Flushed seat = inl (no_memory _ refl)
wanting_marking (Switching calls) seat = inr refl

refused_for : (input : Input Message) (s : NodeState) (why : Refusal) → input_refusal input s ≡ Some why → refusal_of input s ≡ Some why
unfolding refusal_of
refused_for input s why e = rw e refl

-- an input that is refused for what it is is refused for that where memory is wanting too
wanting_input : (input : Input Message) (event : NodeEvent Message) (s : NodeState) (journal : Journaled) (flush : Flush) (seat : Seat) → seat_step event seat ≡ told input s journal flush seat → WantsOrSame event seat (starve_input input s seat)
wanting_input input event s journal flush seat steps = by (input_refusal input s) refl
  where
    by : (o : Option Refusal) → input_refusal input s ≡ o → WantsOrSame event seat (starve_input input s seat)
    by None e = inl (no_memory _ (rw e refl))
    by (Some why) e = inr (sym (steps ∙ rw (refused_for input s why e, e) refl))

wanting_serving : (s : NodeState) (journal : Journaled) (flush : Flush) (event : NodeEvent Message) (seat : Seat) → seat.doing ≡ Serving s journal flush → WantsOrSame event seat (starve_serving s flush event seat)
wanting_serving s journal flush (node.Told input) seat does = wanting_input input (node.Told input) s journal flush seat (ap (by_doing (node.Told input) seat) does)
wanting_serving s journal flush node.Take seat does = wanting_beginning flush node.Take seat
wanting_serving s journal flush node.Device seat does = wanting_flush flush seat
wanting_serving s journal flush node.Mark seat does = wanting_marking flush seat
wanting_serving s journal flush node.Send seat does = inr refl
wanting_serving s journal flush node.Acknowledge seat does = inr refl
wanting_serving s journal flush node.Snap seat does = wanting_beginning flush node.Snap seat
wanting_serving s journal flush node.Restart seat does = inr refl

wanting_doing : (doing : Doing) (event : NodeEvent Message) (seat : Seat) → seat.doing ≡ doing → WantsOrSame event seat (starve_doing doing event seat)
wanting_doing Stopped event seat does = inr refl
wanting_doing Faulted event seat does = inr refl
wanting_doing (Opening phase) event seat does = wanting_awaiting phase event seat does
wanting_doing (Serving s journal flush) event seat does = wanting_serving s journal flush event seat does

-- each answer where memory is wanting is such a refusal, or the answer where it is there
pub wanting_or_same : (event : NodeEvent Message) (seat : Seat) → IsWanting (starve event seat) ⊎ (starve event seat ≡ seat_step event seat)
wanting_or_same event seat = wanting_doing seat.doing event seat refl

-- a failing device call is refused by the device, whatever it leaves; where none is due nothing differs
flush_fails : (fill : List ℕ) (flush : Flush) (seat : Seat) → IsWanting (fail_flush (after_failing_starved fill) flush seat) ⊎ (fail_flush (after_failing_starved fill) flush seat ≡ fail_flush (after_failing fill) flush seat)
flush_fails fill Resting seat = inr refl
flush_fails fill Flushed seat = inr refl
flush_fails fill (Writing []) seat = inr refl
flush_fails fill (Writing (call ∷ calls)) seat = inl (no_device _ refl)
flush_fails fill (Switching []) seat = inr refl
flush_fails fill (Switching (call ∷ calls)) seat = inl (no_device _ refl)

doing_fails : (fill : List ℕ) (doing : Doing) (seat : Seat) → IsWanting (fail_doing (after_failing_starved fill) doing seat) ⊎ (fail_doing (after_failing_starved fill) doing seat ≡ fail_doing (after_failing fill) doing seat)
doing_fails fill Stopped seat = inr refl
doing_fails fill Faulted seat = inr refl
doing_fails fill (Opening phase) seat = inl (no_device _ refl)
doing_fails fill (Serving s journal flush) seat = flush_fails fill flush seat

pub failing_or_same : (fill : List ℕ) (seat : Seat) → IsWanting (starve_fails fill seat) ⊎ (starve_fails fill seat ≡ seat_fails fill seat)
failing_or_same fill seat = doing_fails fill seat.doing seat
