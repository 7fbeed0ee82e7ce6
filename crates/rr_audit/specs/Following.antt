-- What the calls of a replay answer to an event of a tape.
use Rattle.std.specs.Prelude.{◌≡◌, ℕ, List, Option, None, Some, Result, Ok, Err}
use Rattle.rr_types.specs.declared.message.Message.{Message}
use Rattle.rr_types.specs.declared.refusal.Refusal.{Refusal}
use Rattle.rr_types.specs.declared.refusal.Refusal.TheVariants.{OutOfMemory}
use Rattle.rr_model.specs.NodeLaws.{StateEvent, after_event}
use Rattle.rr_model.specs.NodeState.{NodeState}
use Rattle.rr_text.specs.declared.tape_event.TapeEvent.{TapeEvent}
use Rattle.rr_audit.specs.declared.given.Given.{Given}
use Rattle.rr_model.specs.World.{Step}
use Rattle.rr_audit.specs.declared.progress.Progress.{Progress}
use Rattle.rr_audit.specs.Audits.{Replay, IsNextAt, IsNext, replayed, new_replay, Leads, StopsAt}

-- nothing else is given where the node gives it, and then it is in its next state
abbrev pub Tells : Type 0 → NodeState → NodeState → Option Given → Type 0
Tells Gives next new None = Gives × (new ≡ next)
Tells Gives next new (Some given) = Gives → ⊥

-- the same where memory may be wanting
abbrev pub Answers : Type 0 → NodeState → NodeState → Result (Option Given) Refusal → Type 0
Answers Gives next new (Ok given) = Tells Gives next new given
Answers Gives next new (Err e) = e ≡ OutOfMemory

-- a node followed an event of the tape over this wire: it did what is next, or the event isn't next, or memory was wanting
abbrev pub FollowsAt : List Message → TapeEvent → NodeState → NodeState → Result (Option Given) Refusal → Type 0
FollowsAt wire e old new (Ok None) = (does : StateEvent) × IsNextAt wire old e does × (new ≡ after_event old does)
FollowsAt wire e old new (Ok (Some given)) = (does : StateEvent) → IsNextAt wire old e does → ⊥
FollowsAt wire e old new (Err refusal) = refusal ≡ OutOfMemory

-- the same of all nodes and their wire
abbrev pub Steps : TapeEvent → Replay → Replay → Result (Option Given) Refusal → Type 0
Steps e old new (Ok None) = (next : IsNext old e) × (new ≡ replayed e next.state next.does old)
Steps e old new (Ok (Some given)) = IsNext old e → ⊥
Steps e old new (Err refusal) = refusal ≡ OutOfMemory

-- the events so far lead from n new nodes to here, or the one of this number is the first that isn't next
abbrev pub IsFoundSoFar : ℕ → List TapeEvent → Replay → Option (ℕ × ℕ × Given) → Type 0
IsFoundSoFar n events here None = (steps : List Step) × Leads events (new_replay n) steps here
IsFoundSoFar n events here (Some (number, node, given)) = StopsAt n events number

-- the same of an audit that goes on
abbrev pub IsUnderWay : ℕ → List TapeEvent → Progress → Type 0
IsUnderWay n events progress = IsFoundSoFar n events progress.replay progress.stopped
