-- What a node's thread calls in the parts of a turn, as a function of the node's state and of what it was answered.
use Rattle.std.specs.Prelude.{ℕ, zero, suc, ◌+◌, ◌++◌, ◌∷◌, [], Bool, true, false, ◌==◌, not, nat_le, count_ones, if◌then◌else◌, List, length, Option, None, Some, Result, Ok, Err, is_some}
use Rattle.std.specs.Option.{option_map_or}
use Rattle.rr_types.specs.Nodes.{has_member, with_member, without_member}
use Rattle.rr_types.specs.Rounds.{majority_of}
use Rattle.rr_types.specs.declared.message.Message.{Message}
use Rattle.rr_types.specs.declared.message.Body.{Body}
use Rattle.rr_types.specs.declared.message.Body.TheVariants.{Beat, Suspects}
use Rattle.rr_types.specs.declared.input.Input.TheVariants.{Hear, Tick, Advance}
use Rattle.rr_types.specs.declared.refusal.Refusal.{Refusal}
use Rattle.rr_types.specs.declared.refusal.Refusal.TheVariants.{RoundsOut}
use Rattle.rr_types.specs.Groups.{Grouped}
use Rattle.rr_model.specs.NodeState.{NodeState, decided_prefix}
use Rattle.rr_model.specs.NodeStep.{node_step, advance_refusal, next_leaving, message_left}
use Rattle.rr_turn.specs.Recorded.{Sent}
use Rattle.rr_turn.specs.Chases.{Chase, heard_of, chase_of, chase_sent, again, chase_again, chase_ticked, is_gaining}
use Rattle.rr_turn.specs.declared.standstill.Found.{Found}
use Rattle.rr_turn.specs.Ticks.{Standstill, is_advance_due, standstill_after}
use Rattle.rr_turn.specs.declared.chase.Hearing.{Hearing}
use Rattle.rr_turn.specs.declared.chase.Hearing.TheVariants.{Alone, Nothing, After, Before}
use Rattle.rr_turn.specs.Asked.{Call, tells, hears, leaves, puts, rings, takes, hands, wakes_flusher}

-- the messages that may leave, oldest first, at most so many
unfoldable pub leaving : ℕ → NodeState → List Message
leaving zero s = []
leaving (suc n) s = option_map_or (λ m. m ∷ leaving n (message_left s)) (next_leaving s) []

-- the state once they have left
unfoldable pub left : ℕ → NodeState → NodeState
left zero s = s
left (suc n) s = option_map_or (λ m. left n (message_left s)) (next_leaving s) s

-- a message is put to its receiver
abbrev pub put_of : Sent → Call
put_of sent = puts sent.message.to sent

-- a message is worth waking its receiver, unless it says that its sender is up and suspects nobody
abbrev pub wakes : Body → Bool
wakes Beat = false
wakes (Suspects set) = not (set == 0)
wakes _ = true

-- who is woken, beside these, by a message
abbrev pub woken_by : ℕ → Sent → ℕ
woken_by set sent = if wakes sent.message.body then with_member set sent.message.to else set

-- who is woken, beside these, by messages
abbrev pub woken_with : ℕ → List Sent → ℕ
woken_with set [] = set
woken_with set (sent ∷ sents) = woken_with (woken_by set sent) sents

-- the chase once a message is sent
abbrev pub noted_one : Sent → Chase → Chase
noted_one sent c = chase_sent sent.message.body c

-- the chase once messages are sent
abbrev pub noted : List Sent → Chase → Chase
noted [] c = c
noted (sent ∷ sents) c = noted sents (noted_one sent c)

-- of so many nodes, from one on, those of a set are rung, lowest first
unfoldable pub rings_from : ℕ → ℕ → ℕ → List Call
rings_from zero p set = []
rings_from (suc n) p set = if has_member set p then rings p ∷ rings_from n (p + 1) set else rings_from n (p + 1) set

-- the state once so many messages have left
abbrev pub left_after : List Sent → NodeState → NodeState
left_after [] s = s
left_after (sent ∷ sents) s = left_after sents (message_left s)

-- each of these leaves the node, and is put to its receiver
abbrev pub puts_each : List Sent → NodeState → List Call
puts_each [] s = []
puts_each (sent ∷ sents) s = leaves s (Some sent) ∷ put_of sent ∷ puts_each sents (message_left s)

-- of at most so many; where they are fewer, no more may leave
abbrev pub putting : ℕ → List Sent → NodeState → List Call
putting most sents s = puts_each sents s ++ (if length sents == most then [] else leaves (left_after sents s) None ∷ [])

-- the state once a message is heard, and what its chase has it hear
abbrev pub heard_by : Hearing → Message → NodeState → NodeState
heard_by Alone m s = node_step (Hear m) s
heard_by Nothing m s = s
heard_by (After held) m s = node_step (Hear m) (node_step (Hear held.message) s)
heard_by (Before next) m s = node_step (Hear next.message) (node_step (Hear m) s)

-- the calls by which it hears them
abbrev pub hearing : Hearing → Sent → NodeState → List Call
hearing Alone sent s = hears s sent ∷ []
hearing Nothing sent s = []
hearing (After held) sent s = hears s held ∷ hears (node_step (Hear held.message) s) sent ∷ []
hearing (Before next) sent s = hears s sent ∷ hears (node_step (Hear sent.message) s) next ∷ []

-- the state once a message has come, the chase then, and the calls
abbrev pub met : Sent → NodeState → Chase → NodeState
met sent s c = heard_by (heard_of (length (decided_prefix s)) sent.message.body c) sent.message s

abbrev pub met_chase : Sent → NodeState → Chase → Chase
met_chase sent s c = chase_of (length (decided_prefix s)) sent.message.body sent c

abbrev pub meeting : Sent → NodeState → Chase → List Call
meeting sent s c = hearing (heard_of (length (decided_prefix s)) sent.message.body c) sent s

-- the state once these have come, in this order, and the chase then
abbrev pub all_met : List Sent → NodeState → Chase → NodeState
all_met [] s c = s
all_met (sent ∷ sents) s c = all_met sents (met sent s c) (met_chase sent s c)

abbrev pub all_met_chase : List Sent → NodeState → Chase → Chase
all_met_chase [] s c = c
all_met_chase (sent ∷ sents) s c = all_met_chase sents (met sent s c) (met_chase sent s c)

-- each is taken, and met before the next is taken
abbrev pub takes_each : List Sent → NodeState → Chase → List Call
takes_each [] s c = []
takes_each (sent ∷ sents) s c = takes (Some sent) ∷ (meeting sent s c ++ takes_each sents (met sent s c) (met_chase sent s c))

-- of at most so many; where they are fewer, there was none any more
abbrev pub taking : ℕ → List Sent → NodeState → Chase → List Call
taking most sents s c = takes_each sents s c ++ (if length sents == most then [] else takes None ∷ [])

-- the group that a node gives by its answer, if there is one
abbrev pub given : Result (Option Grouped) Refusal → Option Grouped
given (Ok group) = group
given (Err e) = None

-- a group goes to the flusher, who is rung
abbrev pub giving : Option Grouped → List Call
giving None = []
giving (Some group) = hands group ∷ wakes_flusher ∷ []

-- the state once the chase has the node hear again what it may, and the calls
abbrev pub heard_again : NodeState → Chase → NodeState
heard_again s c = option_map_or (λ sent. node_step (Hear sent.message) s) (again (length (decided_prefix s)) (chase_ticked c)) s

abbrev pub hearing_again : NodeState → Chase → List Call
hearing_again s c = option_map_or (λ sent. hears s sent ∷ []) (again (length (decided_prefix s)) (chase_ticked c)) []

-- whether a node that is due to tick doesn't, since it catches up
abbrev pub is_catching_up : NodeState → Chase → Bool
is_catching_up s c = is_gaining (length (decided_prefix s)) (chase_again (length (decided_prefix s)) (chase_ticked c))

-- the next round of the lowest open instance is entered, unless that is in the last
abbrev pub advancing : NodeState → List Call
advancing s = tells s Advance (if is_some (advance_refusal s) then Err RoundsOut else Ok tt) ∷ []

-- what a node finds at a tick; it disregards itself among its suspects
abbrev pub found_in : NodeState → Found
found_in s = record {
  decided = length (decided_prefix s);
  facts = s.marked_end;
  has_majority = nat_le (majority_of s.nodes + count_ones (without_member s.suspects s.node)) s.nodes;
}

-- a tick, and an advance where one is due
abbrev pub beating : NodeState → Standstill → List Call
beating s k = tells s Tick (Ok tt) ∷ (let t = node_step Tick s in if is_advance_due (found_in t) k then advancing t else [])

-- a tick is due: the node hears again what the chase has, and ticks, unless it is catching up
abbrev pub ticking : NodeState → Chase → Standstill → List Call
ticking s c k = hearing_again s c ++ (if is_catching_up s c then [] else beating (heard_again s c) k)

-- the chase then
abbrev pub ticked_chase : NodeState → Chase → Chase
ticked_chase s c = record (chase_again (length (decided_prefix s)) (chase_ticked c)) { seen = length (decided_prefix s) }

-- the standstill then
abbrev pub ticked_standstill : NodeState → Chase → Standstill → Standstill
ticked_standstill s c k = if is_catching_up s c then k else standstill_after (found_in (node_step Tick (heard_again s c))) k
