-- How a node that is far behind gets what was decided: each time that it hears a message of an instance far ahead, it asks for
-- its first undecided one. So it hears one such message, its key, again behind each answer.
use Rattle.std.specs.Prelude.{ℕ, ◌+◌, ◌-◌, max, Bool, true, false, ◌&&◌, ◌||◌, ◌==◌, not, nat_le, nat_lt, if◌then◌else◌, Option, None, Some, is_some}
use Rattle.rr_types.specs.declared.message.Body.{Body}
use Rattle.rr_types.specs.declared.message.Body.TheVariants.{Estimate, Proposal, Decision, Ask}
use Rattle.rr_types.specs.declared.message.Message.{Message}
use Rattle.rr_host.specs.declared.chase.Hearing.{Hearing}
use Rattle.rr_host.specs.declared.chase.Hearing.TheVariants.{Alone, Nothing, After, Before}

-- an estimate, a proposal or a decision, and its instance
pub record Placed : Type 0 where
  pub instance : ℕ
  pub message : Message

-- the key; the decision that is held back, and for how many ticks more it waits for a key; the instance that was asked for
-- last; from which on none is answered; and how many commands were decided at the last look
pub record Chase : Type 0 where
  pub key : Option Placed
  pub held : Option Placed
  pub left : ℕ
  pub asked : ℕ
  pub answered : ℕ
  pub seen : ℕ

-- instance i lies above that of a message, if there is one
abbrev pub is_above : ℕ → Option Placed → Bool
is_above i None = true
is_above i (Some p) = nat_lt p.instance i

-- instance i is that of a message
abbrev pub is_of : ℕ → Option Placed → Bool
is_of i None = false
is_of i (Some p) = i == p.instance

-- instance i lies 16 or more above what is decided and asked for here
abbrev pub is_far : ℕ → ℕ → Chase → Bool
is_far decided i c = nat_le (max decided c.asked + 16) i

-- instance i lies far ahead, and above the key: its estimate or proposal becomes the key
abbrev pub is_next : ℕ → ℕ → Chase → Bool
is_next decided i c = is_far decided i c && is_above i c.key

-- the decision of instance i is held back: a node that has it would not ask where it hears what is, or may become, the key
abbrev pub is_held : ℕ → ℕ → Chase → Bool
is_held decided i c = is_of i c.key || is_next decided i c

-- the decision of instance i is the first answer to the last ask
abbrev pub is_answer : ℕ → Chase → Bool
is_answer i c = i == c.asked && nat_le c.answered i

-- where so many are decided, the key isn't open, and wasn't with one more
abbrev pub is_beyond : ℕ → Option Placed → Bool
is_beyond decided None = false
is_beyond decided (Some k) = nat_lt (decided + 8) k.instance

-- what is held back waits for its key: it lies far ahead still, and ticks are left
abbrev pub is_waiting : ℕ → Option Placed → Chase → Bool
is_waiting decided None c = false
is_waiting decided (Some p) c = nat_lt 0 c.left && is_far decided p.instance c

-- the message, if there is one
abbrev pub message_of : Option Placed → Option Message
message_of None = None
message_of (Some p) = Some p.message

-- what was held back, unless it waits, and the chase then
abbrev pub released : ℕ → Chase → Option Message
released decided c = if is_waiting decided c.held c then None else message_of c.held

abbrev pub chase_released : ℕ → Chase → Chase
chase_released decided c = if is_waiting decided c.held c then c else record c { held = None }

-- what is heard again where so many are decided: the key while it lies beyond; afterwards, once, what was held back
abbrev pub again : ℕ → Chase → Option Message
again decided c = if is_beyond decided c.key then message_of c.key else released decided c

-- the chase then: it ends where the key lies beyond no more
abbrev pub chase_again : ℕ → Chase → Chase
chase_again decided c = if is_beyond decided c.key then c else chase_released decided (record c { key = None })

-- the chase at a tick
abbrev pub chase_ticked : Chase → Chase
chase_ticked c = record c { left = c.left - 1 }

-- a node that has a key has more decided than at the last look
abbrev pub is_gaining : ℕ → Chase → Bool
is_gaining decided c = is_some c.key && nat_lt c.seen decided

-- a message alone, or this before it
abbrev pub behind : Option Message → Hearing
behind None = Alone
behind (Some s) = After s

-- a message alone, or this behind it
abbrev pub with_next : Option Message → Hearing
with_next None = Alone
with_next (Some s) = Before s

-- the ask for instance i is answered
abbrev pub answered_at : ℕ → Chase → Chase
answered_at i c = record c { answered = i + 1 }

-- what is heard where an estimate or a proposal of instance i comes and so many are decided: as the next key it comes behind a
-- decision below it that was held back
abbrev pub heard_of_opening : ℕ → ℕ → Chase → Hearing
heard_of_opening decided i c = if is_next decided i c && is_above i c.held then behind (message_of c.held) else Alone

-- the chase with this key
abbrev pub with_key : ℕ → Message → Chase → Chase
with_key i s c = record c { key = Some (record { instance = i; message = s }); held = if is_above i c.held then None else c.held }

-- the chase then: the next key is the key
abbrev pub chase_of_opening : ℕ → ℕ → Message → Chase → Chase
chase_of_opening decided i s c = if is_next decided i c then with_key i s c else c

-- the chase that holds back this decision, for five ticks at least: of two the higher
abbrev pub with_held : ℕ → Message → Chase → Chase
with_held i s c = if is_above i c.held then record c { held = Some (record { instance = i; message = s }); left = 5 } else c

-- what is heard where the decision of instance i comes and so many are decided: nothing, if it is held back; the first answer
-- to the last ask brings what is heard again
abbrev pub heard_of_decision : ℕ → ℕ → Chase → Hearing
heard_of_decision decided i c = if is_held decided i c then Nothing else if is_answer i c then with_next (again i c) else Alone

-- the chase then
abbrev pub chase_of_decision : ℕ → ℕ → Message → Chase → Chase
chase_of_decision decided i s c = if is_held decided i c then with_held i s c else if is_answer i c then chase_again i (answered_at i c) else c

-- a message that comes where so many are decided is heard alone, and the chase stays as it is
abbrev pub is_plain : ℕ → Body → Chase → Bool
is_plain decided (Estimate i e) c = not (is_next decided i c)
is_plain decided (Proposal i r x) c = not (is_next decided i c)
is_plain decided (Decision i x) c = not (is_held decided i c || is_answer i c)
is_plain decided _ c = true

-- what is heard where a message comes and so many are decided
abbrev pub heard_of : ℕ → Body → Chase → Hearing
heard_of decided (Estimate i e) c = heard_of_opening decided i c
heard_of decided (Proposal i r x) c = heard_of_opening decided i c
heard_of decided (Decision i x) c = heard_of_decision decided i c
heard_of decided _ c = Alone

-- the chase then
abbrev pub chase_of : ℕ → Body → Message → Chase → Chase
chase_of decided (Estimate i e) s c = chase_of_opening decided i s c
chase_of decided (Proposal i r x) s c = chase_of_opening decided i s c
chase_of decided (Decision i x) s c = chase_of_decision decided i s c
chase_of decided _ s c = c

-- the chase once the node has sent a message: it knows what it asked for
abbrev pub chase_sent : Body → Chase → Chase
chase_sent (Ask i) c = record c { asked = i }
chase_sent _ c = c
