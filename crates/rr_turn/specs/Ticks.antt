-- When a node ticks, and when one enters the next round that gets no further.
use Rattle.std.specs.Prelude.{ℕ, ◌+◌, ◌-◌, ◌*◌, ◌/◌, min, max, Bool, true, false, not, ◌&&◌, ◌==◌, nat_le, nat_lt, if◌then◌else◌}
use Rattle.rr_turn.specs.declared.standstill.Found.{Found}

-- when a node ticked last by its clock, and how long after a tick the next is due, both in nanoseconds
pub record Ticks : Type 0 where
  pub last : ℕ
  pub period : ℕ

-- at this time a period or more lies behind the last tick
abbrev pub is_tick_due : ℕ → Ticks → Bool
is_tick_due now t = nat_le t.period (now - t.last)

-- after a look at the clock at this time: a tick that is due is made
abbrev pub ticks_after : ℕ → Ticks → Ticks
ticks_after now t = if is_tick_due now t then record t { last = now } else t

-- how long it is from this time until a tick is due
abbrev pub until_tick : ℕ → Ticks → ℕ
until_tick now t = t.period - (now - t.last)

-- how many commands were decided and facts marked at a node's last tick; how many ticks in a row have found no more, of how many that it
-- waits for; and whether it has moved, which is to say marked a fact, since it was to advance last
pub record Standstill : Type 0 where
  pub decided : ℕ
  pub facts : ℕ
  pub ticks : ℕ
  pub wait : ℕ
  pub has_moved : Bool

-- a node waits so many ticks at least before it advances, so many where it has seen no majority, and so many at most
abbrev pub first_wait : ℕ
first_wait = 4

abbrev pub patient_wait : ℕ
patient_wait = 16

abbrev pub longest_wait : ℕ
longest_wait = 128

-- a standstill that begins at what a tick finds
abbrev pub still_from : Found → ℕ → Standstill
still_from f wait = record { decided = f.decided; facts = f.facts; ticks = 0; wait = wait; has_moved = true }

-- this tick, which finds no more, is the last one of a wait
abbrev pub ends_wait : Standstill → Bool
ends_wait s = nat_le s.wait (s.ticks + 1)

-- a tick is the last one of a wait, finds a majority and no more than the one before, and the node has moved
abbrev pub is_advance_due : Found → Standstill → Bool
is_advance_due f s = f.has_majority && (f.decided == s.decided) && (f.facts == s.facts) && ends_wait s && s.has_moved

-- the standstill behind the last tick of a wait: the next wait is twice as long, if the node has moved
abbrev pub waited : Standstill → Standstill
waited s = record s { ticks = 0; wait = (if s.has_moved then min (2 * s.wait) longest_wait else first_wait); has_moved = false }

-- the standstill after a tick that finds this: behind a decision the wait is half as long
abbrev pub standstill_after : Found → Standstill → Standstill
standstill_after f s =
    if not f.has_majority then still_from f patient_wait
    else (if not (f.decided == s.decided) then still_from f (max first_wait (s.wait / 2))
    else (if not (f.facts == s.facts) then record s { facts = f.facts; ticks = 0; has_moved = true }
    else (if ends_wait s then waited s else record s { ticks = s.ticks + 1 })))

-- its last tick found no more than the one before
abbrev pub is_idle : Standstill → Bool
is_idle s = nat_lt 0 s.ticks

-- the standstill of a node that is behind others: the next tick is the last one of its wait
abbrev pub hurried : Standstill → Standstill
hurried s = record s { ticks = s.wait - 1 }

-- the standstill of a node that waits for others: its wait begins anew
abbrev pub held : Standstill → Standstill
held s = record s { ticks = 0 }
