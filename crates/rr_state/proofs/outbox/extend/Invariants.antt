use Rattle.std.proofs.Common.{◌≡◌, ◌+◌, ◌-◌, ◌≤◌, ◌++◌, length, take, deque_len, deque_capacity}
use Rattle.rr_state.proofs.outbox.extend.Given as goal

-- the room that is left suffices for those to come
abbrev pub invariant-loop-one : goal.invariant-loop-one
invariant-loop-one l =
    (l.owed.items ≡ l.initial.owed.items ++ take l.one-index l.more)
    × (deque_len l.owed + (length l.more - l.one-index) ≤ deque_capacity l.owed)
