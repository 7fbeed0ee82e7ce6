-- A node's failure detectors: watches that count ticks between beats, and the reduction of what others suspect.
use Rattle.std.specs.Prelude.{ℕ, zero, suc, ◌+◌, ◌^◌, Bool, not, ◌&&◌, ◌==◌, nat_lt, min, if◌then◌else◌, List, [], ◌∷◌, map}
use Rattle.rr_types.specs.Nodes.{without_member, joined}
use Rattle.rr_model.specs.NodeState.{Watch}

-- the first time-out of each node: four ticks without a beat are borne
abbrev pub new_watch : Watch
new_watch = record { ticks = 0; time_out = 4 }

-- one more than n; counts stop at the greatest number of their type
abbrev pub counted : ℕ → ℕ
counted n = min (n + 1) 4294967295

-- more ticks have come since the last beat than are borne
abbrev pub is_late : Watch → Bool
is_late w = nat_lt w.time_out w.ticks

-- after a tick
abbrev pub ticked : Watch → Watch
ticked w = record w { ticks = counted w.ticks }

-- after a beat: a beat from a suspected node raises its time-out by one and ends the suspicion
abbrev pub beaten : Watch → Watch
beaten w = record { ticks = 0; time_out = if is_late w then counted w.time_out else w.time_out }

-- all watches after a tick
abbrev pub all_ticked : List Watch → List Watch
all_ticked ws = map ticked ws

-- the watches after a beat of node q; they stand by their nodes' numbers
abbrev pub heard_beat : ℕ → List Watch → List Watch
heard_beat q [] = []
heard_beat zero (w ∷ ws) = beaten w ∷ ws
heard_beat (suc q) (w ∷ ws) = w ∷ heard_beat q ws

-- the nodes from number q on that are late, but for node p
abbrev pub late_from : ℕ → ℕ → List Watch → ℕ
late_from p q [] = 0
late_from p q (w ∷ ws) = (if is_late w && not (q == p) then 2 ^ q else 0) + late_from p (q + 1) ws

-- the nodes that the heartbeat detector of node p suspects
abbrev pub late_nodes : ℕ → List Watch → ℕ
late_nodes p ws = late_from p 0 ws

-- the completeness reduction: what q suspects is suspected too, and q, which spoke, is not (Chandra and Toueg 1996)
abbrev pub reduced : ℕ → ℕ → ℕ → ℕ
reduced output q set = without_member (joined output set) q
