-- The rule by which a heartbeat detector suspects a node, over a whole list of ticks and beats.
use Rattle.std.specs.Prelude.{◌≡◌, ℕ, ◌+◌, ◌<◌, ◌≤◌, Bool, ◌==◌, nat_lt, min, if◌then◌else◌, List, [], ◌∷◌, replicate}
use Rattle.rr_types.specs.Nodes.{has_member}
use Rattle.rr_model.specs.NodeState.{Watch}
use Rattle.rr_model.specs.NodeDetector.{new_watch, counted, all_ticked, heard_beat, late_nodes}

-- what a detector is told: a tick, or a beat of a node
pub data Event : Type 0 where
  Ticked : Event
  Beaten : ℕ → Event

-- a list of events, cut at the beats of one node: how many ticks each stretch has, the first one and the later ones
pub record Stretches : Type 0 where
  pub first : ℕ
  pub later : List ℕ

-- cut at the beats of node q
abbrev pub cut : ℕ → List Event → Stretches
cut q [] = record { first = 0; later = [] }
cut q (Ticked ∷ es) = record { first = (cut q es).first + 1; later = (cut q es).later }
cut q (Beaten p ∷ es) = if p == q then record { first = 0; later = (cut q es).first ∷ (cut q es).later } else cut q es

-- the ticks of a stretch as they are counted
abbrev pub ticks_of : ℕ → ℕ
ticks_of n = min n 4294967295

-- the time-out after a stretch of n ticks: it rises by one where the stretch has more ticks
abbrev pub raised : ℕ → ℕ → ℕ
raised t n = if nat_lt t (ticks_of n) then counted t else t

-- the time-out after all stretches but the last
abbrev pub time_out_after : ℕ → ℕ → List ℕ → ℕ
time_out_after t n [] = t
time_out_after t n (m ∷ ms) = time_out_after (raised t n) m ms

-- the last stretch
abbrev pub last_stretch : ℕ → List ℕ → ℕ
last_stretch n [] = n
last_stretch n (m ∷ ms) = last_stretch m ms

-- the rule: node q is suspected where the last stretch has more ticks than the present time-out, which began at 4
abbrev pub is_suspected : ℕ → List Event → Bool
is_suspected q es = nat_lt (time_out_after 4 (cut q es).first (cut q es).later) (ticks_of (last_stretch (cut q es).first (cut q es).later))

-- what is known of the nodes after these events
abbrev pub watches_after : List Watch → List Event → List Watch
watches_after ws [] = ws
watches_after ws (Ticked ∷ es) = watches_after (all_ticked ws) es
watches_after ws (Beaten p ∷ es) = watches_after (heard_beat p ws) es

-- a detector of n nodes suspects node q after these events exactly where the rule says so
abbrev pub FollowsTheRule : ℕ → ℕ → List Event → Type 0
FollowsTheRule n q es = q < n → n ≤ 7 → has_member (late_nodes 7 (watches_after (replicate n new_watch) es)) q ≡ is_suspected q es
