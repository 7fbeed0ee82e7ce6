-- Random schedules: a function of a generator's words, and of the wire as the run goes.
use Rattle.std.specs.Prelude.{◌≡◌, ◌⊎◌, ℕ, zero, suc, ◌+◌, ◌*◌, ◌/◌, ◌%◌, ◌^◌, ◌==◌, false, true, nat_lt, if◌then◌else◌, List, [], ◌∷◌, ◌++◌, length, slice_get, replicate}
use Rattle.std.specs.Option.{option_map_or}
use Rattle.std.specs.List.{AllByRecursion, flat_map, range_with_len}
use Rattle.rand_core.specs.Pcg32Seed.{pcg32_seed}
use Rattle.rand_pcg.specs.Lcg.{Lcg}
use Rattle.rand_pcg.specs.Pcg.{pcg32, pcg32_of_seed}
use Rattle.rr_types.specs.declared.command.Command.{Command}
use Rattle.rr_types.specs.declared.command.Op.TheVariants.{Claim}
use Rattle.rr_types.specs.declared.event.NodeEvent.TheVariants.{Take, Device, Mark, Send, Acknowledge, Snap, Restart}
use Rattle.rr_types.specs.declared.input.Input.TheVariants.{Submit, Hear, Suspect, Tick, Advance}
use Rattle.rr_types.specs.declared.message.Message.{Message}
use Rattle.rr_text.specs.declared.event.Event.{Event}
use Rattle.rr_text.specs.declared.event.Happening.{Happening}
use Rattle.rr_text.specs.declared.event.Happening.TheVariants.{Fail, Crash}
use Rattle.rr_text.specs.Events.{event_of, told_at}
use Rattle.rr_text.specs.Scheduled.{Scheduled, IsEvent}
use Rattle.rr_sim.specs.Clusters.{Cluster, new_cluster, event_step, after_events}

-- the generator of a seed, whose words are drawn one after another
abbrev pub seeded : ℕ → Lcg
seeded seed = pcg32_of_seed (pcg32_seed 16 seed)

-- the next word of a generator
abbrev pub word : Lcg → ℕ
word g = (pcg32 g).0

-- the generator behind its next word
abbrev pub behind : Lcg → Lcg
behind g = (pcg32 g).1

-- one of four clients claims one of the names a to d, without a value
abbrev pub claim_of : ℕ → Command
claim_of b = record { request = record { client = b % 4; seq = b / 4 % 8 }; op = Claim ((97 + b / 32 % 4) ∷ []) [] }

-- a message of the wire is heard by its addressee, where that is one of the nodes; on an empty wire node p hears message 0
abbrev pub hearing : ℕ → List Message → ℕ → ℕ → Event
hearing n [] p b = told_at p (Hear 0)
hearing n (m ∷ ms) p b =
    let k = b % length (m ∷ ms) in
    told_at (option_map_or (λ (sent : Message). if nat_lt sent.to n then sent.to else p) (slice_get (m ∷ ms) k) p) (Hear k)

-- the event of a kind from 0 to 31 at node p of n, by a word, where these messages are on the wire
abbrev pub event_of_kind : ℕ → List Message → ℕ → ℕ → ℕ → Event
event_of_kind n wire p kind b =
    let this : Happening → Event = λ what. record { node = p; what = what } in
    if kind == 0 then told_at p (Submit (claim_of b))
    else (if nat_lt kind 8 then hearing n wire p b
    else (if kind == 8 then told_at p (Suspect (b % 2 ^ n))
    else (if kind == 9 then told_at p Tick
    else (if kind == 10 then told_at p Advance
    else (if nat_lt kind 13 then event_of p Take
    else (if nat_lt kind 21 then event_of p Device
    else (if nat_lt kind 23 then event_of p Mark
    else (if nat_lt kind 27 then event_of p Send
    else (if kind == 27 then event_of p Acknowledge
    else (if kind == 28 then event_of p Snap
    else (if kind == 29 then this (Fail (b % 256 ∷ []))
    else (if kind == 30 then this (Crash (b / 256 % 1024) (b / 256 % 1024) (b % 256 ∷ []))
    else event_of p Restart))))))))))))

-- the event that two words give: the first says the node and the kind, the second the rest
abbrev pub event_of_words : ℕ → List Message → ℕ → ℕ → Event
event_of_words n wire a b = event_of_kind n wire (a % n) (a / 256 % 32) b

-- the event that the next two words of a generator give
abbrev pub drawn : ℕ → List Message → Lcg → Event
drawn n wire g = event_of_words n wire (word g) (word (behind g))

-- node p opens its disk, which is formatted
abbrev pub opening_of : ℕ → List Event
opening_of p = event_of p Restart ∷ replicate 9 (event_of p Device)

-- each of the n nodes opens its disk
abbrev pub openings : ℕ → List Event
openings n = flat_map opening_of (range_with_len 0 n)

-- the event is a failing device call
abbrev pub IsFailing : Event → Type 0
IsFailing e = (fill : List ℕ) × (e.what ≡ Fail fill)

-- the cluster after an event of a line as it is where memory is there. A failing write leaves its fill, or where memory is
-- wanting for it what there is of its range loose; the node answers the same, so after a failing device call it may be either
abbrev pub StepsInMemory : ℕ → Event → Cluster → Cluster → Type 0
StepsInMemory at e old new = (new ≡ event_step at false e old) ⊎ (IsFailing e × (new ≡ event_step at true e old))

-- the events, of which the first stands on this line, lead from one cluster to another as they do where memory is there
abbrev pub LeadsInMemory : ℕ → List Event → Cluster → Cluster → Type 0
LeadsInMemory at [] old new = new ≡ old
LeadsInMemory at (e ∷ es) old new = (next : Cluster) × StepsInMemory at e old next × LeadsInMemory (at + 1) es next new

-- n nodes that have opened their disks
abbrev pub opened : ℕ → Cluster
opened n = after_events 2 (openings n) (new_cluster n)

-- so many events drawn from the words of a generator, each by the wire as the run has it then, from the one of this line on
abbrev pub AreDrawn : ℕ → ℕ → ℕ → Lcg → Cluster → List Event → Type 0
AreDrawn n at zero g c events = events ≡ []
AreDrawn n at (suc steps) g c events =
    (next : Cluster) × (rest : List Event)
    × (events ≡ drawn n c.wire g ∷ rest)
    × StepsInMemory at (drawn n c.wire g) c next
    × AreDrawn n (at + 1) steps (behind (behind g)) next rest

-- so many events of n nodes are drawn behind those that are there
abbrev pub Draws : ℕ → ℕ → Lcg → Cluster → List Event → List Event → Type 0
Draws n steps g c old new =
    (more : List Event) × (new ≡ old ++ more) × (length more ≡ steps) × AllByRecursion (IsEvent n) more × AreDrawn n (length old + 2) steps g c more

-- the random schedule of n nodes, by this seed and of so many steps: its nodes open, and then come the events that the words give
pub record IsRandom (n seed steps : ℕ) (schedule : Scheduled) : Type 0 where
  pub events : List Event
  pub are_drawn : AreDrawn n (2 + 10 * n) steps (seeded seed) (opened n) events
  pub nodes : schedule.nodes ≡ n
  pub all : schedule.events ≡ openings n ++ events
