-- The node that a handle has, and what a call does to it.
use Rattle.std.specs.Prelude.{◌≡◌, ◌≢◌, ◌⊎◌, ◌≤◌, ◌<◌, max, ℕ, Bool, true, false, List, length, take, slice_get, Option, None, Some, IfSome, Result, Ok, Err, IsErr, option_map, Vec}
use Rattle.std.specs.Option.{option_map_or}
use Rattle.std.specs.Str.{bytes_eq}
use Rattle.std.specs.declared.alloc.Global.{Global}
use Rattle.rr_types.specs.declared.command.Command.{Command}
use Rattle.rr_types.specs.declared.command.Reply.{Reply}
use Rattle.rr_types.specs.declared.input.Input.{Input}
use Rattle.rr_types.specs.declared.message.Message.{Message}
use Rattle.rr_types.specs.declared.refusal.Refusal.{Refusal}
use Rattle.rr_types.specs.declared.refusal.Refusal.TheVariants.{Down}
use Rattle.rr_types.specs.Registry.{reply_of}
use Rattle.rr_model.specs.NodeState.{NodeState, decided_prefix}
use Rattle.rr_frame.specs.Refused.{answer_of}
use Rattle.rr_frame.specs.MessageFormat.{message_in}
use Rattle.rr_host.specs.Disks.{Asked}
use Rattle.rr_host.specs.Doings.{written_in}
use Rattle.rr_host.specs.Readings.{name_in}
use Rattle.rr_host.specs.Hosts.{is_up, core_in, IsWhy, HearsBytes, MarksOn, FlushesOn}
use Rattle.rr_host.specs.declared.doing.Doing.{Doing}
use Rattle.rr_host.specs.declared.doing.Doing.TheVariants as does
use Rattle.rr_host.specs.declared.host.Host.{Host}
use Rattle.rr_handle.specs.Owning.{Inside}
use Rattle.rr_handle.specs.declared.handle.RrNode.{RrNode}
use Rattle.rr_handle.specs.declared.asks.DueWrite.{DueWrite}
use Rattle.rr_handle.specs.declared.reads.Standing.{Standing}
use Rattle.rr_handle.specs.declared.reads.Status.{Status}

abbrev pub seen_of : Bool → Inside → Option Host
seen_of true h = Some h
seen_of false h = None

-- the node in a handle, where it is open
abbrev pub node_in : RrNode → Option Host
node_in r = seen_of r.is_open r.held.value

-- the state of the node in a handle, where that is up
abbrev pub state_in : Option Host → Option NodeState
state_in None = None
state_in (Some h) = core_in h.doing

-- why the node in a handle isn't told something
abbrev pub IsWhyIn : Input Message → Option Host → Refusal → Type 0
IsWhyIn input None e = e ≡ Down
IsWhyIn input (Some h) e = IsWhy input h.doing e

-- ---- what a call does

-- a node comes by a call from what it does to what it does then, and stays the same node of as many
abbrev pub ComesTo : (Doing → Doing → Type 0) → Host → Option Host → Type 0
ComesTo Does h None = ⊥
ComesTo Does h (Some k) = (k ≡ record h { doing = k.doing }) × Does h.doing k.doing

-- the same of the node in a handle
abbrev pub Comes : (Doing → Doing → Type 0) → Option Host → Option Host → Type 0
Comes Does None new = ⊥
Comes Does (Some h) new = ComesTo Does h new

-- a group that is synced is marked, and then the oldest staged facts go to the disk. A node that opens waits for its write
abbrev pub StagesBy : Bool → Doing → Doing → Type 0
StagesBy true d e = (m : Doing) × MarksOn d m × FlushesOn m e
StagesBy false d e = (written_in d ≢ None) × (e ≡ d)

abbrev pub Stages : Doing → Doing → Type 0
Stages d e = StagesBy (is_up d) d e

-- of both none is done, or only the first, or both, or the device failed
abbrev pub StopsStaging : Doing → Doing → Type 0
StopsStaging d e = (e ≡ d) ⊎ (MarksOn d e ⊎ (Stages d e ⊎ (e ≡ does.Down)))

-- it heard the message that these bytes spell among as many nodes as there are
abbrev pub HearsIn : List ℕ → Option Host → Option Host → Type 0
HearsIn bytes None new = ⊥
HearsIn bytes (Some h) new = ComesTo (HearsBytes h.nodes bytes) h new

-- these bytes spell none
abbrev pub IsMalformed : List ℕ → Option Host → Type 0
IsMalformed bytes None = ⊥
IsMalformed bytes (Some h) = IsErr (answer_of (message_in h.nodes bytes))

-- ---- what is read

-- what is read of a node in a handle; a closed handle has none
abbrev pub read : {A : Type 0} → (Doing → Result A Refusal) → Option Host → Result A Refusal
read look None = Err Down
read look (Some h) = look h.doing

-- what is read of the state of a node that is up
abbrev pub of_core : {A : Type 0} → (NodeState → A) → Doing → Result A Refusal
of_core look d = option_map_or (λ s. Ok (look s)) (core_in d) (Err Down)

-- where a write is due, and how many bytes it has
abbrev pub due_of : Asked → DueWrite
due_of w = record { area = w.area; at = w.at; len = length w.bytes }

-- the write of a node in a handle
abbrev pub written_by : Option Host → Option Asked
written_by None = None
written_by (Some h) = written_in h.doing

-- a write that is due is told, with a copy of its bytes where they have this room
abbrev pub IsDue : ℕ → Option (DueWrite × Vec ℕ Global) → Option Asked → Type 0
IsDue room None w = w ≡ None
IsDue room (Some d) None = ⊥
IsDue room (Some d) (Some w) = (d.0 ≡ due_of w) × (length w.bytes ≤ room → d.1.items ≡ w.bytes)

-- a buffer begins with these bytes, where it has room for them
abbrev pub Begins : List ℕ → List ℕ → Type 0
Begins bytes out = length bytes ≤ length out → take (length bytes) out ≡ bytes

-- how a node stands
abbrev pub standing_of : NodeState → Standing
standing_of s = record { decided = length (decided_prefix s); facts = s.marked_end; suspects = s.suspects }

-- which node it is, of how many, and how it stands where it is up
abbrev pub status_of : Host → Status
status_of h = record { nodes = h.nodes; node = h.node; standing = option_map standing_of (core_in h.doing) }

-- the command at a place of the decided list, with the reply to its request
abbrev pub answered_at : ℕ → NodeState → Option (Command × Option Reply)
answered_at place s = option_map (λ c. (c, reply_of (decided_prefix s) c.request)) (slice_get (decided_prefix s) place)

-- whether a command is of this name
abbrev pub is_of : List ℕ → Command → Bool
is_of name c = bytes_eq name (name_in c.op)

-- the first place of a list, from one on, whose command is of this name. Where there is none it's the list's length, or the place to begin at
abbrev pub IsNext : ℕ → List ℕ → List Command → ℕ → Type 0
IsNext from name list place =
    (place ≤ max from (length list)) × ((k : ℕ) → k < place → from ≤ k → IfSome (slice_get list k) (λ c. is_of name c ≡ false))
    × (place < length list → IfSome (slice_get list place) (λ c. is_of name c ≡ true))

-- the same of the decided list of a node that is up
abbrev pub IsNextOf : Option NodeState → ℕ → List ℕ → ℕ → Type 0
IsNextOf None from name place = ⊥
IsNextOf (Some s) from name place = IsNext from name (decided_prefix s) place

abbrev pub IsNextIn : Option Host → ℕ → List ℕ → ℕ → Type 0
IsNextIn node from name place = IsNextOf (state_in node) from name place
