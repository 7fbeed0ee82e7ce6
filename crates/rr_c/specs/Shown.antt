-- What the structs that cross to C show.
use Rattle.std.specs.Prelude.{◌≡◌, ℕ, List, length, take, Option, None, Some, unwrap_or}
use Rattle.rr_types.specs.declared.command.RequestNo.{RequestNo}
use Rattle.rr_types.specs.declared.command.Reply.{Reply}
use Rattle.rr_types.specs.Commands.{reply_kind, reply_owner}
use Rattle.rr_types.specs.Registry.{Holding}
use Rattle.rr_disk.specs.declared.area.Area.{Area}
use Rattle.rr_disk.specs.declared.area.Area.TheVariants.{First, Second}
use Rattle.rr_host.specs.declared.up.Leaving.{Leaving}
use Rattle.rr_host.specs.declared.up.Leaving.TheVariants.{Nothing, Own, Out}
use Rattle.rr_handle.specs.Numbers.{reply_number}
use Rattle.rr_handle.specs.declared.asks.DueWrite.{DueWrite}
use Rattle.rr_handle.specs.declared.reads.Standing.{Standing}
use Rattle.rr_handle.specs.declared.reads.Status.{Status}
use Rattle.rr_c.specs.declared.shown.RrCall.{RrCall}
use Rattle.rr_c.specs.declared.shown.RrAck.{RrAck}
use Rattle.rr_c.specs.declared.shown.RrMessage.{RrMessage}
use Rattle.rr_c.specs.declared.shown.RrHolding.{RrHolding}
use Rattle.rr_c.specs.declared.shown.RrBinding.{RrBinding}
use Rattle.rr_c.specs.declared.shown.RrStanding.{RrStanding}

-- the number of an area
abbrev pub area_number : Area → ℕ
area_number First = 0
area_number Second = 1

-- a write that is due
abbrev pub call_of : Option DueWrite → RrCall
call_of None = record { kind = 0; area = 0; at = 0; len = 0 }
call_of (Some w) = record { kind = 1; area = area_number w.area; at = w.at; len = w.len }

-- the answer to a request
abbrev pub ack_of : RequestNo → Option Reply → RrAck
ack_of request None = record { client = request.client; reply = 0; seq = request.seq; owner = 0 }
ack_of request (Some reply) = record { client = request.client; reply = reply_number (reply_kind reply); seq = request.seq; owner = unwrap_or (reply_owner reply) 0 }

-- the oldest answer, if there is one
abbrev pub answer_shown : Option (RequestNo × Reply) → RrAck
answer_shown None = record { client = 0; reply = 0; seq = 0; owner = 0 }
answer_shown (Some a) = ack_of a.0 (Some a.1)

-- to whom a message goes
abbrev pub addressee : Leaving → ℕ
addressee (Out to bytes) = to
addressee _ = 0

-- a message, and the buffer that its bytes are in
abbrev pub Leaves : Leaving → RrMessage → List ℕ → Type 0
Leaves Nothing m out = m.kind ≡ 0
Leaves Own m out = m.kind ≡ 2
Leaves (Out to bytes) m out = (m.kind ≡ 1) × (m.to ≡ to) × (m.len ≡ length bytes) × (take m.len out ≡ bytes)

-- who has a name, and the buffer that its value is in
abbrev pub Holds : Option Holding → RrHolding → List ℕ → Type 0
Holds None h out = h.is_bound ≡ 0
Holds (Some x) h out = (h.is_bound ≡ 1) × (h.owner ≡ x.owner) × (h.len ≡ length x.value) × (take h.len out ≡ x.value)

-- a bound name, and the buffers that it and its value are in
abbrev pub Binds : Option (List ℕ × Holding) → RrBinding → List ℕ → List ℕ → Type 0
Binds None b name out = b.is_bound ≡ 0
Binds (Some x) b name out =
    (b.is_bound ≡ 1) × (b.owner ≡ x.1.owner) × (b.name_len ≡ length x.0) × (take b.name_len name ≡ x.0)
    × (b.len ≡ length x.1.value) × (take b.len out ≡ x.1.value)

-- how a node stands
abbrev pub standing_by : Status → Option Standing → RrStanding
standing_by s None = record { decided = 0; facts = 0; nodes = s.nodes; node = s.node; suspects = 0; is_up = 0 }
standing_by s (Some now) = record { decided = now.decided; facts = now.facts; nodes = s.nodes; node = s.node; suspects = now.suspects; is_up = 1 }

abbrev pub standing_of : Status → RrStanding
standing_of s = standing_by s s.standing
