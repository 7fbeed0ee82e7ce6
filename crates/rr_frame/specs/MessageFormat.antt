-- Messages as bytes: version, sender, addressee, kind, then what the kind has.
use Rattle.std.specs.Prelude.{ℕ, ◌^◌, ◌<◌, ◌&&◌, ◌==◌, nat_lt, nat_le, if◌then◌else◌, List, ◌++◌, length, Result, Ok}
use Rattle.rr_types.specs.declared.command.Command.{Command}
use Rattle.rr_types.specs.declared.message.Body.{Body}
use Rattle.rr_types.specs.declared.message.Body.TheVariants.{Estimate, Proposal, Ack, Decision, Request, Nack, Beat, Suspects, Ask}
use Rattle.rr_types.specs.declared.message.Message.{Message}
use Rattle.rr_types.specs.Rounds.{Estimated}
use Rattle.rr_frame.specs.Numbers.{number_bytes}
use Rattle.rr_frame.specs.declared.version.Version.{Version}
use Rattle.rr_frame.specs.declared.version.Version.TheVariants.{Two}
use Rattle.rr_frame.specs.Versions.{version_number, instances, version_at}
use Rattle.rr_frame.specs.Reading.{Reading, ◌>>=◌, if_lawful, number_at, at_end}
use Rattle.rr_frame.specs.CommandFormat.{command_bytes, IsLawfulCommandIn, command_at}
use Rattle.rr_frame.specs.FactFormat.{round_bytes, estimate_bytes, IsRound, IsLawfulEstimateIn, instance_at, round_at, estimate_at}

-- what a message says: its kind from 1 to 9, and the fields of that kind
unfoldable pub body_bytes : Body → List ℕ
body_bytes (Estimate i e) = number_bytes 1 1 ++ (number_bytes 4 i ++ estimate_bytes e)
body_bytes (Proposal i r v) = number_bytes 1 2 ++ (number_bytes 4 i ++ round_bytes r v)
body_bytes (Ack i r) = number_bytes 1 3 ++ (number_bytes 4 i ++ number_bytes 4 r)
body_bytes (Decision i v) = number_bytes 1 4 ++ (number_bytes 4 i ++ command_bytes v)
body_bytes (Request v) = number_bytes 1 5 ++ command_bytes v
body_bytes (Nack i r) = number_bytes 1 6 ++ (number_bytes 4 i ++ number_bytes 4 r)
body_bytes Beat = number_bytes 1 7
body_bytes (Suspects set) = number_bytes 1 8 ++ number_bytes 1 set
body_bytes (Ask i) = number_bytes 1 9 ++ number_bytes 4 i

-- the one spelling of a message in a version
unfoldable pub message_bytes_in : Version → Message → List ℕ
message_bytes_in version m = number_bytes 1 (version_number version) ++ (number_bytes 1 m.from ++ (number_bytes 1 m.to ++ body_bytes m.body))

-- the same in version 2, which is written
abbrev pub message_bytes : Message → List ℕ
message_bytes m = message_bytes_in Two m

-- what a message among n nodes may say in a version: the members of a set lie below n
abbrev pub IsLawfulBodyIn : Version → ℕ → Body → Type 0
IsLawfulBodyIn version n (Estimate i e) = (i < instances version) × IsLawfulEstimateIn version e
IsLawfulBodyIn version n (Proposal i r v) = (i < instances version) × IsRound r × IsLawfulCommandIn version v
IsLawfulBodyIn version n (Ack i r) = (i < instances version) × IsRound r
IsLawfulBodyIn version n (Decision i v) = (i < instances version) × IsLawfulCommandIn version v
IsLawfulBodyIn version n (Request v) = IsLawfulCommandIn version v
IsLawfulBodyIn version n (Nack i r) = (i < instances version) × IsRound r
IsLawfulBodyIn version n Beat = Unit {0}
IsLawfulBodyIn version n (Suspects set) = set < 2 ^ n
IsLawfulBodyIn version n (Ask i) = i < instances version

-- a message that has a spelling among n nodes in a version
pub record IsLawfulMessageIn (version : Version) (n : ℕ) (m : Message) : Type 0 where
  pub from : m.from < n
  pub to : m.to < n
  pub body : IsLawfulBodyIn version n m.body

-- the same in version 2, which is written
abbrev pub IsLawfulBody : ℕ → Body → Type 0
IsLawfulBody n b = IsLawfulBodyIn Two n b

abbrev pub IsLawfulMessage : ℕ → Message → Type 0
IsLawfulMessage n m = IsLawfulMessageIn Two n m

-- one of n nodes at the front
unfoldable pub node_at : ℕ → List ℕ → Reading ℕ
node_at n bytes = do
  node ← number_at 1 bytes
  if_lawful (nat_lt node.0 n) bytes node

-- a set of nodes among n at the front
unfoldable pub set_at : ℕ → List ℕ → Reading ℕ
set_at n bytes = do
  set ← number_at 1 bytes
  if_lawful (nat_lt set.0 (2 ^ n)) bytes set

-- what stands behind the kind of a message that a fact backs: an instance, and the rest by the kind
unfoldable pub backed_at : Version → ℕ → List ℕ → Reading Body
backed_at version kind bytes = do
  i ← instance_at version bytes
  if kind == 1 then (estimate_at version i.1 >>= λ (e : Estimated × List ℕ). Ok (Estimate i.0 e.0, e.1))
      else (if kind == 2 then (round_at i.1 >>= λ (r : ℕ × List ℕ). command_at version r.1 >>= λ (v : Command × List ℕ). Ok (Proposal i.0 r.0 v.0, v.1))
      else (if kind == 3 then (round_at i.1 >>= λ (r : ℕ × List ℕ). Ok (Ack i.0 r.0, r.1))
      else (command_at version i.1 >>= λ (v : Command × List ℕ). Ok (Decision i.0 v.0, v.1))))

-- what stands behind the kind of a message that nothing backs
unfoldable pub free_at : Version → ℕ → ℕ → List ℕ → Reading Body
free_at version n kind bytes =
    if kind == 5 then (command_at version bytes >>= λ (v : Command × List ℕ). Ok (Request v.0, v.1))
    else (if kind == 6 then (instance_at version bytes >>= λ (i : ℕ × List ℕ). round_at i.1 >>= λ (r : ℕ × List ℕ). Ok (Nack i.0 r.0, r.1))
    else (if kind == 7 then Ok (Beat, bytes)
    else (if kind == 8 then (set_at n bytes >>= λ (s : ℕ × List ℕ). Ok (Suspects s.0, s.1))
    else (instance_at version bytes >>= λ (i : ℕ × List ℕ). Ok (Ask i.0, i.1)))))

-- kind and body at the front
unfoldable pub body_at : Version → ℕ → List ℕ → Reading Body
body_at version n bytes = do
  kind ← number_at 1 bytes
  kind ← if_lawful (nat_le 1 kind.0 && nat_le kind.0 9) bytes kind
  if nat_le kind.0 4 then backed_at version kind.0 kind.1 else free_at version n kind.0 kind.1

-- a message among n nodes at the front, in either version
unfoldable pub message_at : ℕ → List ℕ → Reading Message
message_at n bytes = do
  version ← version_at bytes
  from ← node_at n version.1
  to ← node_at n from.1
  body ← body_at version.0 n to.1
  Ok (record { from = from.0; to = to.0; body = body.0 }, body.1)

-- the message among n nodes that all the bytes spell, or the offset of the fault
unfoldable pub message_in : ℕ → List ℕ → Result Message ℕ
message_in n bytes = at_end (length bytes) (message_at n bytes)
