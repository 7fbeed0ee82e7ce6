-- Snapshots as bytes: version, node, how many nodes, epoch, next fact number, how many entries, the entries.
use Rattle.std.specs.Prelude.{◌≡◌, ℕ, zero, suc, ◌+◌, ◌^◌, ◌<◌, ◌≤◌, Bool, ◌&&◌, ◌||◌, ◌==◌, nat_lt, nat_le, if◌then◌else◌, List, [], ◌∷◌, ◌++◌, length, Option, None, Some, IfSome, IsTrue, Result, Ok}
use Rattle.std.specs.List.{flat_map, AllByRecursion}
use Rattle.rr_types.specs.declared.command.Command.{Command}
use Rattle.rr_types.specs.declared.promise.Standing.{Standing}
use Rattle.rr_types.specs.declared.promise.Standing.TheVariants.{Decided, Open}
use Rattle.rr_types.specs.declared.promise.Entry.{Entry}
use Rattle.rr_types.specs.Promises.{AscendsFrom}
use Rattle.rr_types.specs.Rounds.{OpenAt, coordinator_of}
use Rattle.rr_types.specs.Limits.{max_nodes}
use Rattle.rr_frame.specs.Numbers.{number_bytes}
use Rattle.rr_frame.specs.declared.version.Version.{Version}
use Rattle.rr_frame.specs.declared.version.Version.TheVariants.{Two}
use Rattle.rr_frame.specs.Versions.{version_number, instances, version_at}
use Rattle.rr_frame.specs.Reading.{Reading, ◌>>=◌, if_lawful, number_at, at_end}
use Rattle.rr_frame.specs.CommandFormat.{command_bytes, IsLawfulCommandIn, command_at}
use Rattle.rr_frame.specs.FactFormat.{IsRound, round_at}
use Rattle.rr_frame.specs.Snapshots.{Snapped, proposes_lawfully}

-- the proposal of the present round behind its flag
abbrev pub proposal_bytes : Option Command → List ℕ
proposal_bytes None = number_bytes 1 0
proposal_bytes (Some v) = number_bytes 1 1 ++ command_bytes v

-- an open standing: round, stamp, estimate, proposal
unfoldable pub open_bytes : OpenAt → List ℕ
open_bytes o = number_bytes 4 o.round ++ (number_bytes 4 o.stamp ++ (command_bytes o.estimate ++ proposal_bytes o.proposal))

-- a standing behind its kind
unfoldable pub standing_bytes : Standing → List ℕ
standing_bytes (Decided v) = number_bytes 1 1 ++ command_bytes v
standing_bytes (Open o) = number_bytes 1 2 ++ open_bytes o

-- an entry: instance, standing
unfoldable pub entry_bytes : Entry → List ℕ
entry_bytes e = number_bytes 4 e.instance ++ standing_bytes e.standing

-- the version, and whose snapshot it is
unfoldable pub owner_bytes : Version → ℕ → ℕ → List ℕ
owner_bytes version node nodes = number_bytes 1 (version_number version) ++ (number_bytes 1 node ++ number_bytes 1 nodes)

-- next fact number, how many entries, the entries
unfoldable pub contents_bytes : ℕ → List Entry → List ℕ
contents_bytes next entries = number_bytes 8 next ++ (number_bytes 4 (length entries) ++ flat_map entry_bytes entries)

-- the one spelling of a snapshot in a version
unfoldable pub snapshot_bytes_in : Version → Snapped → List ℕ
snapshot_bytes_in version s = owner_bytes version s.node s.nodes ++ (number_bytes 8 s.epoch ++ contents_bytes s.next s.entries)

-- the same in version 2, which is written
abbrev pub snapshot_bytes : Snapped → List ℕ
snapshot_bytes s = snapshot_bytes_in Two s

-- an open standing at node p of n that has a spelling in a version: its stamp is at most its round, and only the round's
-- coordinator has a proposal
pub record IsLawfulOpenIn (version : Version) (n p : ℕ) (o : OpenAt) : Type 0 where
  pub round : IsRound o.round
  pub stamp : o.stamp ≤ o.round
  pub estimate : IsLawfulCommandIn version o.estimate
  pub proposal : IfSome o.proposal (λ v. (coordinator_of o.round n ≡ p) × IsLawfulCommandIn version v)

abbrev pub IsLawfulStandingIn : Version → ℕ → ℕ → Standing → Type 0
IsLawfulStandingIn version n p (Decided v) = IsLawfulCommandIn version v
IsLawfulStandingIn version n p (Open o) = IsLawfulOpenIn version n p o

-- an entry at node p of n that has a spelling in a version
pub record IsLawfulEntryIn (version : Version) (n p : ℕ) (e : Entry) : Type 0 where
  pub instance : e.instance < instances version
  pub standing : IsLawfulStandingIn version n p e.standing

-- an entry that is written at each node at which its proposal may stand
abbrev pub IsSpellable : Entry → Type 0
IsSpellable e = (n p : ℕ) → IsTrue (proposes_lawfully n p e.standing) → IsLawfulEntryIn Two n p e

-- a snapshot that has a spelling in a version
pub record IsLawfulSnapshotIn (version : Version) (s : Snapped) : Type 0 where
  pub node : s.node < s.nodes
  pub nodes : s.nodes ≤ max_nodes
  pub epoch : (1 ≤ s.epoch) × (s.epoch < 2 ^ 64)
  pub next : s.next < 2 ^ 64
  pub empty : s.next ≡ 0 → s.entries ≡ []
  pub ascending : AscendsFrom 0 s.entries
  pub entries : AllByRecursion (IsLawfulEntryIn version s.nodes s.node) s.entries

-- the same in version 2, which is written
abbrev pub IsLawfulOpen : ℕ → ℕ → OpenAt → Type 0
IsLawfulOpen n p o = IsLawfulOpenIn Two n p o

abbrev pub IsLawfulSnapshot : Snapped → Type 0
IsLawfulSnapshot s = IsLawfulSnapshotIn Two s

-- a proposal behind its flag, which may be 1 only at the round's coordinator
unfoldable pub proposal_at : Version → Bool → List ℕ → Reading (Option Command)
proposal_at version coordinates bytes = do
  flag ← number_at 1 bytes
  flag ← if_lawful (flag.0 == 0 || (flag.0 == 1 && coordinates)) bytes flag
  if flag.0 == 0 then Ok (None, flag.1) else (command_at version flag.1 >>= λ (v : Command × List ℕ). Ok (Some v.0, v.1))

-- an open standing of node p of n at the front
unfoldable pub open_at : Version → ℕ → ℕ → List ℕ → Reading OpenAt
open_at version n p bytes = do
  round ← round_at bytes
  stamp ← number_at 4 round.1
  stamp ← if_lawful (nat_le stamp.0 round.0) round.1 stamp
  estimate ← command_at version stamp.1
  proposal ← proposal_at version (coordinator_of round.0 n == p) estimate.1
  Ok (record { round = round.0; stamp = stamp.0; estimate = estimate.0; proposal = proposal.0 }, proposal.1)

-- a standing of node p of n at the front
unfoldable pub standing_at : Version → ℕ → ℕ → List ℕ → Reading Standing
standing_at version n p bytes = do
  kind ← number_at 1 bytes
  kind ← if_lawful (kind.0 == 1 || kind.0 == 2) bytes kind
  if kind.0 == 1
      then (command_at version kind.1 >>= λ (v : Command × List ℕ). Ok (Decided v.0, v.1))
      else (open_at version n p kind.1 >>= λ (o : OpenAt × List ℕ). Ok (Open o.0, o.1))

-- an entry of node p of n at the front, whose instance is low or above
unfoldable pub entry_at : Version → ℕ → ℕ → ℕ → List ℕ → Reading Entry
entry_at version n p low bytes = do
  instance ← number_at 4 bytes
  instance ← if_lawful (nat_le low instance.0 && nat_lt instance.0 (instances version)) bytes instance
  standing ← standing_at version n p instance.1
  Ok (record { instance = instance.0; standing = standing.0 }, standing.1)

-- so many entries of node p of n at the front, ascending from low on
unfoldable pub entries_at : Version → ℕ → ℕ → ℕ → ℕ → List ℕ → Reading (List Entry)
entries_at version n p low zero bytes = Ok ([], bytes)
entries_at version n p low (suc k) bytes = do
  first ← entry_at version n p low bytes
  others ← entries_at version n p (first.0.instance + 1) k first.1
  Ok (first.0 ∷ others.0, others.1)

-- version, node and number of nodes at the front
unfoldable pub owner_at : List ℕ → Reading (Version × ℕ × ℕ)
owner_at bytes = do
  version ← version_at bytes
  node ← number_at 1 version.1
  node ← if_lawful (nat_lt node.0 max_nodes) version.1 node
  nodes ← number_at 1 node.1
  nodes ← if_lawful (nat_lt node.0 nodes.0 && nat_le nodes.0 max_nodes) node.1 nodes
  Ok ((version.0, node.0, nodes.0), nodes.1)

-- next fact number and entries of node p of n at the front
unfoldable pub contents_at : Version → ℕ → ℕ → List ℕ → Reading (ℕ × List Entry)
contents_at version n p bytes = do
  next ← number_at 8 bytes
  count ← number_at 4 next.1
  count ← if_lawful (count.0 == 0 || nat_le 1 next.0) next.1 count
  entries ← entries_at version n p 0 count.0 count.1
  Ok ((next.0, entries.0), entries.1)

-- a snapshot at the front, and the version that it is spelled in
unfoldable pub snapshot_at : List ℕ → Reading (Version × Snapped)
snapshot_at bytes = do
  owner ← owner_at bytes
  epoch ← number_at 8 owner.1
  epoch ← if_lawful (nat_le 1 epoch.0) owner.1 epoch
  contents ← contents_at owner.0.0 owner.0.2 owner.0.1 epoch.1
  Ok ((owner.0.0, record { node = owner.0.1; nodes = owner.0.2; epoch = epoch.0; next = contents.0.0; entries = contents.0.1 }), contents.1)

-- the snapshot that all the bytes spell, and the version in which they do, or the offset of the fault
unfoldable pub snapshot_in : List ℕ → Result (Version × Snapped) ℕ
snapshot_in bytes = at_end (length bytes) (snapshot_at bytes)
