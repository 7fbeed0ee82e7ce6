-- Snapshots, apart from their bytes.
use Rattle.std.specs.Prelude.{◌≡◌, ℕ, ◌<◌, ◌≤◌, Bool, true, ◌==◌, List, [], Option, None, Some, IsTrue}
use Rattle.std.specs.List.{list_all}
use Rattle.rr_types.specs.declared.command.Command.{Command}
use Rattle.rr_types.specs.declared.promise.Standing.{Standing}
use Rattle.rr_types.specs.declared.promise.Standing.TheVariants.{Decided, Open}
use Rattle.rr_types.specs.declared.promise.Entry.{Entry}
use Rattle.rr_types.specs.Promises.{IsAscending}
use Rattle.rr_types.specs.Rounds.{coordinator_of}

-- a snapshot: whose it is, of how many nodes, its epoch, the next fact number, and the promise of the facts before
pub record Snapped : Type 0 where
  pub node : ℕ
  pub nodes : ℕ
  pub epoch : ℕ
  pub next : ℕ
  pub entries : List Entry

-- whether a proposal, if there is one, is by a node that may have one
abbrev pub is_by_coordinator : Bool → Option Command → Bool
is_by_coordinator coordinates None = true
is_by_coordinator coordinates (Some v) = coordinates

-- whether node p of n has a proposal only in a round that it coordinates
abbrev pub proposes_lawfully : ℕ → ℕ → Standing → Bool
proposes_lawfully n p (Decided v) = true
proposes_lawfully n p (Open o) = is_by_coordinator (coordinator_of o.round n == p) o.proposal

-- what a snapshot keeps: the node is one of the nodes, the epoch from 1, no entry before the first fact, and
-- proposals only in rounds that the node coordinates
pub record IsSnapshot (s : Snapped) : Type 0 where
  pub node : s.node < s.nodes
  pub epoch : 1 ≤ s.epoch
  pub empty : s.next ≡ 0 → s.entries ≡ []
  pub proposals : IsTrue (list_all (λ (e : Entry). proposes_lawfully s.nodes s.node e.standing) s.entries)

-- next fact number and entries that a snapshot of node p of n may have
pub record IsContents (n p next : ℕ) (entries : List Entry) : Type 0 where
  pub empty : next ≡ 0 → entries ≡ []
  pub ascending : IsAscending entries
  pub proposals : IsTrue (list_all (λ (e : Entry). proposes_lawfully n p e.standing) entries)
