-- Clusters, and whose a folder is.
use Rattle.std.specs.Prelude.{ℕ, ◌<◌, ◌≤◌, ◌*◌, ◌/◌, ◌%◌, ◌^◌, ◌==◌, ◌&&◌, ◌||◌, nat_lt, Bool, IfSome}
use Rattle.rr_types.specs.Limits.{max_nodes}
use Rattle.rr_folders.specs.declared.cluster.Identity.{Identity}
use Rattle.rr_folders.specs.declared.cluster.Cluster.{Cluster}
use Rattle.rr_folders.specs.declared.cluster.Mark.{Mark}
use Rattle.rr_folders.specs.declared.cluster.Digest.{Digest}
use Rattle.rr_folders.specs.declared.cluster.Reached.{Reached}
use Rattle.rr_folders.specs.declared.cluster.Course.{Course}

-- two numbers of 64 bits
pub record IsIdentity (i : Identity) : Type 0 where
  pub first : i.first < 2 ^ 64
  pub second : i.second < 2 ^ 64

-- whether two clusters are the same
abbrev pub same_identity : Identity → Identity → Bool
same_identity i j = (i.first == j.first) && (i.second == j.second)

-- how often node p was replaced, by the sum of 256 ^ q for each time that a node q was
abbrev pub times_in : ℕ → ℕ → ℕ
times_in replaced p = (replaced / 2 ^ (8 * p)) % 256

-- a cluster of 1 to 7 nodes, some of which have been formatted, and some replaced
pub record IsCluster (c : Cluster) : Type 0 where
  pub identity : IsIdentity c.identity
  pub some : 1 ≤ c.nodes
  pub few : c.nodes ≤ max_nodes
  pub below : c.formatted < 2 ^ c.nodes
  pub replaced : c.replaced < 2 ^ 64

-- four numbers of 64 bits
pub record IsDigest (d : Digest) : Type 0 where
  pub first : d.first < 2 ^ 64
  pub second : d.second < 2 ^ 64
  pub third : d.third < 2 ^ 64
  pub fourth : d.fourth < 2 ^ 64

-- an epoch and a length of 64 bits, and a digest
pub record IsReached (r : Reached) : Type 0 where
  pub epoch : r.epoch < 2 ^ 64
  pub length : r.length < 2 ^ 64
  pub digest : IsDigest r.digest

pub record IsCourse (c : Course) : Type 0 where
  pub from : IsReached c.from
  pub to : IsReached c.to

-- a node of a cluster, how far it came, and how often it had been replaced
pub record IsMark (m : Mark) : Type 0 where
  pub identity : IsIdentity m.identity
  pub node : m.node < max_nodes
  pub course : IfSome m.course IsCourse
  pub replaced : m.replaced < 2 ^ 64

-- whether two digests are the same
abbrev pub same_digest : Digest → Digest → Bool
same_digest d e = (d.first == e.first) && ((d.second == e.second) && ((d.third == e.third) && (d.fourth == e.fourth)))

-- whether an area came as far as this: it has the epoch, so many bytes, and their digest
abbrev pub reaches : Reached → Reached → Bool
reaches r to = (r.epoch == to.epoch) && ((r.length == to.length) && same_digest r.digest to.digest)

-- whether an area isn't as far as this: it has a lower epoch, or the same one and fewer bytes
abbrev pub is_behind : Reached → Reached → Bool
is_behind r to = nat_lt r.epoch to.epoch || ((r.epoch == to.epoch) && nat_lt r.length to.length)
