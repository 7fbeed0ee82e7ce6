-- What an opening of a node knows of a disk that tells its bytes.
use Rattle.std.specs.Prelude.{◌≡◌, ℕ, List, length}
use Rattle.rr_types.specs.declared.fact.Fact.{Fact}
use Rattle.rr_disk.specs.Areas.{Areas}
use Rattle.rr_disk.specs.Crash.{Images, IsCrashImage}
use Rattle.rr_journal.specs.OpeningStates.{OpeningState}
use Rattle.rr_journal.specs.Held.{Holds}
use Rattle.rr_journal.specs.Fronts.{KnowsFronts}
use Rattle.rr_journal.specs.OpeningTable.{OpensAny}
use Rattle.rr_journal.specs.Phases.{phase_of}

-- what an opening knows of its disk, besides: what stands there in its phase, and how the areas look that it has read
pub record KnowsDisk {D : Type 0} (areas : D → Areas) (o : OpeningState D) : Type 0 where
  pub stands : OpensAny o.nodes o.node o.phase (areas o.disk)
  pub fronts : KnowsFronts (phase_of o.phase) o.fronts (areas o.disk)

-- whatever a crash may leave of these areas holds so many facts, where it holds any of the node
abbrev pub HoldSoMany : ℕ → ℕ → Areas → ℕ → Type 0
HoldSoMany n p both count = (images : Images) → IsCrashImage both images → (facts : List Fact) → Holds n p images facts → length facts ≡ count
