-- An opening of a node's disk, between two of its device calls.
use Rattle.std.specs.Prelude.{ℕ, Option}
use Rattle.rr_frame.specs.Snapshots.{IsSnapshot}
use Rattle.rr_journal.specs.declared.opening.End.{End}
use Rattle.rr_journal.specs.declared.opening.Fronts.{Fronts}
use Rattle.rr_journal.specs.declared.opening.Phase.{Phase}
use Rattle.rr_journal.specs.declared.opening.Phase.TheVariants as at
use Rattle.rr_journal.specs.Openings.{snapshot_with}
use Rattle.rr_journal.specs.Rewrites.{content_anew}

-- an opening of the disk of a node, of so many nodes: how far it has come, what it has noted of the areas that it has read, and the end
-- that its last step has found
pub record OpeningState (D : Type 0) : Type 0 where
  pub disk : D
  pub nodes : ℕ
  pub node : ℕ
  pub phase : Phase
  pub fronts : Fronts
  pub end : Option End

-- what an opening of node p of n writes anew can stand in a snapshot of that node
abbrev pub IsOwn : ℕ → ℕ → Phase → Type 0
IsOwn n p at.Settling = Unit {0}
IsOwn n p at.ReadingFirst = Unit {0}
IsOwn n p (at.ReadingSecond first) = Unit {0}
IsOwn n p (at.Rewriting rewrite) = IsSnapshot (snapshot_with n p (content_anew rewrite.found))
