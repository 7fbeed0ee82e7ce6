-- What a migration of a disk comes to.
use Rattle.std.specs.Prelude.{◌≡◌, ◌⊎◌, ℕ, List, Ok, Vec}
use Rattle.std.specs.declared.alloc.Global.{Global}
use Rattle.rr_types.specs.declared.refusal.Refusal.{Refusal}
use Rattle.rr_disk.specs.Areas.{Areas}
use Rattle.rr_journal.specs.Inspect.{inspected}
use Rattle.rr_journal.specs.Openings.{Settling}
use Rattle.rr_journal.specs.OpeningCourse.{areas_after, calls_from}
use Rattle.rr_cli.specs.Areas.{IsShown}
use Rattle.rr_cli.specs.Refusals.{status_of}

-- both areas behind an opening of node p of n that made all its calls
abbrev pub opened_areas : ℕ → ℕ → Areas → Areas
opened_areas n p both = areas_after (calls_from n p Settling both) both

-- the text tells what some bytes hold
abbrev pub TellsSome : Vec ℕ Global → Type 0
TellsSome text = (first : List ℕ) × (second : List ℕ) × IsShown (Ok text) (inspected first second)

-- a refusal of a migration: an area is damaged, a device or memory failed, or no epoch is left
abbrev pub IsUnmigrated : Refusal → Type 0
IsUnmigrated refusal = (status_of refusal ≡ 4) ⊎ (status_of refusal ≡ 5) ⊎ (status_of refusal ≡ 6)
