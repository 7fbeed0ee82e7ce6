-- Which folders of a cluster are used by somebody who only reads them.
use Rattle.std.specs.Prelude.{◌≡◌, ◌+◌, ◌&&◌, ◌||◌, if◌then◌else◌, ℕ, Bool, true, false, List, [], ◌∷◌, length}
use Rattle.rr_types.specs.declared.refusal.Refusal.TheVariants.{Device}
use Rattle.rr_types.specs.Nodes.{has_member}
use Rattle.rr_folders.specs.declared.verify_folder.Reading.{Reading}
use Rattle.rr_folders.specs.declared.verify_folder.Reading.TheVariants.{Facts, Blank, Refused}
use Rattle.rr_folders.specs.Judged.{MayStartWithout}

-- the nodes whose folders aren't to be used, and whether a start without them would be refused
pub record Sifting : Type 0 where
  pub without : ℕ
  pub refused : Bool

-- whether a folder holds facts
abbrev pub holds : Reading → Bool
holds (Facts f) = true
holds Blank = false
holds (Refused e) = false

-- whether one of the folders of some nodes, from node p on, holds facts
abbrev pub any_holds : ℕ → ℕ → List Reading → Bool
any_holds without p [] = false
any_holds without p (r ∷ rs) = (has_member without p && holds r) || any_holds without (p + 1) rs

-- the folders of which those of some nodes, from node p on, are set aside, as if they couldn't be read
abbrev pub set_aside : ℕ → ℕ → List Reading → List Reading
set_aside without p [] = []
set_aside without p (r ∷ rs) = (if has_member without p then Refused Device else r) ∷ set_aside without (p + 1) rs

-- of folders that were read these are used, and one that holds facts isn't, if that is told: a start without those that aren't would go then
abbrev pub AreUsed : List Reading → List Reading → Bool → Type 0
AreUsed readings used told =
    (without : ℕ) × (used ≡ set_aside without 0 readings) × (told ≡ any_holds without 0 readings) × (told ≡ true → MayStartWithout (length readings) without)
