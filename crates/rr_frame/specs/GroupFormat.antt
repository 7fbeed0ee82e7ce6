-- Groups as bytes: the number of the first fact, how many there are, the facts.
use Rattle.std.specs.Prelude.{ℕ, zero, suc, ◌+◌, ◌^◌, ◌<◌, ◌≤◌, ◌&&◌, nat_lt, nat_le, List, [], ◌∷◌, ◌++◌, length, Result, Ok}
use Rattle.std.specs.List.{flat_map, AllByRecursion}
use Rattle.rr_types.specs.declared.fact.Fact.{Fact}
use Rattle.rr_types.specs.Groups.{Grouped}
use Rattle.rr_types.specs.Limits.{max_group}
use Rattle.rr_frame.specs.Numbers.{number_bytes}
use Rattle.rr_frame.specs.declared.version.Version.{Version}
use Rattle.rr_frame.specs.declared.version.Version.TheVariants.{Two}
use Rattle.rr_frame.specs.Reading.{Reading, ◌>>=◌, if_lawful, number_at, at_end}
use Rattle.rr_frame.specs.FactFormat.{fact_bytes, IsLawfulFactIn, fact_at}

-- the one spelling of a group
unfoldable pub group_bytes : Grouped → List ℕ
group_bytes g = number_bytes 8 g.serial ++ (number_bytes 2 (length g.facts) ++ flat_map fact_bytes g.facts)

-- a group that has a spelling in a version: 1 to 64 facts, whose numbers fit
pub record IsLawfulGroupIn (version : Version) (g : Grouped) : Type 0 where
  pub some : 1 ≤ length g.facts
  pub few : length g.facts ≤ max_group
  pub room : g.serial + length g.facts < 2 ^ 64
  pub facts : AllByRecursion (IsLawfulFactIn version) g.facts

-- the same in version 2, which is written
abbrev pub IsLawfulGroup : Grouped → Type 0
IsLawfulGroup g = IsLawfulGroupIn Two g

-- so many facts at the front
unfoldable pub facts_at : Version → ℕ → List ℕ → Reading (List Fact)
facts_at version zero bytes = Ok ([], bytes)
facts_at version (suc n) bytes = do
  first ← fact_at version bytes
  others ← facts_at version n first.1
  Ok (first.0 ∷ others.0, others.1)

-- a group at the front
unfoldable pub group_at : Version → List ℕ → Reading Grouped
group_at version bytes = do
  serial ← number_at 8 bytes
  count ← number_at 2 serial.1
  count ← if_lawful (nat_le 1 count.0 && nat_le count.0 64 && nat_lt (serial.0 + count.0) (2 ^ 64)) serial.1 count
  facts ← facts_at version count.0 count.1
  Ok (record { serial = serial.0; facts = facts.0 }, facts.1)

-- the group that all the bytes spell in a version, or the offset of the fault
unfoldable pub group_in : Version → List ℕ → Result Grouped ℕ
group_in version bytes = at_end (length bytes) (group_at version bytes)
