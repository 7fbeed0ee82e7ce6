-- Facts as bytes: kind, instance, then round, stamp and command as the kind has them.
use Rattle.std.specs.Prelude.{ℕ, ◌<◌, ◌≤◌, ◌&&◌, ◌==◌, nat_lt, nat_le, if◌then◌else◌, List, ◌++◌, length, Result, Ok}
use Rattle.rr_types.specs.declared.command.Command.{Command}
use Rattle.rr_types.specs.declared.fact.Fact.{Fact}
use Rattle.rr_types.specs.declared.fact.Fact.TheVariants.{Enter, Propose, Adopt, Decide}
use Rattle.rr_types.specs.Rounds.{Estimated}
use Rattle.rr_types.specs.Limits.{last_round}
use Rattle.rr_frame.specs.Numbers.{number_bytes}
use Rattle.rr_frame.specs.declared.version.Version.{Version}
use Rattle.rr_frame.specs.declared.version.Version.TheVariants.{Two}
use Rattle.rr_frame.specs.Versions.{instances}
use Rattle.rr_frame.specs.Reading.{Reading, ◌>>=◌, if_lawful, number_at, at_end}
use Rattle.rr_frame.specs.CommandFormat.{command_bytes, IsLawfulCommandIn, command_at}

-- a round and a command
abbrev pub round_bytes : ℕ → Command → List ℕ
round_bytes r v = number_bytes 4 r ++ command_bytes v

-- an estimate: round, stamp, command
unfoldable pub estimate_bytes : Estimated → List ℕ
estimate_bytes e = number_bytes 4 e.round ++ (number_bytes 4 e.stamp ++ command_bytes e.command)

-- the one spelling of a fact
unfoldable pub fact_bytes : Fact → List ℕ
fact_bytes (Enter i e) = number_bytes 1 1 ++ (number_bytes 4 i ++ estimate_bytes e)
fact_bytes (Propose i r v) = number_bytes 1 2 ++ (number_bytes 4 i ++ round_bytes r v)
fact_bytes (Adopt i r v) = number_bytes 1 3 ++ (number_bytes 4 i ++ round_bytes r v)
fact_bytes (Decide i v) = number_bytes 1 4 ++ (number_bytes 4 i ++ command_bytes v)

-- a round's number
abbrev pub IsRound : ℕ → Type 0
IsRound r = (1 ≤ r) × (r ≤ last_round)

-- an estimate that has a spelling in a version: its stamp lies below its round
pub record IsLawfulEstimateIn (version : Version) (e : Estimated) : Type 0 where
  pub round : IsRound e.round
  pub stamp : e.stamp < e.round
  pub command : IsLawfulCommandIn version e.command

-- a fact that has a spelling in a version
abbrev pub IsLawfulFactIn : Version → Fact → Type 0
IsLawfulFactIn version (Enter i e) = (i < instances version) × IsLawfulEstimateIn version e
IsLawfulFactIn version (Propose i r v) = (i < instances version) × IsRound r × IsLawfulCommandIn version v
IsLawfulFactIn version (Adopt i r v) = (i < instances version) × IsRound r × IsLawfulCommandIn version v
IsLawfulFactIn version (Decide i v) = (i < instances version) × IsLawfulCommandIn version v

-- the same in version 2, which is written
abbrev pub IsLawfulEstimate : Estimated → Type 0
IsLawfulEstimate e = IsLawfulEstimateIn Two e

abbrev pub IsLawfulFact : Fact → Type 0
IsLawfulFact f = IsLawfulFactIn Two f

-- an instance at the front
unfoldable pub instance_at : Version → List ℕ → Reading ℕ
instance_at version bytes = do
  instance ← number_at 4 bytes
  if_lawful (nat_lt instance.0 (instances version)) bytes instance

-- a round at the front
unfoldable pub round_at : List ℕ → Reading ℕ
round_at bytes = do
  round ← number_at 4 bytes
  if_lawful (nat_le 1 round.0 && nat_le round.0 last_round) bytes round

-- an estimate at the front
unfoldable pub estimate_at : Version → List ℕ → Reading Estimated
estimate_at version bytes = do
  round ← round_at bytes
  stamp ← number_at 4 round.1
  stamp ← if_lawful (nat_lt stamp.0 round.0) round.1 stamp
  command ← command_at version stamp.1
  Ok (record { round = round.0; stamp = stamp.0; command = command.0 }, command.1)

-- what stands behind the instance, by the fact's kind
unfoldable pub fact_with : Version → ℕ → ℕ → List ℕ → Reading Fact
fact_with version kind i bytes =
    if kind == 1 then (estimate_at version bytes >>= λ (e : Estimated × List ℕ). Ok (Enter i e.0, e.1))
    else (if kind == 2 then (round_at bytes >>= λ (r : ℕ × List ℕ). command_at version r.1 >>= λ (v : Command × List ℕ). Ok (Propose i r.0 v.0, v.1))
    else (if kind == 3 then (round_at bytes >>= λ (r : ℕ × List ℕ). command_at version r.1 >>= λ (v : Command × List ℕ). Ok (Adopt i r.0 v.0, v.1))
    else (command_at version bytes >>= λ (v : Command × List ℕ). Ok (Decide i v.0, v.1))))

-- a fact at the front
unfoldable pub fact_at : Version → List ℕ → Reading Fact
fact_at version bytes = do
  kind ← number_at 1 bytes
  kind ← if_lawful (nat_le 1 kind.0 && nat_le kind.0 4) bytes kind
  instance ← instance_at version kind.1
  fact_with version kind.0 instance.0 instance.1

-- the fact that all the bytes spell in a version, or the offset of the fault
unfoldable pub fact_in : Version → List ℕ → Result Fact ℕ
fact_in version bytes = at_end (length bytes) (fact_at version bytes)
