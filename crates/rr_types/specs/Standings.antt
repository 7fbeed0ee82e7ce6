-- What is read off where an instance stands: round, stamp, estimate, proposal; and whether a fact fits there.
use Rattle.std.specs.Prelude.{◌≡◌, ℕ, Bool, true, false, ◌&&◌, ◌==◌, nat_lt, if◌then◌else◌, List, Option, None, Some, is_none}
use Rattle.std.specs.List.{fold}
use Rattle.rr_types.specs.declared.command.Command.{Command}
use Rattle.rr_types.specs.declared.fact.Fact.{Fact}
use Rattle.rr_types.specs.declared.fact.Fact.TheVariants.{Enter, Propose, Adopt, Decide}
use Rattle.rr_types.specs.declared.promise.Standing.{Standing}
use Rattle.rr_types.specs.declared.promise.Standing.TheVariants.{Decided, Open}
use Rattle.rr_types.specs.Commands.{is_same_command}
use Rattle.rr_types.specs.Rounds.{Estimated, coordinator_of}
use Rattle.rr_types.specs.Facts.{instance_of, after_fact}

-- whether the instance has not decided
abbrev pub is_undecided : Option Standing → Bool
is_undecided None = true
is_undecided (Some (Decided v)) = false
is_undecided (Some (Open o)) = true

-- the present round; 0 where there is none
abbrev pub round_of : Option Standing → ℕ
round_of None = 0
round_of (Some (Decided v)) = 0
round_of (Some (Open o)) = o.round

-- the stamp of the estimate: the round in which it was adopted; 0 where it never was
abbrev pub stamp_of : Option Standing → ℕ
stamp_of None = 0
stamp_of (Some (Decided v)) = 0
stamp_of (Some (Open o)) = o.stamp

-- the present estimate
abbrev pub estimate_of : Option Standing → Option Command
estimate_of None = None
estimate_of (Some (Decided v)) = None
estimate_of (Some (Open o)) = Some o.estimate

-- the command that the node proposed in the present round
abbrev pub proposal_of : Option Standing → Option Command
proposal_of None = None
proposal_of (Some (Decided v)) = None
proposal_of (Some (Open o)) = o.proposal

-- where instance i stands after facts, oldest first, if it stood so before them
abbrev pub standing_from : Option Standing → ℕ → List Fact → Option Standing
standing_from s i facts = fold (λ s f. if instance_of f == i then after_fact s f else s) s facts

-- whether an estimate goes on from this standing: it repeats estimate and stamp, or has stamp 0 where there is none
abbrev pub carries_on : Option Standing → Estimated → Bool
carries_on None e = e.stamp == 0
carries_on (Some (Decided v)) e = false
carries_on (Some (Open o)) e = e.stamp == o.stamp && is_same_command e.command o.estimate

-- whether a fact of node p of n fits the standing of its instance before it
abbrev pub fits : ℕ → ℕ → Option Standing → Fact → Bool
fits n p s (Enter i e) = is_undecided s && nat_lt (round_of s) e.round && carries_on s e
fits n p s (Propose i r v) = is_undecided s && round_of s == r && coordinator_of r n == p && is_none (proposal_of s)
fits n p s (Adopt i r v) = is_undecided s && round_of s == r && nat_lt (stamp_of s) r
fits n p s (Decide i v) = is_undecided s

-- an Adopt is of the present round
abbrev pub IsInRound : Option Standing → Fact → Type 0
IsInRound s (Enter i e) = Unit {0}
IsInRound s (Propose i r v) = Unit {0}
IsInRound s (Adopt i r v) = round_of s ≡ r
IsInRound s (Decide i v) = Unit {0}
