-- Runs of one node as examples: it decides, acknowledges and restarts, or loses a fact; and facts that aren't lawful.
use Rattle.std.specs.Prelude.{◌≡◌, ℕ, ◌≤◌, List, [], ◌∷◌, Option, None, Some}
use Rattle.rr_types.specs.declared.command.Command.{Command}
use Rattle.rr_types.specs.declared.command.RequestNo.{RequestNo}
use Rattle.rr_types.specs.declared.command.Op.TheVariants.{Claim}
use Rattle.rr_types.specs.declared.command.Reply.TheVariants.{Claimed}
use Rattle.rr_types.specs.declared.fact.Fact.TheVariants.{Enter, Propose, Adopt, Decide}
use Rattle.rr_types.specs.declared.promise.Standing.{Standing}
use Rattle.rr_types.specs.declared.promise.Standing.TheVariants.{Open}
use Rattle.rr_types.specs.declared.message.Body.{Body}
use Rattle.rr_types.specs.declared.message.Body.TheVariants.{Estimate, Proposal, Ack}
use Rattle.rr_types.specs.declared.message.Message.{Message}
use Rattle.rr_types.specs.Standings.{stamp_of}
use Rattle.rr_types.specs.Rounds.{Estimated, coordinator_of}
use Rattle.rr_model.specs.Lawful.{Heard, IsLawfulAt}
use Rattle.rr_model.specs.World.{Told, Sent, Acknowledged, Reported, Step, Submit, Hear, Stage, Settle, Send, Acknowledge, GoDown, Restart, nothing_heard}

-- the first request of client 1
abbrev pub first_request : RequestNo
first_request = record { client = 1; seq = 1 }

-- client 1 claims the name a with the value x
abbrev pub claim_a_x : Command
claim_a_x = record { request = first_request; op = Claim (97 ∷ []) (120 ∷ []) }

-- a node enters round 1 with this command, which it never adopted
abbrev pub first_estimate : Estimated
first_estimate = record { round = 1; stamp = 0; command = claim_a_x }

-- a message of node 0 to itself
abbrev pub to_itself : Body → Message
to_itself body = record { from = 0; to = 0; body = body }

-- one node takes a command through the four phases, acknowledges it, crashes and restarts
abbrev pub decides_and_acknowledges : List Step
decides_and_acknowledges =
    Restart 0 0 ∷ Submit 0 claim_a_x
    ∷ Stage 0 (Enter 0 first_estimate) ∷ Settle 0 1 ∷ Send 0 (to_itself (Estimate 0 first_estimate)) ∷ Hear 0 (to_itself (Estimate 0 first_estimate))
    ∷ Stage 0 (Propose 0 1 claim_a_x) ∷ Settle 0 1 ∷ Send 0 (to_itself (Proposal 0 1 claim_a_x)) ∷ Hear 0 (to_itself (Proposal 0 1 claim_a_x))
    ∷ Stage 0 (Adopt 0 1 claim_a_x) ∷ Settle 0 1 ∷ Send 0 (to_itself (Ack 0 1)) ∷ Hear 0 (to_itself (Ack 0 1))
    ∷ Stage 0 (Decide 0 claim_a_x) ∷ Settle 0 1 ∷ Acknowledge 0 first_request Claimed
    ∷ GoDown 0 ∷ Restart 0 0 ∷ []

-- what that run tells
abbrev pub told_by_it : List Told
told_by_it =
    Reported 0 0 []
    ∷ Sent (to_itself (Estimate 0 first_estimate)) ∷ Sent (to_itself (Proposal 0 1 claim_a_x)) ∷ Sent (to_itself (Ack 0 1))
    ∷ Acknowledged 0 first_request Claimed
    ∷ Reported 0 1 ((97 ∷ [], record { owner = 1; value = 120 ∷ [] }) ∷ []) ∷ []

-- a node stages a fact and crashes
abbrev pub stages_and_crashes : List Step
stages_and_crashes = Restart 0 0 ∷ Submit 0 claim_a_x ∷ Stage 0 (Enter 0 first_estimate) ∷ GoDown 0 ∷ []

-- the crash lost the fact, and the client submits its command again
abbrev pub goes_on : List Step
goes_on = Restart 0 0 ∷ Submit 0 claim_a_x ∷ Stage 0 (Enter 0 first_estimate) ∷ Settle 0 1 ∷ []

-- no node but the coordinator may propose in a round
abbrev pub IsProposeOfAnotherUnlawful : Type 0
IsProposeOfAnotherUnlawful =
    (n p i r : ℕ) (v : Command) (s : Option Standing) (h : Heard) → (p ≡ coordinator_of r n → ⊥)
    → IsLawfulAt n p s h (Propose i r v)
    → ⊥

-- no node may adopt in a round at or below its stamp
abbrev pub IsAdoptBelowTheStampUnlawful : Type 0
IsAdoptBelowTheStampUnlawful = (n p i r : ℕ) (v : Command) (s : Option Standing) (h : Heard) → r ≤ stamp_of s → IsLawfulAt n p s h (Adopt i r v) → ⊥

-- node 1 of 3 has proposed in round 1
abbrev pub has_proposed : Option Standing
has_proposed = Some (Open (record { round = 1; stamp = 0; estimate = claim_a_x; proposal = Some claim_a_x }))

-- it has heard one acknowledgement, twice
abbrev pub one_ack_twice : Heard
one_ack_twice = record { messages = record { from = 0; to = 1; body = Ack 0 1 } ∷ record { from = 0; to = 1; body = Ack 0 1 } ∷ []; commands = [] }

-- so it may not decide
abbrev pub IsDecideWithoutMajorityUnlawful : Type 0
IsDecideWithoutMajorityUnlawful = IsLawfulAt 3 1 has_proposed one_ack_twice (Decide 0 claim_a_x) → ⊥

-- no node may enter its first round with a command that it did not hear
abbrev pub IsEnterWithMadeUpCommandUnlawful : Type 0
IsEnterWithMadeUpCommandUnlawful = (n p i : ℕ) (e : Estimated) → IsLawfulAt n p None nothing_heard (Enter i e) → ⊥
