-- Runs of three nodes as examples: two rounds, a crash, instances out of order and decided twice; and steps that may not happen.
use Rattle.std.specs.Prelude.{ℕ, List, [], ◌∷◌, ◌++◌}
use Rattle.rr_types.specs.declared.command.Command.{Command}
use Rattle.rr_types.specs.declared.command.Op.TheVariants.{Claim}
use Rattle.rr_types.specs.declared.command.Reply.TheVariants.{Claimed}
use Rattle.rr_types.specs.declared.fact.Fact.{Fact}
use Rattle.rr_types.specs.declared.fact.Fact.TheVariants.{Enter, Propose, Adopt, Decide}
use Rattle.rr_types.specs.declared.message.Body.{Body}
use Rattle.rr_types.specs.declared.message.Body.TheVariants.{Estimate, Proposal, Ack}
use Rattle.rr_types.specs.declared.message.Message.{Message}
use Rattle.rr_types.specs.Registry.{Bindings}
use Rattle.rr_types.specs.Rounds.{Estimated, coordinator_of}
use Rattle.rr_model.specs.Lawful.{IsLawful}
use Rattle.rr_model.specs.World.{World, Step, Submit, Hear, Stage, Settle, Send, Acknowledge, GoDown, Restart, MayHappen, end_of}
use Rattle.rr_model.specs.Examples.{first_request, claim_a_x, first_estimate}

-- client 2 claims the name a with the value y
abbrev pub claim_a_y : Command
claim_a_y = record { request = record { client = 2; seq = 1 }; op = Claim (97 ∷ []) (121 ∷ []) }

-- a message from one node to another, or to itself
abbrev pub from_to : ℕ → ℕ → Body → Message
from_to p q body = record { from = p; to = q; body = body }

-- what a node enters round r with: a command, and the round in which it adopted that, or 0
abbrev pub round_stamp : ℕ → ℕ → Command → Estimated
round_stamp r t v = record { round = r; stamp = t; command = v }

-- node p stages a fact, and keeps it
abbrev pub keeps : ℕ → Fact → List Step
keeps p f = Stage p f ∷ Settle p 1 ∷ []

-- node p tells node q something, and node q hears it
abbrev pub tells : ℕ → ℕ → Body → List Step
tells p q body = Send p (from_to p q body) ∷ Hear q (from_to p q body) ∷ []

-- three nodes come up, with nothing on their disks
abbrev pub three_nodes_start : List Step
three_nodes_start = Restart 0 0 ∷ Restart 1 0 ∷ Restart 2 0 ∷ []

-- a client submits a command to each of three nodes
abbrev pub to_each_node : Command → List Step
to_each_node v = Submit 0 v ∷ Submit 1 v ∷ Submit 2 v ∷ []

-- node p enters a round of instance i, and the round's coordinator hears its estimate
abbrev pub enters : ℕ → ℕ → Estimated → List Step
enters p i e = keeps p (Enter i e) ++ tells p (coordinator_of e.round 3) (Estimate i e)

-- the coordinator of round r proposes a command, and nodes p and q hear it
abbrev pub proposes : ℕ → ℕ → Command → ℕ → ℕ → List Step
proposes i r v p q =
    let coordinator : ℕ = coordinator_of r 3 in
    keeps coordinator (Propose i r v) ++ tells coordinator p (Proposal i r v) ++ tells coordinator q (Proposal i r v)

-- node p adopts the proposal of round r, and the coordinator hears its acknowledgement
abbrev pub adopts : ℕ → ℕ → ℕ → Command → List Step
adopts p i r v = keeps p (Adopt i r v) ++ tells p (coordinator_of r 3) (Ack i r)

-- node p adopts the proposal of round r, and its acknowledgement is lost
abbrev pub adopts_unheard : ℕ → ℕ → ℕ → Command → List Step
adopts_unheard p i r v = keeps p (Adopt i r v) ++ Send p (from_to p (coordinator_of r 3) (Ack i r)) ∷ []

-- node 1 coordinates round 1: nodes 0 and 1 adopt its proposal, and it hears of no acknowledgement
abbrev pub first_round : List Step
first_round =
    three_nodes_start ++ Submit 0 claim_a_x ∷ Submit 1 claim_a_x ∷ Submit 2 claim_a_y ∷ []
    ++ enters 0 0 first_estimate ++ enters 1 0 first_estimate
    ++ proposes 0 1 claim_a_x 0 1
    ++ adopts_unheard 0 0 1 claim_a_x ++ adopts_unheard 1 0 1 claim_a_x

-- node 2 coordinates round 2: node 0 enters it with what it adopted in round 1, node 2 with the command of its own client
abbrev pub second_round_begins : List Step
second_round_begins = enters 0 0 (round_stamp 2 1 claim_a_x) ++ enters 2 0 (round_stamp 2 0 claim_a_y)

-- so node 2 proposes the command of round 1. Nodes 0 and 2 adopt it, and node 2 decides
abbrev pub second_round_ends : List Step
second_round_ends =
    proposes 0 2 claim_a_x 0 2
    ++ adopts 0 0 2 claim_a_x ++ adopts 2 0 2 claim_a_x
    ++ keeps 2 (Decide 0 claim_a_x)

-- both rounds
abbrev pub two_rounds : List Step
two_rounds = first_round ++ second_round_begins ++ second_round_ends

-- node 1 may not decide after round 1, though its command is chosen
abbrev pub IsDecideUnheardUnlawful : Type 0
IsDecideUnheardUnlawful = MayHappen 3 (end_of first_round) (Stage 1 (Decide 0 claim_a_x)) → ⊥

-- once round 2 has begun, node 2 may not propose the command of its own client
abbrev pub IsProposeOfAnotherCommandUnlawful : Type 0
IsProposeOfAnotherCommandUnlawful =
    let w : World = end_of (first_round ++ second_round_begins) in
    IsLawful 3 2 (w.kept 2 ++ w.staged 2) (w.heard 2) (Propose 0 2 claim_a_y) → ⊥

-- what node 0 keeps, over both rounds
abbrev pub kept_over_two_rounds : List Fact
kept_over_two_rounds =
    Enter 0 first_estimate ∷ Adopt 0 1 claim_a_x ∷ Enter 0 (round_stamp 2 1 claim_a_x) ∷ Adopt 0 2 claim_a_x ∷ []

-- node 1 decides a command for instance i in round 1, by the estimates and the acknowledgements of nodes 0 and 2 alone
abbrev pub decides : ℕ → Command → List Step
decides i v =
    to_each_node v
    ++ enters 0 i (round_stamp 1 0 v) ++ enters 2 i (round_stamp 1 0 v) ++ keeps 1 (Enter i (round_stamp 1 0 v))
    ++ proposes i 1 v 0 2
    ++ adopts 0 i 1 v ++ adopts 2 i 1 v
    ++ keeps 1 (Decide i v)

-- a node decides, and is not one of the majority that acknowledged
abbrev pub decides_by_the_others : List Step
decides_by_the_others = three_nodes_start ++ decides 0 claim_a_x

-- what node 1 keeps of that: it adopts nothing
abbrev pub kept_by_it : List Fact
kept_by_it = Enter 0 first_estimate ∷ Propose 0 1 claim_a_x ∷ Decide 0 claim_a_x ∷ []

-- node 0 stages its estimate, and crashes before it says so. The crash keeps so many of its staged facts
abbrev pub crashes_before_it_tells : ℕ → List Step
crashes_before_it_tells count =
    three_nodes_start ++ Submit 0 claim_a_x ∷ Stage 0 (Enter 0 first_estimate) ∷ GoDown 0 ∷ Restart 0 count ∷ []

-- the fact was lost: the client submits its command again, and node 0 enters the round anew
abbrev pub enters_anew : List Step
enters_anew = Submit 0 claim_a_x ∷ enters 0 0 first_estimate

-- the fact was kept: node 0 says so now
abbrev pub tells_it_now : List Step
tells_it_now = tells 0 1 (Estimate 0 first_estimate)

-- where the fact was lost, node 0 may not say so
abbrev pub IsLostEstimateUnlawful : Type 0
IsLostEstimateUnlawful = MayHappen 3 (end_of (crashes_before_it_tells 0)) (Send 0 (from_to 0 1 (Estimate 0 first_estimate))) → ⊥

-- instance 1 is decided first
abbrev pub decides_instance_1 : List Step
decides_instance_1 = three_nodes_start ++ decides 1 claim_a_y

-- and then instance 0
abbrev pub decides_out_of_order : List Step
decides_out_of_order = decides_instance_1 ++ decides 0 claim_a_x

-- one command is decided twice, for instances 0 and 1. Node 1 acknowledges it, crashes and restarts
abbrev pub decides_twice : List Step
decides_twice = three_nodes_start ++ decides 0 claim_a_x ++ decides 1 claim_a_x ++ Acknowledge 1 first_request Claimed ∷ GoDown 1 ∷ Restart 1 0 ∷ []

-- the name a, bound once
abbrev pub registry_of_one_claim : Bindings
registry_of_one_claim = (97 ∷ [], record { owner = 1; value = 120 ∷ [] }) ∷ []
