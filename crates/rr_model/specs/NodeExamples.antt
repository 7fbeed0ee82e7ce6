-- States of a node as examples: alone it decides a command; of three it has decided behind a gap.
use Rattle.std.specs.Prelude.{List, [], ◌∷◌}
use Rattle.rr_types.specs.declared.fact.Fact.{Fact}
use Rattle.rr_types.specs.declared.fact.Fact.TheVariants.{Enter, Adopt, Decide}
use Rattle.rr_types.specs.declared.message.Body.TheVariants.{Estimate, Proposal, Ack}
use Rattle.rr_model.specs.Examples.{claim_a_x, first_estimate, to_itself}
use Rattle.rr_model.specs.ClusterExamples.{claim_a_y, round_stamp}
use Rattle.rr_model.specs.NodeReached.{opened_over}
use Rattle.rr_model.specs.NodeState.{NodeState}
use Rattle.rr_types.specs.declared.input.Input.TheVariants.{Submit, Hear}
use Rattle.rr_model.specs.NodeStep.{node_step, group_taken, marked_running, started}

-- a node alone is told to claim the name a
unfoldable pub told_alone : NodeState
told_alone = node_step (Submit claim_a_x) (started 1 0 [] 0)

-- and then hears its own messages: estimate, proposal, acknowledgement
unfoldable pub decided_alone : NodeState
decided_alone =
    node_step (Hear (to_itself (Ack 0 1)))
    (node_step (Hear (to_itself (Proposal 0 1 claim_a_x)))
    (node_step (Hear (to_itself (Estimate 0 first_estimate))) told_alone))

-- what it staged is marked
unfoldable pub marked_alone : NodeState
marked_alone = marked_running (group_taken decided_alone)

-- a node of three has decided a command for instance 1, and never heard of instance 0
abbrev pub facts_beyond_a_gap : List Fact
facts_beyond_a_gap = Enter 1 (round_stamp 2 0 claim_a_x) ∷ Adopt 1 2 claim_a_x ∷ Decide 1 claim_a_x ∷ []

-- its client submits that command again
unfoldable pub asked_again : NodeState
asked_again = node_step (Submit claim_a_x) (opened_over 3 1 facts_beyond_a_gap)

-- and then another client a command of its own
unfoldable pub asked_by_another : NodeState
asked_by_another = node_step (Submit claim_a_y) asked_again
