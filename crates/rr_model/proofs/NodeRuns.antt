-- The example of a node alone: it goes through the four phases, sends its estimate and acknowledges its request.
use Rattle.std.proofs.Common.{◌≡◌, [], ◌∷◌, None, Some, refl}
use Rattle.rr_types.specs.declared.fact.Fact.TheVariants.{Enter, Propose, Adopt, Decide}
use Rattle.rr_types.specs.declared.message.Body.TheVariants.{Estimate}
use Rattle.rr_model.specs.Examples.{claim_a_x, first_request, first_estimate, to_itself}
use Rattle.rr_model.specs.ClusterExamples.{claim_a_y, round_stamp}
use Rattle.rr_model.specs.NodeExamples.{told_alone, decided_alone, marked_alone, asked_again, asked_by_another}
use Rattle.rr_model.specs.NodeState.{open_instances}
use Rattle.rr_types.specs.Nodes.{joined}
use Rattle.rr_model.specs.NodeParts.{owe, pool_add, stage, free_command, enter, restate, conclude, propose}
use Rattle.rr_model.specs.NodeDue.{due, carry_out, settle_within, settle}
use Rattle.rr_model.specs.NodeStep.{wait_for, submitted, count_estimate, count_ack, take_proposal, heard_body, taken_in, node_step, group_taken, marked_running, next_leaving, next_acknowledged, started}

-- a node alone enters the first round
pub enters_alone : told_alone.staged ≡ Enter 0 first_estimate ∷ []
unfolding told_alone open_instances joined owe pool_add stage free_command enter restate conclude propose due carry_out settle_within settle wait_for submitted count_estimate count_ack take_proposal heard_body taken_in node_step started
enters_alone = refl

-- its estimate waits for that fact
pub waits_alone : next_leaving told_alone ≡ None
unfolding told_alone open_instances joined owe pool_add stage free_command enter restate conclude propose due carry_out settle_within settle wait_for submitted count_estimate count_ack take_proposal heard_body taken_in node_step started
waits_alone = refl

-- it goes through the four phases
pub decides_alone : decided_alone.staged ≡ Enter 0 first_estimate ∷ Propose 0 1 claim_a_x ∷ Adopt 0 1 claim_a_x ∷ Decide 0 claim_a_x ∷ []
unfolding told_alone decided_alone open_instances joined owe pool_add stage free_command enter restate conclude propose due carry_out settle_within settle wait_for submitted count_estimate count_ack take_proposal heard_body taken_in node_step started
decides_alone = refl

-- and once that is marked its estimate may leave, and its request is acknowledged
pub leaves_alone : next_leaving marked_alone ≡ Some (to_itself (Estimate 0 first_estimate))
unfolding told_alone decided_alone marked_alone group_taken marked_running open_instances joined owe pool_add stage free_command enter restate conclude propose due carry_out settle_within settle wait_for submitted count_estimate count_ack take_proposal heard_body taken_in node_step started
leaves_alone = refl

pub acknowledges_alone : next_acknowledged marked_alone ≡ Some first_request
unfolding told_alone decided_alone marked_alone group_taken marked_running open_instances joined owe pool_add stage free_command enter restate conclude propose due carry_out settle_within settle wait_for submitted count_estimate count_ack take_proposal heard_body taken_in node_step started
acknowledges_alone = refl

-- a node that has decided the only command it knows for a later instance has none for the gap below
pub gap_stays : asked_again.staged ≡ []
unfolding asked_again open_instances joined owe pool_add stage free_command enter restate conclude propose due carry_out settle_within settle wait_for submitted count_estimate count_ack take_proposal heard_body taken_in node_step started
gap_stays = refl

pub gap_is_filled : asked_by_another.staged ≡ Enter 0 (round_stamp 1 0 claim_a_y) ∷ []
unfolding asked_again asked_by_another open_instances joined owe pool_add stage free_command enter restate conclude propose due carry_out settle_within settle wait_for submitted count_estimate count_ack take_proposal heard_body taken_in node_step started
gap_is_filled = refl
