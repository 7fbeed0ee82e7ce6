use Rattle.rr_model.proofs.NodesDecide.{decide_next, end_round}
use Rattle.rr_model.proofs.NodesPassOn.{learn}
use Rattle.rr_model.proofs.NodesFill.{fill_gaps}
use Rattle.rr_model.proofs.NodesServe.{acknowledge_decided}
use Rattle.rr_model.proofs.NodesServeAll.{serve_new}
use Rattle.rr_model.proofs.nodes_can_go_on.Goals as goal

pub returns : goal.returns
returns c = record { a_majority_can_decide_next = decide_next; a_round_can_be_ended = end_round; a_decision_can_be_learned = learn; gaps_can_be_filled = fill_gaps; a_decided_request_can_be_acknowledged = acknowledge_decided; each_request_can_be_served = serve_new }
