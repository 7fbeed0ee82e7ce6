use Rattle.rr_model.proofs.Majorities.{can_decide}
use Rattle.rr_model.proofs.Served.{can_serve}
use Rattle.rr_model.proofs.no_dead_end.Goals as goal

pub returns : goal.returns
returns c = record {
  a_majority_can_decide = λ n run r set enough c i. can_decide n run r set enough c i;
  each_request_can_be_served = λ n run r set enough c. can_serve n run r set enough c;
}
