use Rattle.std.proofs.Common.{refl}
use Rattle.rr_model.proofs.ClusterRuns.{two_rounds_run, first_round_chooses, unheard_may_not_decide, another_may_not_be_proposed, two_rounds_decide}
use Rattle.rr_model.proofs.examples_of_two_rounds.Goals as goal

pub returns : goal.returns
returns c = record {
  two_rounds_are_a_run = two_rounds_run;
  the_first_round_chooses = first_round_chooses;
  its_coordinator_may_not_decide = unheard_may_not_decide;
  no_other_command_may_be_proposed = another_may_not_be_proposed;
  what_node_0_keeps = refl;
  node_2_decides_the_same = refl;
  the_decided_list_has_it = two_rounds_decide;
}
