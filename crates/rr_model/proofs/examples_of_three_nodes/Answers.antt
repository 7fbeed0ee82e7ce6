use Rattle.std.proofs.Common.{refl}
use Rattle.rr_model.proofs.ClusterRuns.{others_run, lost_run, kept_run, lost_estimate_may_not_be_sent}
use Rattle.rr_model.proofs.examples_of_three_nodes.Goals as goal

pub returns : goal.returns
returns c = record {
  a_node_decides_by_the_others = others_run;
  it_adopts_nothing = refl;
  a_crash_may_lose_a_fact = refl;
  a_crash_may_keep_it = refl;
  nobody_had_heard_of_it = λ count. refl;
  a_run_goes_on_without_it = lost_run;
  a_run_goes_on_with_it = kept_run;
  a_lost_fact_backs_no_message = lost_estimate_may_not_be_sent;
}
