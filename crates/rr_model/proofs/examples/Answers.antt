use Rattle.std.proofs.Common.{refl}
use Rattle.rr_model.proofs.SmallRuns.{it_runs, it_goes_on, another_may_not_propose, stamps_do_not_fall, no_majority, made_up_may_not_enter}
use Rattle.rr_model.proofs.examples.Goals as goal

pub returns-clause-a_node_decides_and_acknowledges : goal.returns-clause-a_node_decides_and_acknowledges
returns-clause-a_node_decides_and_acknowledges c = it_runs

pub returns-clause-what_it_tells : goal.returns-clause-what_it_tells
returns-clause-what_it_tells c = refl

pub returns-clause-a_run_goes_on_after_a_crash : goal.returns-clause-a_run_goes_on_after_a_crash
returns-clause-a_run_goes_on_after_a_crash c = it_goes_on

pub returns-clause-a_crash_loses_a_staged_fact : goal.returns-clause-a_crash_loses_a_staged_fact
returns-clause-a_crash_loses_a_staged_fact c = refl

pub returns-clause-another_node_may_not_propose : goal.returns-clause-another_node_may_not_propose
returns-clause-another_node_may_not_propose c = another_may_not_propose

pub returns-clause-no_adoption_below_the_stamp : goal.returns-clause-no_adoption_below_the_stamp
returns-clause-no_adoption_below_the_stamp c = stamps_do_not_fall

pub returns-clause-no_decision_without_a_majority : goal.returns-clause-no_decision_without_a_majority
returns-clause-no_decision_without_a_majority c = no_majority

pub returns-clause-no_estimate_made_up : goal.returns-clause-no_estimate_made_up
returns-clause-no_estimate_made_up c = made_up_may_not_enter
