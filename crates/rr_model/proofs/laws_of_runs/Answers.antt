use Rattle.rr_model.proofs.Laws.{beginning_is_a_run, chosen_stays_chosen, decided_list_grows, kept_facts_are_never_lost, rounds_rise_over_restarts as rounds_rise, acknowledgement_binds_estimates, later_proposals_are_locked as proposals_are_locked}
use Rattle.rr_model.specs.World.{end_of}
use Rattle.rr_model.specs.Laws.{settled}
use Rattle.rr_model.proofs.Soundness.{invariant_of}
use Rattle.rr_model.proofs.Invariants.{all_said, settled_history}
use Rattle.rr_model.proofs.Promised.{history_fits}
use Rattle.rr_model.proofs.laws_of_runs.Goals as goal

pub returns-clause-a_beginning_is_a_run : goal.returns-clause-a_beginning_is_a_run
returns-clause-a_beginning_is_a_run c = λ n run r. beginning_is_a_run n run r

pub returns-clause-what_is_chosen_stays_chosen : goal.returns-clause-what_is_chosen_stays_chosen
returns-clause-what_is_chosen_stays_chosen c = λ n run r. chosen_stays_chosen n run

pub returns-clause-the_decided_list_only_grows : goal.returns-clause-the_decided_list_only_grows
returns-clause-the_decided_list_only_grows c = λ n run r. decided_list_grows n run r

pub returns-clause-kept_facts_are_never_lost : goal.returns-clause-kept_facts_are_never_lost
returns-clause-kept_facts_are_never_lost c = λ n run r. kept_facts_are_never_lost run

pub returns-clause-rounds_rise_over_restarts : goal.returns-clause-rounds_rise_over_restarts
returns-clause-rounds_rise_over_restarts c = λ n run r. rounds_rise n run r

pub returns-clause-an_ack_binds_later_estimates : goal.returns-clause-an_ack_binds_later_estimates
returns-clause-an_ack_binds_later_estimates c = λ n run r. acknowledgement_binds_estimates n run r

pub returns-clause-later_proposals_are_locked : goal.returns-clause-later_proposals_are_locked
returns-clause-later_proposals_are_locked c = λ n run r. proposals_are_locked n run r

pub returns-clause-what_a_crash_leaves_fits : goal.returns-clause-what_a_crash_leaves_fits
returns-clause-what_a_crash_leaves_fits c = λ n run r p count. history_fits n p (all_said (end_of run)) (settled (end_of run) p count) (settled_history n (end_of run) p count (invariant_of n run r))
