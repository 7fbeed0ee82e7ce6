use Rattle.rr_model.proofs.LostExamples.{asked_is_one, asked_opens_well, has_facts_of_eight, one_left_out, is_renewed_in_time, is_renewed_too_early}
use Rattle.rr_model.proofs.examples_of_lost_disks.Goals as goal

pub returns-clause-a_node_is_asked_alone : goal.returns-clause-a_node_is_asked_alone
returns-clause-a_node_is_asked_alone c = asked_is_one

pub returns-clause-it_finds_its_facts : goal.returns-clause-it_finds_its_facts
returns-clause-it_finds_its_facts c = asked_opens_well

pub returns-clause-it_has_facts_of_eight_instances : goal.returns-clause-it_has_facts_of_eight_instances
returns-clause-it_has_facts_of_eight_instances c = has_facts_of_eight

pub returns-clause-one_left_out_counts : goal.returns-clause-one_left_out_counts
returns-clause-one_left_out_counts c = one_left_out

pub returns-clause-a_disk_is_made_anew : goal.returns-clause-a_disk_is_made_anew
returns-clause-a_disk_is_made_anew c = is_renewed_in_time

pub returns-clause-not_with_an_instance_left_out : goal.returns-clause-not_with_an_instance_left_out
returns-clause-not_with_an_instance_left_out c = is_renewed_too_early
