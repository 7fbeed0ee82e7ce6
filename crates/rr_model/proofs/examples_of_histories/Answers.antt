use Rattle.rr_model.proofs.SmallHistories.{first_start_is_one, first_start_opens_well, first_start_is_empty, hears_nothing_unsent, does_nothing_down}
use Rattle.rr_model.proofs.examples_of_histories.Goals as goal

pub returns-clause-a_start_over_nothing : goal.returns-clause-a_start_over_nothing
returns-clause-a_start_over_nothing c = first_start_is_one

pub returns-clause-it_finds_its_facts : goal.returns-clause-it_finds_its_facts
returns-clause-it_finds_its_facts c = first_start_opens_well

pub returns-clause-a_first_start_finds_nothing : goal.returns-clause-a_first_start_finds_nothing
returns-clause-a_first_start_finds_nothing c = first_start_is_empty

pub returns-clause-what_nobody_sent_is_not_heard : goal.returns-clause-what_nobody_sent_is_not_heard
returns-clause-what_nobody_sent_is_not_heard c = hears_nothing_unsent

pub returns-clause-a_node_that_is_down_does_nothing : goal.returns-clause-a_node_that_is_down_does_nothing
returns-clause-a_node_that_is_down_does_nothing c = does_nothing_down
