use Rattle.rr_model.proofs.NodeRuns.{enters_alone, waits_alone, decides_alone, leaves_alone, acknowledges_alone, gap_stays, gap_is_filled}
use Rattle.rr_model.proofs.examples_of_nodes.Goals as goal

pub returns-clause-it_enters_the_first_round : goal.returns-clause-it_enters_the_first_round
returns-clause-it_enters_the_first_round c = enters_alone

pub returns-clause-its_estimate_waits : goal.returns-clause-its_estimate_waits
returns-clause-its_estimate_waits c = waits_alone

pub returns-clause-it_goes_through_the_phases : goal.returns-clause-it_goes_through_the_phases
returns-clause-it_goes_through_the_phases c = decides_alone

pub returns-clause-its_estimate_leaves_once_marked : goal.returns-clause-its_estimate_leaves_once_marked
returns-clause-its_estimate_leaves_once_marked c = leaves_alone

pub returns-clause-it_acknowledges_once_marked : goal.returns-clause-it_acknowledges_once_marked
returns-clause-it_acknowledges_once_marked c = acknowledges_alone

pub returns-clause-a_gap_stays_where_only_its_command_comes : goal.returns-clause-a_gap_stays_where_only_its_command_comes
returns-clause-a_gap_stays_where_only_its_command_comes c = gap_stays

pub returns-clause-another_command_fills_it : goal.returns-clause-another_command_fills_it
returns-clause-another_command_fills_it c = gap_is_filled
