use Rattle.rr_model.proofs.NodeReached.{reached_truthful, reached_itself, reached_fits, reached_lawful, reached_opens}
use Rattle.rr_model.proofs.NodeRounds.{reached_names_rounds}
use Rattle.rr_model.proofs.laws_of_reached_nodes.Goals as goal

pub returns-clause-reached_nodes_are_truthful : goal.returns-clause-reached_nodes_are_truthful
returns-clause-reached_nodes_are_truthful c = λ n p facts h s r. reached_truthful n p facts h s r

pub returns-clause-they_stay_who_they_are : goal.returns-clause-they_stay_who_they_are
returns-clause-they_stay_who_they_are c = λ n p facts h s r. reached_itself n p facts h s r

pub returns-clause-their_facts_fit : goal.returns-clause-their_facts_fit
returns-clause-their_facts_fit c = λ n p facts h s r. reached_fits n p facts h s r

pub returns-clause-they_stage_only_lawful_facts : goal.returns-clause-they_stage_only_lawful_facts
returns-clause-they_stage_only_lawful_facts c = λ n p facts h s e r x. reached_lawful n p facts h s r e x

pub returns-clause-they_open_only_the_lowest : goal.returns-clause-they_open_only_the_lowest
returns-clause-they_open_only_the_lowest c = λ n p facts h s e r x. reached_opens n p facts h s r e x

pub returns-clause-their_messages_name_rounds : goal.returns-clause-their_messages_name_rounds
returns-clause-their_messages_name_rounds c = λ n p facts h s m r e. reached_names_rounds n p facts h s r m e
