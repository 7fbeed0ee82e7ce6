use Rattle.rr_model.proofs.NodeStages.{lawful_node, truthful_node}
use Rattle.rr_model.proofs.NodeFollows.{worldly_node}
use Rattle.rr_model.proofs.NodeEnds.{nothing_due, settled_stays, settles_on}
use Rattle.rr_model.proofs.NodeSteady.{input_stays}
use Rattle.rr_model.proofs.laws_of_nodes.Goals as goal

pub returns-clause-only_lawful_facts_are_staged : goal.returns-clause-only_lawful_facts_are_staged
returns-clause-only_lawful_facts_are_staged c = λ n p facts. lawful_node n p facts

pub returns-clause-nothing_is_due_at_the_end : goal.returns-clause-nothing_is_due_at_the_end
returns-clause-nothing_is_due_at_the_end c = λ s. nothing_due s

pub returns-clause-messages_are_backed : goal.returns-clause-messages_are_backed
returns-clause-messages_are_backed c = λ n p facts fit. truthful_node n p facts fit

pub returns-clause-events_are_steps_of_the_world : goal.returns-clause-events_are_steps_of_the_world
returns-clause-events_are_steps_of_the_world c = λ n p facts fit. worldly_node n p facts fit

pub returns-clause-what_is_due_is_done_first : goal.returns-clause-what_is_due_is_done_first
returns-clause-what_is_due_is_done_first c = λ s d e. settles_on s d e

pub returns-clause-where_nothing_is_due_nothing_happens : goal.returns-clause-where_nothing_is_due_nothing_happens
returns-clause-where_nothing_is_due_nothing_happens c = λ s e. settled_stays s e

pub returns-clause-inputs_mark_nothing : goal.returns-clause-inputs_mark_nothing
returns-clause-inputs_mark_nothing c = λ input s. input_stays input s
