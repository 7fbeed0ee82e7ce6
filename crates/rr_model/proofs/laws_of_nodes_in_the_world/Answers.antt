use Rattle.rr_model.proofs.NodeInWorld.{reached_in_world, reached_marks, settles_in_world, puts_back_in_world, goes_down_in_world}
use Rattle.rr_model.proofs.NodeRestarts.{restarts_in_world}
use Rattle.rr_model.proofs.Frames.{steps_alone, stays_in_world, event_at, event_says}
use Rattle.rr_model.proofs.laws_of_nodes_in_the_world.Goals as goal

pub returns-clause-events_are_steps : goal.returns-clause-events_are_steps
returns-clause-events_are_steps c = λ settled n p facts h s e r x l. reached_in_world n p facts h s r settled e x l

pub returns-clause-one_step_settles_the_group : goal.returns-clause-one_step_settles_the_group
returns-clause-one_step_settles_the_group c = λ n p facts h s. settles_in_world n p facts h s

pub returns-clause-marking_is_no_step : goal.returns-clause-marking_is_no_step
returns-clause-marking_is_no_step c = λ n p facts h s r. reached_marks n p facts h s r

pub returns-clause-putting_back_is_no_step : goal.returns-clause-putting_back_is_no_step
returns-clause-putting_back_is_no_step c = λ n p facts h s. puts_back_in_world n p facts h s

pub returns-clause-nodes_may_go_down : goal.returns-clause-nodes_may_go_down
returns-clause-nodes_may_go_down c = λ settled n p facts h s. goes_down_in_world settled n p facts h s

pub returns-clause-nodes_may_restart : goal.returns-clause-nodes_may_restart
returns-clause-nodes_may_restart c = λ n p kept staged count. restarts_in_world n p kept staged count

pub returns-clause-events_happen_at_their_node : goal.returns-clause-events_happen_at_their_node
returns-clause-events_happen_at_their_node c = λ p s e. event_at p s e

pub returns-clause-events_say_just_that : goal.returns-clause-events_say_just_that
returns-clause-events_say_just_that c = λ p s e. event_says p s e

pub returns-clause-others_are_left_alone : goal.returns-clause-others_are_left_alone
returns-clause-others_are_left_alone c = λ q p w steps other at. steps_alone q p w steps other at

pub returns-clause-nodes_left_alone_stay_in_the_world : goal.returns-clause-nodes_left_alone_stay_in_the_world
returns-clause-nodes_left_alone_stay_in_the_world c = λ settled n q facts h s w v a i. stays_in_world settled n q facts h s w v a i
