use Rattle.rr_node.proofs.Falling.{crashes_in_step, fails_in_step}
use Rattle.rr_node.proofs.Starting.{starts_in_step}
use Rattle.rr_node.proofs.Stepping.{steps_in_step}
use Rattle.rr_model.proofs.Frames.{steps_alone}
use Rattle.rr_model.specs.Laws.{after_steps}
use Rattle.rr_node.proofs.Frames.{seat_stays}
use Rattle.rr_node.proofs.Holding.{seat_holds}
use Rattle.rr_node.proofs.laws.laws_of_seats.Goals as goal

pub returns-clause-a_new_node_is_in_step : goal.returns-clause-a_new_node_is_in_step
returns-clause-a_new_node_is_in_step c = starts_in_step

pub returns-clause-events_are_runs_of_steps : goal.returns-clause-events_are_runs_of_steps
returns-clause-events_are_runs_of_steps c = steps_in_step

pub returns-clause-failing_calls_are_runs_of_steps : goal.returns-clause-failing_calls_are_runs_of_steps
returns-clause-failing_calls_are_runs_of_steps c = fails_in_step

pub returns-clause-crashes_are_runs_of_steps : goal.returns-clause-crashes_are_runs_of_steps
returns-clause-crashes_are_runs_of_steps c = crashes_in_step

pub returns-clause-a_crash_leaves_what_is_kept : goal.returns-clause-a_crash_leaves_what_is_kept
returns-clause-a_crash_leaves_what_is_kept c = seat_holds

pub returns-clause-steps_elsewhere_keep_it_in_step : goal.returns-clause-steps_elsewhere_keep_it_in_step
returns-clause-steps_elsewhere_keep_it_in_step c = λ n p q seat w steps else own h. seat_stays n q w (after_steps w steps) (steps_alone q p w steps else own) seat h
