use Rattle.std.proofs.Common.{◌≡◌, true, subst}
use Rattle.rr_types.specs.Commands.{is_same_command}
use Rattle.rr_types.specs.Facts.{instance_of, standing_of}
use Rattle.rr_model.proofs.Promised.{standing_in-promise_of, lawful_fits}
use Rattle.rr_model.proofs.Permitted.{lawful_permitted}
use Rattle.rr_model.proofs.SameCommands.{same_command, command_same}
use Rattle.rr_model.proofs.laws_of_facts.Goals as goal

pub returns-clause-a_promise_says_where_instances_stand : goal.returns-clause-a_promise_says_where_instances_stand
returns-clause-a_promise_says_where_instances_stand c = λ facts i. standing_in-promise_of facts i

pub returns-clause-lawful_facts_fit : goal.returns-clause-lawful_facts_fit
returns-clause-lawful_facts_fit c = λ n p facts h f l. lawful_fits n p (standing_of (instance_of f) facts) h f (lawful_permitted n p (standing_of (instance_of f) facts) h f l)

pub returns-clause-same_commands_are_equal : goal.returns-clause-same_commands_are_equal
returns-clause-same_commands_are_equal c = λ c d. (λ t. same_command c d t, λ e. subst (λ z. is_same_command c z ≡ true) e (command_same c))
