use Rattle.std.proofs.Common.{refl, arith}
use Rattle.rr_model.proofs.ClusterRuns.{out_of_order_run, instance_1_chosen, empty_then, both_at_the_end, twice_run, twice_in_the_list}
use Rattle.rr_model.proofs.examples_of_two_instances.Goals as goal

pub returns : goal.returns
returns c = record {
  instances_are_decided_out_of_order = out_of_order_run;
  instance_1_is_chosen_first = instance_1_chosen;
  the_list_is_empty_then = empty_then;
  so_is_the_prefix_of_its_node = refl;
  the_list_has_both_at_the_end = both_at_the_end;
  so_has_the_prefix_of_its_node = refl;
  a_command_is_decided_twice = twice_run;
  the_list_has_it_twice = twice_in_the_list;
  the_first_gives_the_reply = (15, omega arith, refl);
  the_second_binds_nothing = (16, omega arith, refl);
}
