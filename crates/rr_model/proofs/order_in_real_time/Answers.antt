use Rattle.rr_model.proofs.Laws.{real_time_is_kept, later_commands_stand_behind as stand_behind}
use Rattle.rr_model.proofs.order_in_real_time.Goals as goal

pub returns-clause-acknowledged_comes_first : goal.returns-clause-acknowledged_comes_first
returns-clause-acknowledged_comes_first c = λ n run r. real_time_is_kept n run r

pub returns-clause-later_commands_stand_behind : goal.returns-clause-later_commands_stand_behind
returns-clause-later_commands_stand_behind c = λ n run r. stand_behind n run r
