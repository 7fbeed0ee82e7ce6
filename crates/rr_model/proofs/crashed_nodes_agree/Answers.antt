use Rattle.rr_model.proofs.CrashedNodes.{decide_alike, begin_the_list, know_their_replies}
use Rattle.rr_model.proofs.crashed_nodes_agree.Goals as goal

pub returns-clause-they_decide_alike : goal.returns-clause-they_decide_alike
returns-clause-they_decide_alike c = λ n run r. decide_alike n run r

pub returns-clause-they_begin_the_list : goal.returns-clause-they_begin_the_list
returns-clause-they_begin_the_list c = λ n run r. begin_the_list n run r

pub returns-clause-they_know_their_replies : goal.returns-clause-they_know_their_replies
returns-clause-they_know_their_replies c = λ n run r. know_their_replies n run r
