use Rattle.rr_model.proofs.LostDisks.{history_bounds, may_begin_anew}
use Rattle.rr_model.proofs.NodeNews.{stages_news}
use Rattle.rr_model.proofs.Outweighed.{decisions_outweigh, news_outweigh_in_runs}
use Rattle.rr_model.proofs.lost_disks.Goals as goal

pub returns-clause-decisions_outweigh_facts : goal.returns-clause-decisions_outweigh_facts
returns-clause-decisions_outweigh_facts c = λ facts list. decisions_outweigh facts list

pub returns-clause-a_node_stages_what_is_news : goal.returns-clause-a_node_stages_what_is_news
returns-clause-a_node_stages_what_is_news c = λ n p facts list. stages_news n p facts list

pub returns-clause-what_is_news_outweighs_them : goal.returns-clause-what_is_news_outweighs_them
returns-clause-what_is_news_outweighs_them c = λ n run r. news_outweigh_in_runs n run r

pub returns-clause-a_majority_bounds_lost_facts : goal.returns-clause-a_majority_bounds_lost_facts
returns-clause-a_majority_bounds_lost_facts c = λ n deeds h o. history_bounds n deeds h o

pub returns-clause-a_lost_node_may_begin_anew : goal.returns-clause-a_lost_node_may_begin_anew
returns-clause-a_lost_node_may_begin_anew c = λ n deeds h o. may_begin_anew n deeds h o
