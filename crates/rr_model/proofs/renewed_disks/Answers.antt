use Rattle.rr_model.proofs.DeedAgrees.{turns_agree}
use Rattle.rr_model.proofs.LostDisks.{bounds_lost_facts, disks_chosen, may_be_renewed}
use Rattle.rr_model.proofs.renewed_disks.Goals as goal

pub returns-clause-renewed_histories_agree : goal.returns-clause-renewed_histories_agree
returns-clause-renewed_histories_agree c = λ n turns h. turns_agree n turns h

pub returns-clause-a_majority_bounds_lost_facts : goal.returns-clause-a_majority_bounds_lost_facts
returns-clause-a_majority_bounds_lost_facts c = λ n turns h. bounds_lost_facts n turns h

pub returns-clause-what_disks_have_decided_is_chosen : goal.returns-clause-what_disks_have_decided_is_chosen
returns-clause-what_disks_have_decided_is_chosen c = λ n turns h. disks_chosen n turns h

pub returns-clause-a_lost_disk_may_be_made_anew : goal.returns-clause-a_lost_disk_may_be_made_anew
returns-clause-a_lost_disk_may_be_made_anew c = λ n before after h. may_be_renewed n before after h
