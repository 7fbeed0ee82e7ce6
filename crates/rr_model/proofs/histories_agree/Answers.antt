use Rattle.rr_model.proofs.DeedAgrees.{agrees}
use Rattle.rr_model.proofs.histories_agree.Goals as goal

pub returns : goal.returns
returns c = λ n deeds h o. agrees n deeds h o
