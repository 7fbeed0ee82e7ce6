use Rattle.rr_model.proofs.Soundness.{sound}
use Rattle.rr_model.proofs.agreement.Goals as goal

pub returns : goal.returns
returns c = record { every_run_is_sound = sound }
