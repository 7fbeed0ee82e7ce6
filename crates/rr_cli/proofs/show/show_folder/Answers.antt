use Rattle.std.proofs.Common.{refl}
use Rattle.rr_cli.specs.Ends.{failed}
use Rattle.rr_cli.proofs.show.show_folder.Goals as goal

pub returns-in-Err-clause-ends : goal.returns-in-Err-clause-ends
returns-in-Err-clause-ends g c = failed c.end_by_unlocked.ensures refl

pub returns-in-Some-clause-ends : goal.returns-in-Some-clause-ends
returns-in-Some-clause-ends g c = failed c.in-Some.ensures.status refl
