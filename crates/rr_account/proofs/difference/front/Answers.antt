use Rattle.rr_account.proofs.DifferenceLemmas.{first_cut}
use Rattle.rr_account.proofs.difference.front.Goals as goal

pub returns-in-Some-clause-line : goal.returns-in-Some-clause-line
returns-in-Some-clause-line c = first_cut _ _ _ c.in-Some.ensures
