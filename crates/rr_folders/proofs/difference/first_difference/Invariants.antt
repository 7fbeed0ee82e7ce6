use Rattle.std.proofs.Common.{◌+◌, length}
use Rattle.rr_folders.specs.Agreement.{first_difference}
use Rattle.rr_folders.proofs.AgreementLemmas.{Left}
use Rattle.rr_folders.proofs.difference.first_difference.Given as goal

-- what is left tells what the whole does
abbrev pub invariant-loop-entry : goal.invariant-loop-entry
invariant-loop-entry l = Left l.one l.other (first_difference l.fn.one l.fn.other)

abbrev pub decreases-loop-entry : goal.decreases-loop-entry
decreases-loop-entry l = length l.one + length l.other
