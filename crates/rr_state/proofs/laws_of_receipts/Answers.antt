use Rattle.rr_state.proofs.ReceiptLemmas.{what_was_told, complete, invents_nothing}
use Rattle.rr_state.proofs.laws_of_receipts.Goals as goal

pub returns-clause-output_is_what_was_told : goal.returns-clause-output_is_what_was_told
returns-clause-output_is_what_was_told c = what_was_told

pub returns-clause-it_is_complete : goal.returns-clause-it_is_complete
returns-clause-it_is_complete c = complete

pub returns-clause-it_invents_nothing : goal.returns-clause-it_invents_nothing
returns-clause-it_invents_nothing c = invents_nothing
