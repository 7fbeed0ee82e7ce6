use Rattle.rr_threads.proofs.Errand.{awaited}
use Rattle.rr_threads.proofs.client.receipt_for.Goals as goal

pub returns-clause-wanted : goal.returns-clause-wanted
returns-clause-wanted g c = awaited (λ e. e.wanted) _ _ _ _ _ _ _ c.await_receipt-receipt.ensures
