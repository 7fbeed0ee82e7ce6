use Rattle.rr_window.proofs.Moves.{puts}
use Rattle.rr_window.proofs.inbox.Port.try_put.Goals as goal

pub try_push_as-requires-clause-rule : goal.try_push_as-requires-clause-rule
try_push_as-requires-clause-rule g c = puts _ _ _ _ c.self.invariant.1
