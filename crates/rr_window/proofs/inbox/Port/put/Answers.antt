use Rattle.rr_window.proofs.Moves.{puts, learns}
use Rattle.rr_window.proofs.inbox.Port.put.Goals as goal

pub push_as-requires-clause-rule : goal.push_as-requires-clause-rule
push_as-requires-clause-rule g c = (puts _ _ _ _ c.self.invariant.1, learns _ _ c.self.invariant.1)
