use Rattle.rr_window.proofs.Moves.{puts, learns}
use Rattle.rr_window.proofs.handing.Giver.give.Goals as goal

pub try_send_as-requires-clause-rule : goal.try_send_as-requires-clause-rule
try_send_as-requires-clause-rule g c = (puts _ _ _ _ c.self.invariant.1, learns _ _ c.self.invariant.1)
