use Rattle.rr_window.proofs.Moves.{takes, learns}
use Rattle.rr_window.proofs.handing.Taker.take.Goals as goal

pub try_recv_as-requires-clause-rule : goal.try_recv_as-requires-clause-rule
try_recv_as-requires-clause-rule g c = (takes _ _ c.self.invariant.1 c.self.invariant.2, learns _ _ c.self.invariant.1)
