use Rattle.rr_window.proofs.Moves.{takes, learns}
use Rattle.rr_window.proofs.inbox.Outlet.take.Goals as goal

pub pop_as-requires-clause-rule : goal.pop_as-requires-clause-rule
pop_as-requires-clause-rule g c = (takes _ _ c.self.invariant.1 c.self.invariant.2, learns _ _ c.self.invariant.1)
