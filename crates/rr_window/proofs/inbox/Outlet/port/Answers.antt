use Rattle.rr_window.proofs.Moves.{forks}
use Rattle.rr_window.proofs.inbox.Outlet.port.Goals as goal

pub another-pass-requires-clause-rule : goal.another-pass-requires-clause-rule
another-pass-requires-clause-rule g c = forks _ _ c.self.invariant.1 c.self.invariant.2
