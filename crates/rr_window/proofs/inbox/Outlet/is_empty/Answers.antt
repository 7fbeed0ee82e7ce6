use Rattle.rr_window.proofs.Moves.{learns}
use Rattle.rr_window.proofs.inbox.Outlet.is_empty.Goals as goal

pub is_empty_as-requires-clause-rule : goal.is_empty_as-requires-clause-rule
is_empty_as-requires-clause-rule g c = learns _ _ c.self.invariant.1
