use Rattle.rr_window.proofs.Moves.{takes}
use Rattle.rr_window.proofs.inbox.Outlet.try_take.Goals as goal

pub try_pop_as-requires-clause-rule : goal.try_pop_as-requires-clause-rule
try_pop_as-requires-clause-rule g c = takes _ _ c.self.invariant.1 c.self.invariant.2
