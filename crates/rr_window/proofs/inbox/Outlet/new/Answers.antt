use Rattle.rr_window.proofs.Moves.{begins}
use Rattle.rr_window.proofs.inbox.Outlet.new.Goals as goal

pub ruled-requires-clause-rule : goal.ruled-requires-clause-rule
ruled-requires-clause-rule g c = begins
