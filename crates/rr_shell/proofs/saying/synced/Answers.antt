use Rattle.std.proofs.Common.{refl}
use Rattle.rr_shell.proofs.saying.synced.Goals as goal

pub returns : goal.returns
returns g c = (c.in_ok-outcome.outcome, c.in_ok-outcome.ensures.own, c.in_ok-outcome.ensures.submitted, c.in_ok-outcome.ensures.outcome, refl, rw c.new-text.ensures.items at c.in_ok-say_sync.ensures.ok, c.sync_trouble-trouble.ensures, refl)
