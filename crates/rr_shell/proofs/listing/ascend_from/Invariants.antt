-- What is left tells what the whole does.
use Rattle.std.proofs.Common.{◌≡◌, drop}
use Rattle.rr_shell.specs.Listings.{ascend_from}
use Rattle.rr_shell.proofs.listing.ascend_from.Given as goal

abbrev pub invariant-loop-binding : goal.invariant-loop-binding
invariant-loop-binding l = ascend_from l.last (drop l.binding-index l.rest) ≡ ascend_from l.first l.rest
