-- None so far is up.
use Rattle.std.proofs.Common.{◌≡◌, [], take}
use Rattle.std.specs.Prelude.{All}
use Rattle.rr_threads.specs.Beginnings.{decided_of}
use Rattle.rr_threads.proofs.agreeing.first_up.Given as goal

abbrev pub invariant-loop-node : goal.invariant-loop-node
invariant-loop-node g l = All (λ p. decided_of p.0 ≡ []) (take l.node-index l.parts)
