-- The clients so far have threads, and these are left.
use Rattle.std.proofs.Common.{◌≡◌, ◌+◌, length}
use Rattle.std.specs.Vec.Iter.{into_iter_items}
use Rattle.rr_threads.proofs.node_run.start_clients.Given as goal

abbrev pub invariant-loop-client : goal.invariant-loop-client
invariant-loop-client g l = length l.threads.items + length (into_iter_items l.client-iterator) ≡ length l.fn.seated.items
