-- The clients so far have places of their own, and these are left.
use Rattle.std.proofs.Common.{◌≡◌, ◌++◌, length}
use Rattle.std.specs.Prelude.{map}
use Rattle.std.specs.List.{range_with_len}
use Rattle.std.specs.Vec.Iter.{into_iter_items}
use Rattle.rr_threads.proofs.node_run.seat_all.Given as goal

abbrev pub invariant-loop-client : goal.invariant-loop-client
invariant-loop-client g l =
    (map (λ s. s.place) l.seated.items ≡ range_with_len 0 (length l.seated.items)) × (map (λ s. s.client) l.seated.items ++ into_iter_items l.client-iterator ≡ l.fn.clients.items)
