-- There is a row for each node, and each guest in it has numbers of its own client.
use Rattle.std.proofs.Common.{◌≡◌, length}
use Rattle.std.specs.Prelude.{All}
use Rattle.rr_client.specs.Seating.{HasOwnNumbers}
use Rattle.rr_client.proofs.collecting.seat_all.Given as goal

abbrev pub invariant-places : goal.invariant-places
invariant-places g l = (length l.rows.items ≡ l.fn.host.nodes) × All (λ row. All (λ s. HasOwnNumbers l.promises s.coming) row.items) l.rows.items
