-- There are so many rows so far, without guests.
use Rattle.std.proofs.Common.{◌≡◌, [], length}
use Rattle.std.specs.Prelude.{All}
use Rattle.rr_client.proofs.collecting.open_rows.Given as goal

abbrev pub invariant-rows : goal.invariant-rows
invariant-rows g l = (length l.rows.items ≡ l.counter) × All (λ row. row.items ≡ []) l.rows.items
