-- The greatest so far, and what is left.
use Rattle.std.proofs.Common.{◌≡◌, drop, fold}
use Rattle.rr_folders.specs.Requests.{greatest_at, greatest_in}
use Rattle.rr_folders.proofs.requests.greatest_in.Given as goal

abbrev pub invariant-loop-entry : goal.invariant-loop-entry
invariant-loop-entry l = fold (greatest_at l.fn.client) l.most (drop l.entry-index l.entries) ≡ greatest_in l.fn.client l.entries
