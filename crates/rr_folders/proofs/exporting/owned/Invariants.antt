use Rattle.std.proofs.Common.{◌≡◌, ◌≤◌, ◌+◌, drop}
use Rattle.rr_folders.specs.Exports.{owned}
use Rattle.rr_folders.proofs.exporting.owned.Given as goal

-- so many and those of what is left
abbrev pub invariant-loop-binding : goal.invariant-loop-binding
invariant-loop-binding l = (l.count + owned l.client (drop l.binding-index l.names) ≡ owned l.client l.names) × (l.count ≤ l.binding-index)
