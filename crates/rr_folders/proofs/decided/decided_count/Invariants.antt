use Rattle.std.proofs.Common.{◌≡◌, ◌+◌, length, drop}
use Rattle.rr_types.specs.Promises.{decided_from}
use Rattle.rr_folders.proofs.decided.decided_count.Given as goal

-- so many and what the others decide
abbrev pub invariant-loop-place : goal.invariant-loop-place
invariant-loop-place l = l.place + length (decided_from l.place (drop l.place l.entries)) ≡ length (decided_from 0 l.entries)
