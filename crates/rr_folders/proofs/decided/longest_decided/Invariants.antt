use Rattle.std.proofs.Common.{◌≡◌, drop}
use Rattle.std.specs.List.{fold}
use Rattle.rr_types.specs.Promises.{decided_from}
use Rattle.rr_folders.specs.Agreement.{longest_decided, longer, decided_of}
use Rattle.rr_folders.proofs.decided.longest_decided.Given as goal

-- the longest so far goes on to the longest of all
abbrev pub invariant-loop-reading : goal.invariant-loop-reading
invariant-loop-reading l = fold (λ best r. longer best (decided_of r)) (decided_from 0 l.longest) (drop l.reading-index l.readings) ≡ longest_decided l.readings
