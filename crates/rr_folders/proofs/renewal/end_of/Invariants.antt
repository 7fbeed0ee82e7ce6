-- The end so far, and what is left.
use Rattle.std.proofs.Common.{◌≡◌, ◌≤◌, max, drop, fold}
use Rattle.rr_folders.specs.Renewal.{end_in, entries_of, end_of}
use Rattle.rr_folders.proofs.renewal.end_of.Given as goal

abbrev pub invariant-loop-reading : goal.invariant-loop-reading
invariant-loop-reading l =
    (fold (λ end r. max end (end_in (entries_of r))) l.end (drop l.reading-index l.readings) ≡ end_of l.readings) × (l.end ≤ 1048576)
