-- The end so far, and what is left.
use Rattle.std.proofs.Common.{◌≡◌, ◌+◌, ◌≤◌, max, drop, fold}
use Rattle.rr_folders.specs.Renewal.{end_in}
use Rattle.rr_folders.proofs.renewal.end_in.Given as goal

abbrev pub invariant-loop-entry : goal.invariant-loop-entry
invariant-loop-entry l = (fold (λ end e. max end (e.instance + 1)) l.end (drop l.entry-index l.entries) ≡ end_in l.entries) × (l.end ≤ 1048576)
