use Rattle.std.proofs.Common.{◌≡◌, take, slice_index}
use Rattle.std.specs.List.{sum_by}
use Rattle.rr_account.specs.Counts.{again_by, stopped}
use Rattle.rr_account.proofs.heard.count_again.Given as goal

-- the sum over the lines so far
abbrev pub invariant-loop-line : goal.invariant-loop-line
invariant-loop-line l = l.again ≡ stopped (sum_by (again_by l.kind (slice_index l.counts)) (take l.line-index l.lines))
