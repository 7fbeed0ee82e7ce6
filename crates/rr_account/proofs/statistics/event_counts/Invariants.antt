use Rattle.std.proofs.Common.{◌≡◌, ◌++◌, drop, map}
use Rattle.std.specs.List.{AllByRecursion}
use Rattle.rr_account.specs.Counts.{event_kinds, HasEventCounts}
use Rattle.rr_account.proofs.statistics.event_counts.Given as goal

-- the kinds so far and those that are left are all, and each so far has its counts
abbrev pub invariant-loop-kind : goal.invariant-loop-kind
invariant-loop-kind l = (map (λ r. r.kind) l.rows.items ++ drop l.kind-index event_kinds ≡ event_kinds) × AllByRecursion (HasEventCounts l.account) l.rows.items
