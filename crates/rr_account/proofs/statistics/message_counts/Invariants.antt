use Rattle.std.proofs.Common.{◌≡◌, ◌++◌, drop, map}
use Rattle.std.specs.List.{AllByRecursion}
use Rattle.rr_account.specs.Counts.{message_kinds, HasMessageCounts}
use Rattle.rr_account.proofs.statistics.message_counts.Given as goal

-- the kinds so far and those that are left are all, and each so far has its counts
abbrev pub invariant-loop-kind : goal.invariant-loop-kind
invariant-loop-kind l = (map (λ r. r.kind) l.rows.items ++ drop l.kind-index message_kinds ≡ message_kinds) × AllByRecursion (HasMessageCounts l.account) l.rows.items
