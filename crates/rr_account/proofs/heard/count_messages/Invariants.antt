use Rattle.std.proofs.Common.{◌≡◌, ◌+◌, ◌≤◌, drop}
use Rattle.rr_account.specs.Counts.{count_messages}
use Rattle.rr_account.proofs.heard.count_messages.Given as goal

-- what is counted and what is left make the whole
abbrev pub invariant-loop-line : goal.invariant-loop-line
invariant-loop-line l = (l.count + count_messages l.kind (drop l.line-index l.lines) ≡ count_messages l.kind l.lines) × (l.count ≤ l.line-index)
