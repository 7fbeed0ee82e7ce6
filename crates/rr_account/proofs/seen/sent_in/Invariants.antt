use Rattle.std.proofs.Common.{◌≡◌, ◌++◌, drop}
use Rattle.std.specs.List.{flat_map}
use Rattle.rr_account.specs.Decisions.{sent_on}
use Rattle.rr_account.proofs.seen.sent_in.Given as goal

-- what is made and what is left to make are the whole
abbrev pub invariant-loop-line : goal.invariant-loop-line
invariant-loop-line l = l.wire.items ++ flat_map sent_on (drop l.line-index l.lines) ≡ flat_map sent_on l.lines
