use Rattle.std.proofs.Common.{◌≡◌, ◌≤◌, length}
use Rattle.rr_folders.specs.Judging.{AreLeftOut}
use Rattle.rr_folders.proofs.folder.judge_without.Given as goal

-- each node so far was looked at, or left out
abbrev pub invariant-loop-index : goal.invariant-loop-index
invariant-loop-index g l = (length l.found.items ≡ l.index) × (l.index ≤ l.index-end) × AreLeftOut l.fn.without 0 l.found.items
