use Rattle.std.proofs.Common.{◌≡◌, ◌++◌, drop}
use Rattle.rr_draw.specs.Labels.{decided_by}
use Rattle.rr_draw.proofs.words.decided_by.Given as goal

-- the instances so far and those of the facts that are left are the whole
abbrev pub invariant-loop-fact : goal.invariant-loop-fact
invariant-loop-fact l = l.instances.items ++ decided_by l.cut (drop l.fact-index l.facts) ≡ decided_by l.cut l.facts
