use Rattle.std.proofs.Common.{◌≡◌, drop}
use Rattle.rr_state.specs.Same.{are_same_facts}
use Rattle.rr_state.proofs.same.compare_facts.Given as goal

abbrev pub invariant-loop-index : goal.invariant-loop-index
invariant-loop-index l = are_same_facts (drop l.index l.facts) (drop l.index l.others) ≡ are_same_facts l.facts l.others
