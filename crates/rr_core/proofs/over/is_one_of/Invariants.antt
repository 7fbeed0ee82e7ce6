use Rattle.std.proofs.Common.{◌≡◌, eqb, drop}
use Rattle.std.specs.List.{list_any}
use Rattle.rr_core.proofs.over.is_one_of.Given as goal

abbrev pub invariant-loop-other : goal.invariant-loop-other
invariant-loop-other l = list_any (λ j. eqb j l.instance) (drop l.other-index l.instances) ≡ list_any (λ j. eqb j l.instance) l.instances
