use Rattle.std.proofs.Common.{ap, arith}
use Rattle.rr_types.specs.Facts.{decision_of}
use Rattle.rr_state.proofs.MarkLemmas.{undecided_none}
use Rattle.rr_state.proofs.marks.Marks.prefix_end.Goals as goal

pub returns-then-not-has_decided-clause-end : goal.returns-then-not-has_decided-clause-end
returns-then-not-has_decided-clause-end c = undecided_none _ c.has_decided.result c.has_decided.ensures.value c.if-not-has_decided.true

pub returns-clause-decided : goal.returns-clause-decided
returns-clause-decided c = λ i b l. c.loop-place.invariant i b (let t = c.loop-place-test.false in omega (arith, l, t))

pub returns-clause-end : goal.returns-clause-end
returns-clause-end c = ap decision_of (c.requires.marks.instances 1048576 (omega arith))
