use Rattle.std.proofs.Common.{◌≡◌, ap, sym, ◌∙◌, arith}
use Rattle.rr_model.specs.NodeState.{undecided_from}
use Rattle.rr_state.proofs.OpenLemmas.{stops_here, goes_on}
use Rattle.rr_state.proofs.rows.Rows.search.Goals as goal

pub returns-then-not-is_decided-clause-value : goal.returns-then-not-is_decided-clause-value
returns-then-not-is_decided-clause-value c = sym (stops_here c.loop-number.number c.args.self.now c.if-not-is_decided.ensures.value) ∙ c.loop-number.invariant.left

pub loop-number-preserved : goal.loop-number-preserved
loop-number-preserved c =
    let l = c.loop-number.invariant.above in
    record {
      left = goes_on c.loop-number.number c.args.self.now c.is_decided.ensures.ascend c.if-not-is_decided.ensures.value ∙ c.loop-number.invariant.left;
      above = omega arith;
      small = omega (arith, c.loop-number-test.true);
    }

pub returns-clause-value : goal.returns-clause-value
returns-clause-value c =
    let s = c.loop-number.invariant.small in
    let e : c.loop-number.number ≡ 1048576 = omega (arith, s, c.loop-number-test.false) in
    sym (stops_here 1048576 c.args.self.now c.if-is_decided.ensures.value) ∙ ap (λ z. undecided_from z c.args.self.now) (sym e) ∙ c.loop-number.invariant.left
