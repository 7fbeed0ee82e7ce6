use Rattle.std.proofs.Common.{◌≡◌, ap, ◌∙◌, arith, ◌-◌, ◌+◌, sym}
use Rattle.std.proofs.lemmas.List.{drop_all}
use Rattle.rr_model.specs.NodeState.{undecided_from, lowest_undecided}
use Rattle.rr_state.proofs.OpenLemmas.{open_here, open_from, open_is, none_left}
use Rattle.rr_state.proofs.rows.Rows.undecided_from.Goals as goal
use Rattle.rr_state.proofs.rows.Rows.undecided_from.Goals.{then-instances-lt-OPEN_INSTANCES, else-instances-lt-OPEN_INSTANCES}

pub returns-then-from-number-clause-value : goal.returns-then-from-number-clause-value
returns-then-from-number-clause-value c =
    let inv = c.loop-instance.invariant in
    let here = open_here (8 - c.loop-instance.instance-index) inv.0 c.args.self.now c.as_slice-instances.result.now c.loop-instance.instance-index c.instance-item.result c.loop-instance-test.true c.instance-item.is inv.2 in
    let same = c.number.ensures.value in
    let other = c.number-then-from-number.ensures.value in
    open_from c.args.self.now inv.0 c.args.from c.instance-item.result c.number-then-from-number.result c.requires.ascend inv.1 here.0 other (omega (arith, same, other, c.if-from-number.true))

pub loop-instance-preserved : goal.loop-instance-preserved
loop-instance-preserved c =
    let inv = c.loop-instance.invariant in
    let here = open_here (8 - c.loop-instance.instance-index) inv.0 c.args.self.now c.as_slice-instances.result.now c.loop-instance.instance-index c.instance-item.result c.loop-instance-test.true c.instance-item.is inv.2 in
    let same = c.number.ensures.value in
    let e : 8 - c.loop-instance.instance-index - 1 ≡ 8 - (c.loop-instance.instance-index + 1) = omega arith in
    (c.instance-item.result + 1, omega (arith, same, c.if-from-number.false), here.1 ∙ ap (λ z. lowest_undecided z (c.instance-item.result + 1) c.args.self.now) e)

pub loop-instance-init : goal.loop-instance-init
loop-instance-init c = (0, omega arith, c.as_slice-instances.ensures.value ∙ open_is c.args.self.now c.args.window.now c.requires.shown)

pub returns-clause-value : goal.returns-clause-value
returns-clause-value c =
    let inv = c.loop-instance.invariant in
    let over = c.loop-instance-test.false in
    let value = c.search.ensures.value in
    elim c.if-instances-lt-OPEN_INSTANCES.branch [
      | then-instances-lt-OPEN_INSTANCES w ↦
          let few = w.if-instances-lt-OPEN_INSTANCES in
          let end = drop_all c.loop-instance.instance-index c.as_slice-instances.result.now over in
          let there = c.loop-instance.auto.instance-index-end in
          value
          ∙ ap (λ f. undecided_from f c.args.self.now) w.from-is
          ∙ none_left c.args.self.now inv.0 c.args.from c.loop-instance.instance-index c.requires.ascend inv.1 c.requires.range (omega (arith, few, there)) (sym end ∙ inv.2)
      | else-instances-lt-OPEN_INSTANCES w ↦ value ∙ ap (λ f. undecided_from f c.args.self.now) w.from-is
    ]
