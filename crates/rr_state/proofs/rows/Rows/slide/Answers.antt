use Rattle.std.proofs.Common.{◌≡◌, ap, ◌∙◌, arith, filter, length, ◌++◌, ◌-◌, ◌+◌, get_or}
use Rattle.rr_model.specs.NodeState.{lowest_undecided}
use Rattle.rr_state.specs.Rowed.{is_undecided}
use Rattle.rr_state.proofs.OpenLemmas.{slides, runs_short}
use Rattle.rr_state.proofs.rows.Rows.slide.Goals as goal

pub returns-then-instances-lt-OPEN_INSTANCES : goal.returns-then-instances-lt-OPEN_INSTANCES
returns-then-instances-lt-OPEN_INSTANCES c = λ before h keeps shown.
    let same : length c.as_slice-instances.result.now ≡ length c.args.window.now = ap length c.as_slice-instances.ensures.value in
    c.kept-kept.ensures ∙ runs_short before c.args.self.now c.args.window.now h c.requires keeps shown (omega (arith, same, c.if-instances-lt-OPEN_INSTANCES.true))

pub returns : goal.returns
returns c = λ before h keeps shown.
    let same : length c.as_slice-instances.result.now ≡ length c.args.window.now = ap length c.as_slice-instances.ensures.value in
    let few = c.as_slice-instances.ensures.range in
    let last = c.number.ensures.value ∙ c.index-instances.is ∙ ap (λ xs. get_or xs 7 c.index-instances.result) c.as_slice-instances.ensures.value in
    c.fill.ensures
    ∙ ap (λ xs. xs ++ lowest_undecided (8 - length xs) (c.number.result + 1) c.args.self.now) c.kept-kept.ensures
    ∙ ap (λ z. filter (is_undecided c.args.self.now) c.args.window.now ++ lowest_undecided (8 - length (filter (is_undecided c.args.self.now) c.args.window.now)) (z + 1) c.args.self.now) last
    ∙ slides before c.args.self.now c.args.window.now c.index-instances.result h c.requires keeps shown (omega (arith, same, few, c.if-instances-lt-OPEN_INSTANCES.false))
