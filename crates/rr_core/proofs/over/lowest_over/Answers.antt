use Rattle.std.proofs.Common.{◌∙◌, arith}
use Rattle.rr_core.specs.Steps.{put_rows}
use Rattle.rr_state.proofs.OpenLemmas.{fill_step, fill_few}
use Rattle.rr_core.proofs.over.lowest_over.Goals as goal

pub loop-turn-preserved : goal.loop-turn-preserved
loop-turn-preserved c =
    let same = c.number-from.ensures.value in
    let range = c.number-from.ensures.range in
    record {
      left = fill_step (put_rows c.args.changed.now c.args.base.now.rows) c.loop-turn.found c.push.new.self _ 8 c.loop-turn._turn c.loop-turn.from c.in-Some.instance c.number-from.result c.loop-turn-test.true c.push.ensures (c.in-Some.ensures.value ∙ c.undecided_over.ensures.value) same (omega (arith, same, range)) c.loop-turn.invariant.left;
      small = omega (arith, range);
      few = fill_few c.loop-turn.found c.push.new.self 8 c.loop-turn._turn c.in-Some.instance c.loop-turn-test.true c.push.ensures c.loop-turn.invariant.few;
    }
