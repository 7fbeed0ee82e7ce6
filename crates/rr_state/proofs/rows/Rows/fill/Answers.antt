use Rattle.std.proofs.Common.{◌∙◌, arith, length, ◌-◌}
use Rattle.rr_state.proofs.OpenLemmas.{fill_step, fill_few}
use Rattle.rr_state.proofs.rows.Rows.fill.Goals as goal

pub loop-turn-preserved : goal.loop-turn-preserved
loop-turn-preserved c =
    let room = 8 - length c.as_slice.result.now in
    let same = c.number-from.ensures.value in
    let range = c.number-from.ensures.range in
    record {
      left = fill_step c.args.self.now c.loop-turn.lowest c.push.new.self _ room c.loop-turn._turn c.loop-turn.from c.in-Some.instance c.number-from.result c.loop-turn-test.true c.push.ensures (c.in-Some.ensures.value ∙ c.search.ensures.value) same (omega (arith, same, range)) c.loop-turn.invariant.left;
      small = omega (arith, range);
      few = fill_few c.loop-turn.lowest c.push.new.self room c.loop-turn._turn c.in-Some.instance c.loop-turn-test.true c.push.ensures c.loop-turn.invariant.few;
    }
