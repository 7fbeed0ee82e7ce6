use Rattle.std.proofs.Common.{◌∙◌}
use Rattle.rr_registry.specs.Places.{filled}
use Rattle.rr_state.specs.Rowed.{rows_in}
use Rattle.rr_state.proofs.NotedLemmas.{noted_more}
use Rattle.rr_state.proofs.rows.note_decisions.Goals as goal

pub loop-instance-preserved : goal.loop-instance-preserved
loop-instance-preserved c =
    record {
      noted = noted_more (rows_in (filled c.args.rows.now)) c.args.instances.now c.loop-instance.instance-index c.instance-item.result _ _ _ c.args.end _ _ c.loop-instance-test.true c.instance-item.is c.loop-instance.invariant.noted c.note_decision-higher.ensures.noted;
      places = λ q. c.note_decision-higher.ensures.places q ∙ c.loop-instance.invariant.places q;
    }
