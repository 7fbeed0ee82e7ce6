use Rattle.rr_core.proofs.OverLemmas.{above_then, above_else}
use Rattle.rr_core.proofs.over.has_decided_above_over.Goals as goal

pub returns-then-has_decided_above : goal.returns-then-has_decided_above
returns-then-has_decided_above c = above_then c.args.first c.args.changed.now c.args.base.now.rows _ c.requires c.has_decided_above.ensures c.if-has_decided_above.true

pub returns-else-has_decided_above : goal.returns-else-has_decided_above
returns-else-has_decided_above c = above_else c.args.first c.args.changed.now c.args.base.now.rows _ _ c.requires c.has_decided_above.ensures c.if-has_decided_above.false c.has_decided_above-else-has_decided_above.ensures
