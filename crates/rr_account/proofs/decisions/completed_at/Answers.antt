use Rattle.std.proofs.Common.{◌∙◌, Some, ap, sym}
use Rattle.rr_account.proofs.decisions.completed_at.Goals as goal

pub returns-then-is_acknowledged : goal.returns-then-is_acknowledged
returns-then-is_acknowledged c = record {
  p = c.in-Acked.node;
  q = c.in-Acked.from;
  r = c.in-Acked.round;
  hears = sym c.in-Some.ensures ∙ ap Some c.in-Acked.is;
  majority = c.is_acknowledged.ensures c.if-is_acknowledged.true;
}
