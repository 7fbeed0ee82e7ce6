use Rattle.std.proofs.Common.{rules}
use Rattle.rr_draw.proofs.arrow.arrow_between.Goals as goal

pub returns : goal.returns
returns c = (c.args.ends.now.sent_at, c.args.ends.now.heard_at, search rules)
