use Rattle.std.proofs.Common.{refl}
use Rattle.rr_cli.specs.Ends.{printed, cut_short}
use Rattle.rr_cli.proofs.streams.end_by_text.Goals as goal

pub returns-in-Ok-clause-ends : goal.returns-in-Ok-clause-ends
returns-in-Ok-clause-ends g c = printed refl c.in-Ok.ensures.all

pub returns-in-Err-clause-ends : goal.returns-in-Err-clause-ends
returns-in-Err-clause-ends g c = cut_short c.end_by_unprinted.ensures.status c.in-Err.ensures.cause c.print_all.ensures.front
