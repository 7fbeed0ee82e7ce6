use Rattle.std.proofs.Common.{arith}
use Rattle.rr_text.proofs.WordReading.{members_below}
use Rattle.rr_text.proofs.text_read.+members.Goals as goal

pub returns-in-Some-clause-range : goal.returns-in-Some-clause-range
returns-in-Some-clause-range t c = members_below c.args.first c.in-Some.set (omega arith) c.in-Some.ensures.range

pub returns-in-Some-members-clause-range : goal.returns-in-Some-members-clause-range
returns-in-Some-members-clause-range t c = omega (arith, members_below c.args.first c.in-Some-members.set (omega arith) c.in-Some-members.ensures.range)
