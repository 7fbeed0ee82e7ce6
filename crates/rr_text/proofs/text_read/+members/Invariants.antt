use Rattle.std.proofs.Common.{◌-◌}
use Rattle.rr_text.proofs.text_read.+members.Given as goal

abbrev pub decreases-members : goal.decreases-members
decreases-members l = 7 - l.first
