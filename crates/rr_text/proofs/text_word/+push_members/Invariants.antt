use Rattle.std.proofs.Common.{◌-◌}
use Rattle.rr_text.proofs.text_word.+push_members.Given as goal

abbrev pub decreases-push_members : goal.decreases-push_members
decreases-push_members l = 7 - l.node
