use Rattle.std.proofs.Common.{length}
use Rattle.rr_explain.proofs.shell_word.+behind_front.Given as goal

abbrev pub decreases-behind_front : goal.decreases-behind_front
decreases-behind_front l = length l.text.now
