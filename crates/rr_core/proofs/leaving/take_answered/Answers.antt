use Rattle.std.proofs.Common.{◌∙◌}
use Rattle.rr_core.proofs.LeavingLemmas.{found_left}
use Rattle.rr_core.proofs.leaving.take_answered.Goals as goal

pub returns-in-Some : goal.returns-in-Some
returns-in-Some c = (c.in-Some.ensures.0, c.in-Some.ensures.1, c.remove.ensures ∙ found_left _ c.args.waiting.now c.in-Some.request c.in-Some.ensures.0)
