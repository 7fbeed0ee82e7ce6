use Rattle.std.proofs.Common.{inr}
use Rattle.rr_types.specs.declared.refusal.Refusal.TheVariants.{OutOfMemory}
use Rattle.rr_run.proofs.replacing.text_or_end.Goals as goal

pub returns-in-Err-clause-halt : goal.returns-in-Err-clause-halt
returns-in-Err-clause-halt g c = inr (inr (OutOfMemory, c.end_by_refusal.ensures))
