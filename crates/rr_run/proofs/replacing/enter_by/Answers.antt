use Rattle.std.proofs.KnownBytes.{Keeps-refl}
use Rattle.rr_run.proofs.replacing.enter_by.Goals as goal

pub returns-in-Ok-clause-quiet : goal.returns-in-Ok-clause-quiet
returns-in-Ok-clause-quiet g c = Keeps-refl (g.E.Write.contents c.args.err.now)
