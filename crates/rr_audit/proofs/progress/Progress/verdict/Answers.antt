use Rattle.std.proofs.Common.{subst}
use Rattle.rr_audit.specs.Following.{IsFoundSoFar}
use Rattle.rr_audit.proofs.ReadLaws.{found_none}
use Rattle.rr_audit.proofs.progress.Progress.verdict.Goals as goal

pub returns-in-None : goal.returns-in-None
returns-in-None c = λ n events counted h.
    found_none n events c.args.self.replay c.args.count counted (subst (λ found. IsFoundSoFar n events c.args.self.replay found) c.in-None.is h)
