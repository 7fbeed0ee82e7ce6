use Rattle.std.proofs.Common.{ℕ, subst}
use Rattle.rr_folders.specs.Judged.{IsJudged}
use Rattle.rr_folders.proofs.folder.judge_folders.Goals as goal

pub returns-in-Ok : goal.returns-in-Ok
returns-in-Ok g c = subst (λ (w : ℕ). IsJudged c.args.nodes w c.in-Ok.verdict) c.empty.ensures c.in-Ok.ensures
