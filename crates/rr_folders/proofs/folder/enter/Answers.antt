use Rattle.std.proofs.Common.{◌≡◌, ℕ, Ok, Err}
use Rattle.rr_folders.specs.declared.cluster.Cluster.{Cluster}
use Rattle.rr_folders.specs.declared.judging.Verdict.{Verdict}
use Rattle.rr_folders.specs.declared.judging.Verdict.TheVariants.{Open, Begin, TakeOn, Refused}
use Rattle.rr_folders.specs.declared.closed.Closed.TheVariants as closed
use Rattle.rr_folders.specs.Surveys.{IsPrepared, MayBeOpened}
use Rattle.rr_folders.proofs.folder.enter.Goals as goal

-- a verdict by which a cluster was had allows that
allowed : (n : ℕ) (v : Verdict) (c : Cluster) → IsPrepared n v (Ok c) → MayBeOpened v
allowed n (Open d) c h = tt
allowed n Begin c h = tt
allowed n (TakeOn named) c h = tt
allowed n (Refused p fault) c h = absurd (let no : Ok c ≡ Err (closed.Refused p fault) = h in cc)

pub returns-clause-allowed : goal.returns-clause-allowed
returns-clause-allowed g c = λ ok. allowed c.args.nodes c.args.survey.verdict c.in_ok-cluster.cluster c.in_ok-cluster.ensures
