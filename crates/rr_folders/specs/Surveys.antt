-- What a survey of the folders of a cluster has found, and what comes of it.
use Rattle.std.specs.Prelude.{◌≡◌, ℕ, Bool, true, false, Result, Ok, Err, IfOk}
use Rattle.rr_folders.specs.declared.cluster.Cluster.{Cluster}
use Rattle.rr_folders.specs.declared.judging.Fault.TheVariants.{Unfounded}
use Rattle.rr_folders.specs.declared.judging.Verdict.{Verdict}
use Rattle.rr_folders.specs.declared.judging.Verdict.TheVariants.{Open, Begin, TakeOn, Refused}
use Rattle.rr_folders.specs.declared.closed.Closed.{Closed}
use Rattle.rr_folders.specs.declared.closed.Closed.TheVariants as closed

-- for how many nodes the folders were looked through, which of them were left out, and what is to be done with them
pub record Surveyed : Type 0 where
  pub nodes : ℕ
  pub without : ℕ
  pub verdict : Verdict

-- the cluster of n nodes whose disks may be opened by a verdict: the one that goes on, as it is; one of n nodes that begins or is taken on, if
-- it can be written; and none by a refusal, which is told
abbrev pub IsPrepared : ℕ → Verdict → Result Cluster Closed → Type 0
IsPrepared n (Open cluster) r = r ≡ Ok cluster
IsPrepared n Begin r = IfOk r (λ cluster. cluster.nodes ≡ n)
IsPrepared n (TakeOn named) r = IfOk r (λ cluster. cluster.nodes ≡ n)
IsPrepared n (Refused p fault) r = r ≡ Err (closed.Refused p fault)

-- the cluster that goes on by a verdict, where node p is left out; none by a refusal, which is told, or where there is no cluster yet
abbrev pub IsGoingOn : ℕ → Verdict → Result Cluster Closed → Type 0
IsGoingOn p (Open cluster) r = r ≡ Ok cluster
IsGoingOn p (Refused q fault) r = r ≡ Err (closed.Refused q fault)
IsGoingOn p Begin r = r ≡ Err (closed.Refused p Unfounded)
IsGoingOn p (TakeOn named) r = r ≡ Err (closed.Refused p Unfounded)

-- disks may be opened by any verdict but a refusal
abbrev pub MayBeOpened : Verdict → Type 0
MayBeOpened (Refused p fault) = ⊥
MayBeOpened verdict = Unit {0}

-- whether a new cluster begins by a verdict
abbrev pub begins_by : Verdict → Bool
begins_by Begin = true
begins_by verdict = false
