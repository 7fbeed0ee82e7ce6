-- What may come of a sync.
use Rattle.std.proofs.Common.{◌≡◌, ℕ, true, refl}
use Rattle.rr_types.specs.declared.command.RequestNo.{RequestNo}
use Rattle.rr_shell.specs.declared.outcome.Outcome.{Outcome}
use Rattle.rr_shell.specs.declared.outcome.Outcome.TheVariants.{Answered, ListFull, Used, Nothing, Whole}
use Rattle.rr_shell.specs.Talks.{IsOf, IsSyncBy, is_outcome_at}

-- what is of a client's request at a node may come of its sync there
pub may_come : (q : RequestNo) (p : ℕ) (o : Outcome) → IsOf q o → is_outcome_at p o ≡ true → IsSyncBy q.client p o
may_come q p (Answered answer) is at = (q, refl, is, at)
may_come q p ListFull is at = (q, refl, is, at)
may_come q p (Used other) is at = (q, refl, is, at)
may_come q p Nothing is at = absurd is
may_come q p Whole is at = tt
