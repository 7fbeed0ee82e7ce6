use Rattle.std.proofs.Common.{subst, sym}
use Rattle.rr_registry.specs.Tables.{CanHave}
use Rattle.rr_registry.proofs.names.outcome_at.Goals as goal

pub returns-in-Claim-clause-can : goal.returns-in-Claim-clause-can
returns-in-Claim-clause-can c = subst (λ op. CanHave c.args.bound c.args.held.now op c.claim.result.0) (sym c.in-Claim.is) (c.claim.ensures.can c.in-Claim.field-0)

pub returns-in-Update-clause-can : goal.returns-in-Update-clause-can
returns-in-Update-clause-can c = subst (λ op. CanHave c.args.bound c.args.held.now op c.update.result.0) (sym c.in-Update.is) (c.update.ensures.can c.args.bound c.in-Update.field-0)

pub returns-in-Release-clause-can : goal.returns-in-Release-clause-can
returns-in-Release-clause-can c = subst (λ op. CanHave c.args.bound c.args.held.now op c.release.result.0) (sym c.in-Release.is) (c.release.ensures.can c.args.bound c.in-Release.field-0)

pub returns-in-Transfer-clause-can : goal.returns-in-Transfer-clause-can
returns-in-Transfer-clause-can c = subst (λ op. CanHave c.args.bound c.args.held.now op c.transfer.result.0) (sym c.in-Transfer.is) (c.transfer.ensures.can c.args.bound c.in-Transfer.field-0)
