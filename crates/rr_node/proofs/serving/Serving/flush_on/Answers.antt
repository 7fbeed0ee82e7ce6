use Rattle.std.proofs.Common.{subst, Ok, Err}
use Rattle.std.proofs.lemmas.Result.{err_from_is_err_and}
use Rattle.rr_node.specs.declared.doing.Doing.TheVariants as does
use Rattle.rr_types.specs.declared.event.NodeEvent.TheVariants as at
use Rattle.rr_node.specs.declared.event.Outcome.TheVariants.{Quiet}
use Rattle.rr_node.specs.declared.serving.Flush.{Flush}
use Rattle.rr_node.specs.Views.{CarriesOn}
use Rattle.rr_node.proofs.serving.Serving.flush_on.Goals as goal

pub returns-clause-ok : goal.returns-clause-ok
returns-clause-ok c =
    let s = c.args.self.now in
    rw c.runs_next.ensures
    (subst (λ (f : Flush). CarriesOn at.Device (record { core = s.core; slots = s.slots; flush = f }) (Ok Quiet) (does.Serving (record { core = s.core; slots = c.step_on.new.slots; flush = c.in_ok-next.next }))) c.replace-flush.ensures.value (c.in_ok-next.ensures.steps s.core))

pub returns-in_err-next-clause-err : goal.returns-in_err-next-clause-err
returns-in_err-next-clause-err c =
    let s = c.args.self.now in
    let p = err_from_is_err_and c.from_residual.result c.from_residual.ensures.1 in
    rw (p.1, p.2)
    (subst (λ (f : Flush). CarriesOn at.Device (record { core = s.core; slots = s.slots; flush = f }) (Err c.in_err-next.field-0.0) (does.Faulted c.step_on.new.slots.disk)) c.replace-flush.ensures.value (c.in_err-next.ensures.steps s.core))
