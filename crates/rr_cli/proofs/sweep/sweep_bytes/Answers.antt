use Rattle.std.proofs.Common.{refl, ap, subst, ◌<◌, ◌∙◌, List, length}
use Rattle.rr_text.specs.declared.event.Event.{Event}
use Rattle.rr_cli.specs.Refusals.{status_of}
use Rattle.rr_cli.specs.Ends.{too_long, faulty}
use Rattle.rr_cli.proofs.sweep.sweep_bytes.Goals as goal

pub returns-in-Some-clause-ends : goal.returns-in-Some-clause-ends
returns-in-Some-clause-ends g c =
    too_long c.in-Ok.schedule c.in-Ok.ensures.found.0 c.in-Ok.ensures.found.1 (subst (λ (es : List Event). 999989 < length es) c.events.ensures.value c.in-Some.ensures.0)
    (c.end_too_far.ensures ∙ ap status_of c.in-Some.ensures.1) refl

pub returns-in-Ok-clause-ends : goal.returns-in-Ok-clause-ends
returns-in-Ok-clause-ends g c = c.sweep_schedule.ensures.ends c.args.bytes.now c.in-Ok.ensures.found.0 c.in-Ok.ensures.found.1

pub returns-clause-ends : goal.returns-clause-ends
returns-clause-ends g c = faulty c.in-Err.refusal c.in-Err.ensures.fault c.end_by_fault.ensures refl
