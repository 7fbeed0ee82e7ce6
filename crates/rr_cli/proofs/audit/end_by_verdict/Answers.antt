use Rattle.std.proofs.Common.{◌∙◌, refl, subst}
use Rattle.rr_types.specs.declared.refusal.Refusal.TheVariants.{OutOfMemory}
use Rattle.rr_cli.specs.Ends.{Prints, no_tape}
use Rattle.rr_audit.specs.AuditTexts.{IsVerdictOn}
use Rattle.rr_cli.proofs.TapeLemmas.{yes_ends, no_ends, no_object_ends, no_object_some, few_events}
use Rattle.rr_cli.proofs.audit.end_by_verdict.Goals as goal

pub returns-in-Ok-clause-ends : goal.returns-in-Ok-clause-ends
returns-in-Ok-clause-ends g c =
    yes_ends c.args.form c.args.bytes.now c.in-Yes.count c.end_by_text.result (g.O.Sink.printing c.args.out.now) (g.O.Sink.printing c.end_by_text.new.out)
    (subst (λ verdict. IsVerdictOn c.args.bytes.now verdict) c.in-Yes.is c.requires)
    (subst (λ text. Prints text c.end_by_text.result (g.O.Sink.printing c.args.out.now) (g.O.Sink.printing c.end_by_text.new.out)) (c.as_slice.ensures.value ∙ c.in-Ok.ensures) c.end_by_text.ensures.ends)

pub returns-in-Yes-clause-ends : goal.returns-in-Yes-clause-ends
returns-in-Yes-clause-ends g c = no_tape OutOfMemory tt c.end_by_refusal.ensures refl

pub returns-in-Plain-clause-ends : goal.returns-in-Plain-clause-ends
returns-in-Plain-clause-ends g c =
    rw c.in-Plain.is (no_ends _ c.args.bytes.now c.in-No.number c.in-No.node c.in-No.given c.end_by_no.result (g.O.Sink.printing c.args.out.now) (g.O.Sink.printing c.args.out.now)
    (subst (λ verdict. IsVerdictOn c.args.bytes.now verdict) c.in-No.is c.requires) (c.end_by_no.ensures, refl))

pub end_by_no_object-requires : goal.end_by_no_object-requires
end_by_no_object-requires g c = few_events c.args.bytes.now c.in-No.number c.in-No.node c.in-No.given (subst (λ verdict. IsVerdictOn c.args.bytes.now verdict) c.in-No.is c.requires)

pub returns-clause-ends : goal.returns-clause-ends
returns-clause-ends g c =
    rw c.in-Json.is (no_object_ends c.args.bytes.now c.in-No.number c.in-No.node c.in-No.given c.end_by_no_object.result (g.O.Sink.printing c.args.out.now) (g.O.Sink.printing c.end_by_no_object.new.out)
    (subst (λ verdict. IsVerdictOn c.args.bytes.now verdict) c.in-No.is c.requires) c.end_by_no_object.ensures.ends)

pub returns-clause-quiet : goal.returns-clause-quiet
returns-clause-quiet g c = λ zero.
    absurd (no_object_some c.in-No.number c.end_by_no_object.result (g.O.Sink.printing c.args.out.now) (g.O.Sink.printing c.end_by_no_object.new.out) c.end_by_no_object.ensures.ends zero)
