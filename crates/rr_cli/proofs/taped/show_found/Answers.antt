use Rattle.std.proofs.Common.{List, ℕ, subst, refl}
use Rattle.rr_audit.specs.Audits.{IsVerdict}
use Rattle.rr_cli.specs.Ends.{PrintsShown}
use Rattle.rr_cli.proofs.TapedLemmas.{taped_ends, strange_ends, wanting_ends}
use Rattle.rr_cli.proofs.taped.show_found.Goals as goal

pub returns-in-Ok-clause-ends : goal.returns-in-Ok-clause-ends
returns-in-Ok-clause-ends g c =
    taped_ends c.args.what c.args.bytes.now c.args.tape.now c.in-Yes.field-0 c.in-Ok.text.items c.end_by_shown.result (g.O.Sink.printing c.args.out.now) (g.O.Sink.printing c.end_by_shown.new.out) c.requires.text
    (subst (λ verdict. IsVerdict c.args.tape.now.nodes c.args.tape.now.events verdict) c.in-Yes.is c.requires.found)
    c.in-Ok.ensures.ok
    (subst (λ (text : List ℕ). PrintsShown c.args.what text c.end_by_shown.result (g.O.Sink.printing c.args.out.now) (g.O.Sink.printing c.end_by_shown.new.out)) c.as_slice.ensures.value c.end_by_shown.ensures.ends)

pub returns-in-Err-clause-ends : goal.returns-in-Err-clause-ends
returns-in-Err-clause-ends g c =
    wanting_ends c.args.what c.args.bytes.now c.in-Err.refusal c.end_by_refusal.result (g.O.Sink.printing c.args.out.now) (g.O.Sink.printing c.args.out.now) c.in-Err.ensures.err c.end_by_refusal.ensures refl

pub returns-in-No-clause-ends : goal.returns-in-No-clause-ends
returns-in-No-clause-ends g c =
    strange_ends c.args.what c.args.bytes.now c.args.tape.now c.in-No.number c.in-No.node c.in-No.given c.end_by_no.result (g.O.Sink.printing c.args.out.now) (g.O.Sink.printing c.args.out.now) c.requires.text
    (subst (λ verdict. IsVerdict c.args.tape.now.nodes c.args.tape.now.events verdict) c.in-No.is c.requires.found)
    c.end_by_no.ensures refl
