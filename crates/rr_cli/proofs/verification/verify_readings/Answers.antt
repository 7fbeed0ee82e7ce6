use Rattle.std.proofs.Common.{◌≡◌, ◌∙◌, List, ℕ, ap, refl, subst}
use Rattle.rr_folders.specs.declared.fields.Form as fields
use Rattle.rr_folders.specs.Texts.{verdict_text}
use Rattle.rr_cli.specs.Clusters.{form_in}
use Rattle.rr_cli.specs.Ends.{Prints, unverified}
use Rattle.rr_cli.proofs.FolderLemmas.{agreed_ends, disagreed_ends}
use Rattle.rr_cli.proofs.verification.verify_readings.Goals as goal

pub returns-in-Err-clause-ends : goal.returns-in-Err-clause-ends
returns-in-Err-clause-ends g c = unverified c.end_by_refusal.ensures refl

pub returns-then-verdict-clause-ends : goal.returns-then-verdict-clause-ends
returns-then-verdict-clause-ends g c =
    let v = c.in-Ok.verdict in
    let text = c.in-Ok-verdict_text.text.items in
    let is : text ≡ verdict_text (form_in c.args.form) c.args.readings.now v.clashes.items v.agree =
    c.in-Ok-verdict_text.ensures.ok ∙ ap (λ (f : fields.Form). verdict_text f c.args.readings.now v.clashes.items v.agree) c.form_in.ensures in
    let prints = subst (λ (t : List ℕ). Prints t c.end_by_text-printing.result (g.O.Sink.printing c.args.out.now) (g.O.Sink.printing c.end_by_text-printing.new.out)) c.as_slice.ensures.value c.end_by_text-printing.ensures.ends in
    agreed_ends c.args.form c.args.judged.now c.args.readings.now v text c.end_by_text-printing.result _ _ c.requires.read c.in-Ok.ensures.agree c.in-Ok.ensures.one_list c.requires.judged c.in-Ok.ensures.clashes is c.if-verdict.true prints

pub returns-in-Ok-verdict_text-clause-ends : goal.returns-in-Ok-verdict_text-clause-ends
returns-in-Ok-verdict_text-clause-ends g c =
    let v = c.in-Ok.verdict in
    let text = c.in-Ok-verdict_text.text.items in
    let is : text ≡ verdict_text (form_in c.args.form) c.args.readings.now v.clashes.items v.agree =
    c.in-Ok-verdict_text.ensures.ok ∙ ap (λ (f : fields.Form). verdict_text f c.args.readings.now v.clashes.items v.agree) c.form_in.ensures in
    let prints = subst (λ (t : List ℕ). Prints t c.end_by_text-printing.result (g.O.Sink.printing c.args.out.now) (g.O.Sink.printing c.end_by_text-printing.new.out)) c.as_slice.ensures.value c.end_by_text-printing.ensures.ends in
    disagreed_ends c.args.form c.args.judged.now c.args.readings.now v text c.end_by_text-printing.result c.unlike.result _ _ c.requires.read c.in-Ok.ensures.agree c.in-Ok.ensures.clashes is c.if-verdict.false prints c.unlike.ensures
