use Rattle.std.proofs.Common.{◌≡◌, ◌∙◌, [], length, refl, ap}
use Rattle.rr_cli.specs.Ends.{unheld_by_all, clashing}
use Rattle.rr_cli.proofs.exporting.export_readings.Goals as goal

pub returns-in-Some-clause-ends : goal.returns-in-Some-clause-ends
returns-in-Some-clause-ends g c = unheld_by_all c.in-Some.refusal.now c.in-Some.ensures c.end_by_refusal-ending.ensures refl

pub returns-in-Ok-clause-ends : goal.returns-in-Ok-clause-ends
returns-in-Ok-clause-ends g c =
    clashing (λ alike.
    let none : c.in-Ok.verdict.clashes.items ≡ [] = c.in-Ok.ensures.alike.1 alike in
    let empty : c.len.result ≡ 0 = c.len.ensures ∙ c.in-Ok.verdict.clashes.ok.0 ∙ ap length none in
    c.if-len-eq0.false empty) c.end_by_clash.ensures refl
