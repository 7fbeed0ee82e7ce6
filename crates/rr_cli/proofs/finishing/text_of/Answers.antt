use Rattle.std.proofs.Common.{List, ℕ, refl, sym, subst}
use Rattle.std.specs.Prelude.{IfOk}
use Rattle.rr_words.specs.declared.tasks.FinishView.{FinishView}
use Rattle.rr_cli.specs.Views.{TellsFinish, ShowsBoth}
use Rattle.rr_cli.specs.declared.views.Shown.TheVariants.{Report, Explanation}
use Rattle.rr_cli.proofs.finishing.text_of.Goals as goal

pub returns-in-Events-clause-ok : goal.returns-in-Events-clause-ok
returns-in-Events-clause-ok g c =
    subst (λ (what : FinishView). TellsFinish what c.args.bytes.now c.args.finish.added.items c.args.finish.report.items c.args.finish.added.items) (sym c.in-Events.is) refl

pub returns-in-Report-clause-ok : goal.returns-in-Report-clause-ok
returns-in-Report-clause-ok g c =
    subst (λ (what : FinishView). TellsFinish what c.args.bytes.now c.args.finish.added.items c.args.finish.report.items c.args.finish.report.items) (sym c.in-Report.is) refl

pub returns-in-Objects-clause-ok : goal.returns-in-Objects-clause-ok
returns-in-Objects-clause-ok g c =
    subst (λ (what : FinishView). IfOk c.account_text.result (λ text. TellsFinish what c.args.bytes.now c.args.finish.added.items c.args.finish.report.items text.items)) (sym c.in-Objects.is)
    (subst (λ (added : List ℕ). IfOk c.account_text.result (λ text. ShowsBoth Report c.args.bytes.now added text.items)) c.as_slice.ensures.value c.account_text.ensures.ok)

pub returns-in-Explanation-clause-ok : goal.returns-in-Explanation-clause-ok
returns-in-Explanation-clause-ok g c =
    subst (λ (what : FinishView). IfOk c.account_text-in-Explanation.result (λ text. TellsFinish what c.args.bytes.now c.args.finish.added.items c.args.finish.report.items text.items)) (sym c.in-Explanation.is)
    (subst (λ (added : List ℕ). IfOk c.account_text-in-Explanation.result (λ text. ShowsBoth (Explanation c.in-Explanation.form) c.args.bytes.now added text.items)) c.as_slice-in-Explanation.ensures.value c.account_text-in-Explanation.ensures.ok)
