use Rattle.std.proofs.Common.{sym, subst}
use Rattle.std.specs.Prelude.{IfOk}
use Rattle.rr_cli.specs.Shown.{ShowsTape}
use Rattle.rr_cli.specs.declared.taped.TapeView.{TapeView}
use Rattle.rr_cli.proofs.taped.tape_text.Goals as goal

pub returns-in-Account-clause-ok : goal.returns-in-Account-clause-ok
returns-in-Account-clause-ok c = subst (λ (what : TapeView). IfOk c.account_text.result (λ text. ShowsTape what c.args.tape.now text.items)) (sym c.in-Account.is) c.account_text.ensures.ok

pub returns-in-Picture-clause-ok : goal.returns-in-Picture-clause-ok
returns-in-Picture-clause-ok c = subst (λ (what : TapeView). IfOk c.tape_picture.result (λ text. ShowsTape what c.args.tape.now text.items)) (sym c.in-Picture.is) c.tape_picture.ensures.ok

pub returns-in-Page-clause-ok : goal.returns-in-Page-clause-ok
returns-in-Page-clause-ok c = subst (λ (what : TapeView). IfOk c.tape_page.result (λ text. ShowsTape what c.args.tape.now text.items)) (sym c.in-Page.is) c.tape_page.ensures.ok
