use Rattle.std.proofs.Common.{◌∙◌, sym}
use Rattle.rr_folders.proofs.AgreementLemmas.{agree_so, so_fit, none_by_length}
use Rattle.rr_folders.proofs.verdict.agree.Goals as goal

pub returns-in-empty-clause-so : goal.returns-in-empty-clause-so
returns-in-empty-clause-so c = λ said.
    agree_so c.args.readings.now c.args.clashes.now c.requires.exact (none_by_length c.args.clashes.now c.in-empty.len_below) (sym c.all_fit.ensures ∙ said)

pub returns-in-empty-clause-only : goal.returns-in-empty-clause-only
returns-in-empty-clause-only c = λ agree. c.all_fit.ensures ∙ so_fit c.args.readings.now agree
