use Rattle.std.proofs.Common.{ℕ, sym, ap, ◌∙◌}
use Rattle.rr_lively.specs.declared.finish.Ending.{Ending}
use Rattle.rr_cli.specs.Finishing.{finished_by}
use Rattle.rr_cli.proofs.finishing.end_by_finish.Goals as goal

-- the status of the printing, by how far it went
abbrev by_ending : ℕ → Ending → ℕ
by_ending printing ending = finished_by ending printing

pub returns-in-Finished-clause-ends : goal.returns-in-Finished-clause-ends
returns-in-Finished-clause-ends g c =
    (c.end_by_text-printing.result, c.end_by_text-printing.ensures.ends, ap (by_ending c.end_by_text-printing.result) (sym c.in-Finished.is))

pub returns-in-Full-clause-ends : goal.returns-in-Full-clause-ends
returns-in-Full-clause-ends g c =
    (c.end_by_text-printing.result, c.end_by_text-printing.ensures.ends, c.end_unfinished.ensures.status ∙ ap (by_ending c.end_by_text-printing.result) (sym c.in-Full.is))

pub returns-in-Stuck-clause-ends : goal.returns-in-Stuck-clause-ends
returns-in-Stuck-clause-ends g c =
    (c.end_by_text-printing.result, c.end_by_text-printing.ensures.ends, c.end_unfinished-in-Stuck.ensures.status ∙ ap (by_ending c.end_by_text-printing.result) (sym c.in-Stuck.is))

pub returns-in-Full-clause-quiet : goal.returns-in-Full-clause-quiet
returns-in-Full-clause-quiet g c = λ zero. absurd (c.end_unfinished.ensures.told zero)

pub returns-in-Stuck-clause-quiet : goal.returns-in-Stuck-clause-quiet
returns-in-Stuck-clause-quiet g c = λ zero. absurd (c.end_unfinished-in-Stuck.ensures.told zero)
