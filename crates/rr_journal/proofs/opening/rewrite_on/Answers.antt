use Rattle.std.proofs.Common.{ap, sym, subst, ◌∙◌}
use Rattle.rr_journal.specs.Rewrites.{Rewrite, IsRewriting}
use Rattle.rr_journal.specs.Stages.{stage_behind}
use Rattle.rr_journal.specs.Held.{Holds}
use Rattle.rr_journal.proofs.OpeningLaws.{IsBehind, goes_behind, still_rewriting, active_anew}
use Rattle.rr_journal.proofs.opening.rewrite_on.Goals as goal

pub returns-in-Some-clause-rests : goal.returns-in-Some-clause-rests
returns-in-Some-clause-rests c n p old new is after =
    let behind = subst (IsBehind n p c.args.rewrite old new is) (sym (c.in-Some.ensures ∙ ap stage_behind c.stage.ensures)) (goes_behind n p c.args.rewrite old new is after) in
    subst (λ (r : Rewrite). IsRewriting n p r new) (sym c.at.ensures) (still_rewriting n p c.args.rewrite old new is c.in-Some.stage behind)

pub returns-in-Some-clause-table : goal.returns-in-Some-clause-table
returns-in-Some-clause-table c n p facts old new is holds after =
    let behind = subst (IsBehind n p c.args.rewrite old new is) (sym (c.in-Some.ensures ∙ ap stage_behind c.stage.ensures)) (goes_behind n p c.args.rewrite old new is after) in
    subst (λ (r : Rewrite). (on : IsRewriting n p r new) × Holds n p on.start facts) (sym c.at.ensures) (still_rewriting n p c.args.rewrite old new is c.in-Some.stage behind, behind.3 facts holds)

pub returns-in-None-clause-rests : goal.returns-in-None-clause-rests
returns-in-None-clause-rests c n p old new is after =
    let behind = subst (IsBehind n p c.args.rewrite old new is) (sym (c.in-None.ensures ∙ ap stage_behind c.stage.ensures)) (goes_behind n p c.args.rewrite old new is after) in
    (behind.0, behind.1, behind.2 ∙ active_anew c.args.rewrite.found _ _ is.due c.into_end-area.ensures)

pub returns-in-None-clause-table : goal.returns-in-None-clause-table
returns-in-None-clause-table c n p facts old new is holds after =
    let behind = subst (IsBehind n p c.args.rewrite old new is) (sym (c.in-None.ensures ∙ ap stage_behind c.stage.ensures)) (goes_behind n p c.args.rewrite old new is after) in
    (behind.0, behind.1, behind.3 facts holds, behind.2 ∙ active_anew c.args.rewrite.found _ _ is.due c.into_end-area.ensures)
