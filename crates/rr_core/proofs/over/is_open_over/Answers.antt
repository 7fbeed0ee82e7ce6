use Rattle.std.proofs.Common.{eqb, sym, ap, ◌∙◌}
use Rattle.std.specs.List.{list_any}
use Rattle.rr_state.proofs.OpenLemmas.{open_is}
use Rattle.rr_core.proofs.OverLemmas.{open_stays}
use Rattle.rr_core.proofs.over.is_open_over.Goals as goal

pub returns-else-is_any_decided : goal.returns-else-is_any_decided
returns-else-is_any_decided c =
    let rows = c.args.base.now.rows in
    c.is_one_of.ensures
    ∙ ap (list_any (λ j. eqb j c.args.instance))
    (open_is rows c.open.result.now c.open.ensures
    ∙ sym (open_stays c.args.changed.now rows c.row-row.ensures.ascend c.requires (sym c.is_any_decided.ensures ∙ c.if-is_any_decided.false) 8 0))
