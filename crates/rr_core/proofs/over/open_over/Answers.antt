use Rattle.std.proofs.Common.{sym, ◌∙◌}
use Rattle.rr_state.proofs.OpenLemmas.{open_is}
use Rattle.rr_core.proofs.OverLemmas.{open_stays}
use Rattle.rr_core.proofs.over.open_over.Goals as goal

pub returns-else-is_any_decided : goal.returns-else-is_any_decided
returns-else-is_any_decided c =
    let rows = c.args.base.now.rows in
    open_is rows c.window.result c.window.ensures.value
    ∙ sym (open_stays c.args.changed.now rows c.window.ensures.ascend c.requires (sym c.is_any_decided.ensures ∙ c.if-is_any_decided.false) 8 0)
