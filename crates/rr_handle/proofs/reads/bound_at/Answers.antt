use Rattle.std.proofs.Common.{sym, ◌∙◌}
use Rattle.std.proofs.lemmas.Iterator.Consumers.{nth_from_yields_List, YieldsList-from_rest}
use Rattle.rr_handle.proofs.NthLemmas.{shown_again}
use Rattle.rr_handle.proofs.reads.bound_at.Goals as goal

pub returns : goal.returns
returns c =
    let gives = nth_from_yields_List _ _ c.args.place c.nth.ensures.ran (YieldsList-from_rest _ c.bindings.ensures) in
    sym (shown_again c.nth.result) ∙ gives
