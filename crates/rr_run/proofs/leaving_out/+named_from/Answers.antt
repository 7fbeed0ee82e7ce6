use Rattle.std.proofs.Common.{◌∙◌, sym}
use Rattle.rr_run.proofs.LeftLemmas.{goes_on}
use Rattle.rr_run.proofs.leaving_out.+named_from.Goals as goal

pub returns-in_ok-named_beside-in-len2-up : goal.returns-in_ok-named_beside-in-len2-up
returns-in_ok-named_beside-in-len2-up t c =
    goes_on c.args.nodes c.args.named c.in_ok-named_beside-in-len2-up.field-0 c.args.list.now c.named_from.result c.in-len2-up.len_at_least c.if-comma-eq44.true
    (sym c.named_beside-then-comma-eq44.ensures ∙ c.in_ok-named_beside-in-len2-up.was) c.named_from.ensures
