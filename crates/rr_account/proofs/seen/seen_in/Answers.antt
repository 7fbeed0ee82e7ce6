use Rattle.std.proofs.Common.{rules}
use Rattle.std.proofs.lemmas.Iterator.{YieldsList-from_slice, YieldsList-from_zip, YieldsList-from_map, items_from_collect}
use Rattle.rr_account.proofs.seen.seen_in.Goals as goal

pub returns : goal.returns
returns c =
    items_from_collect _ c.collect.ensures.ran
    (YieldsList-from_map _ _ (YieldsList-from_zip (YieldsList-from_slice c.args.events.now cc) (YieldsList-from_slice c.args.reasons.now cc)) c.map.ensures.closure (λ x r q k. search rules))
