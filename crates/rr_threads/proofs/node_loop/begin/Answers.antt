use Rattle.std.proofs.Common.{◌∙◌}
use Rattle.rr_threads.proofs.Hearings.{heard_kept}
use Rattle.rr_threads.proofs.node_loop.begin.Goals as goal

pub returns-clause-kept : goal.returns-clause-kept
returns-clause-kept g c =
    let heard = c.in_ok-hear_kept.ensures in
    c.in_ok-now.ensures ∙ heard_kept _ _ heard.0 _ _ _ _ heard.1
