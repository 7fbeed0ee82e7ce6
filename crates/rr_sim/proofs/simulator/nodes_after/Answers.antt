use Rattle.std.proofs.lemmas.Result.{err_from_is_err_and}
use Rattle.rr_sim.proofs.simulator.nodes_after.Goals as goal

pub returns-in_err-count-clause-bad_event : goal.returns-in_err-count-clause-bad_event
returns-in_err-count-clause-bad_event c =
    let p = err_from_is_err_and c.from_residual.result c.from_residual.ensures.1 in
    rw (p.1, p.2) (λ line.
    let exact = c.in_err-count.ensures.bad_event line in
    (λ is. exact.0 (let same = is in cc), λ there. let same = exact.1 there in cc))

pub returns-in_err-count-clause-own : goal.returns-in_err-count-clause-own
returns-in_err-count-clause-own c = λ same. let ok = c.in_err-count.ensures.own same in absurd cc
