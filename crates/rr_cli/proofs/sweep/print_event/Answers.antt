use Rattle.std.proofs.lemmas.Result.{IfErr-weaker}
use Rattle.rr_cli.proofs.SweepLemmas.{is_sweep, stops_here}
use Rattle.rr_cli.proofs.sweep.print_event.Goals as goal

pub returns-clause-err : goal.returns-clause-err
returns-clause-err g c n m seed events lines next =
    IfErr-weaker c.print_lines.result _ _
    (λ stop stops. stops_here n seed _ lines c.in-Ok.lines.items stop _ _ (is_sweep n m seed _ _ _ (c.in-Ok.ensures.ok n m seed events lines next)) (rw c.as_slice.ensures.value at stops))
    c.print_lines.ensures.err
