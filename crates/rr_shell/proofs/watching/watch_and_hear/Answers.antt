use Rattle.rr_shell.specs.Forms.{watching_said}
use Rattle.rr_shell.proofs.WatchLemmas.{front_at_error}
use Rattle.rr_shell.proofs.watching.watch_and_hear.Goals as goal

pub returns-clause-front : goal.returns-clause-front
returns-clause-front g c =
    front_at_error c.hear_beside.result (g.O.Sink.printing c.args.out.now) (g.O.Sink.printing c.print_watching.new.out) (g.O.Sink.printing c.hear_beside.new.out) (watching_said c.args.json) c.in_ok-print_watching.ensures.printed c.hear_beside.ensures.front
