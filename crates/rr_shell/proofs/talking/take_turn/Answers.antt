use Rattle.rr_shell.proofs.WatchLemmas.{answer_front, shown_front}
use Rattle.rr_shell.proofs.talking.take_turn.Goals as goal

pub returns-in-Err-clause-front : goal.returns-in-Err-clause-front
returns-in-Err-clause-front g c = shown_front g.A.Asked.did c.args.json c.args.node c.args.watched (g.O.Sink.printing c.args.out.now) (g.O.Sink.printing c.hear_next.new.out) c.in_ok-heard.ensures.shown

pub returns-in-Err-print_all-clause-front : goal.returns-in-Err-print_all-clause-front
returns-in-Err-print_all-clause-front g c =
    answer_front g.A.Asked.did c.args.json c.args.node c.args.watched (g.O.Sink.printing c.args.out.now) (g.O.Sink.printing c.hear_next.new.out) (g.O.Sink.printing c.print_all.new.out) c.as_slice.result.now c.in_ok-heard.ensures.shown c.print_all.ensures.front
