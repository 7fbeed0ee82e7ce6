-- The talk so far.
use Rattle.rr_shell.specs.Talks.{Talk}
use Rattle.rr_shell.proofs.talking.talk.Given as goal

abbrev pub invariant-turns : goal.invariant-turns
invariant-turns g l = Talk g.A.Asked.did l.fn.json l.fn.strict l.fn.nodes l.fn.first (g.I.Source.reading l.initial.input) (g.O.Sink.printing l.initial.out) l.node l.watched (g.I.Source.reading l.input) (g.O.Sink.printing l.out)
