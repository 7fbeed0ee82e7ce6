use Rattle.std.proofs.Common.{List, Vec, Global, subst}
use Rattle.rr_threads.specs.declared.beginning.Begun.{Begun}
use Rattle.rr_threads.specs.Agreeing.{AgreeWithOne}
use Rattle.rr_threads.specs.Beginnings.{decided_of}
use Rattle.rr_threads.proofs.agreeing.all_agree.Goals as goal

pub returns-then-do_all_agree-clause-agree : goal.returns-then-do_all_agree-clause-agree
returns-then-do_all_agree-clause-agree g c =
    subst (λ (ps : List (Begun g.row.D.Denot × Vec g.row.C.Denot Global)). AgreeWithOne (λ p. decided_of p.0) ps) c.deref.ensures.value (c.do_all_agree.ensures c.if-do_all_agree.true)
