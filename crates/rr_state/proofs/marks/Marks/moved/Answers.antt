use Rattle.std.proofs.Common.{arith}
use Rattle.rr_state.specs.Listed.{decision_at}
use Rattle.rr_state.proofs.MarkLemmas.{none_is}
use Rattle.rr_state.proofs.PrefixLemmas.{stands_moved}
use Rattle.rr_state.proofs.marks.Marks.moved.Goals as goal

pub returns-in-Some : goal.returns-in-Some
returns-in-Some c = let l = c.if-number-self.false in stands_moved c.args.rows.now c.args.self.now c.args.number c.in-Some.command.now (omega (arith, l)) c.in-Some.ensures

pub returns-in-None : goal.returns-in-None
returns-in-None c =
    let l = c.if-number-self.false in
    absurd (none_is (decision_at c.args.rows.now c.args.number) c.in-None.ensures (c.requires c.args.number (omega (arith, l))))
