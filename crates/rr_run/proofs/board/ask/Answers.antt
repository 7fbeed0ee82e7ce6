use Rattle.std.proofs.Common.{◌∙◌, Bool, sym, subst}
use Rattle.rr_run.specs.Boards.{misses}
use Rattle.rr_run.proofs.BoardLemmas.{left, left_still}
use Rattle.rr_run.proofs.board.ask.Goals as goal

pub loop-init : goal.loop-init
loop-init g c =
    left g.B.Board.gives c.args.question.now c.leave-left.result.node c.args.board.now c.leave-left.new.self c.ring.new.self c.leave-left.ensures.left
    c.leave-left.ensures.node c.ring.ensures

pub loop-preserved : goal.loop-preserved
loop-preserved g c =
    left_still g.B.Board.gives c.args.question.now c.args.board.now c.loop.board c.take.new.self c.loop.invariant
    (subst (λ (over : Bool). g.B.Board.gives c.loop.board (misses over) c.take.new.self) (sym c.has_ended.ensures ∙ c.if-has_ended.false)
    (c.take.ensures.none c.in_default.is))
