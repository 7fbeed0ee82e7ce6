-- The question was left, and nothing was told behind that so far.
use Rattle.rr_run.specs.Boards.{IsLeft}
use Rattle.rr_run.proofs.board.ask.Given as goal

abbrev pub invariant-loop : goal.invariant-loop
invariant-loop g l = IsLeft g.B.Board.gives l.question l.fn.board l.board
