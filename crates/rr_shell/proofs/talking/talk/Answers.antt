use Rattle.std.proofs.Common.{[], refl, sym}
use Rattle.std.proofs.KnownBytes.{Appends-nil}
use Rattle.std.proofs.lemmas.Result.{err_from_is_err_and}
use Rattle.rr_shell.specs.Talks.{begun, early, in_trouble, late, over, said}
use Rattle.rr_shell.proofs.WatchLemmas.{front_of_added}
use Rattle.rr_shell.proofs.talking.talk.Goals as goal

pub returns-in-Err : goal.returns-in-Err
returns-in-Err g c = early refl

pub turns-init : goal.turns-init
turns-init g c = begun c.in-Ok.ensures

pub turns-preserved : goal.turns-preserved
turns-preserved g c = said c.turns.invariant c.in-Some.turn (rw c.in-Some.is at c.in_ok-take_turn.ensures.turn) (sym c.in-None-ending_trouble.ensures)

pub returns-in-None : goal.returns-in-None
returns-in-None g c = over c.turns.invariant (rw c.in-None.is at c.in_ok-take_turn.ensures.turn)

pub returns-in-Some-ending_trouble : goal.returns-in-Some-ending_trouble
returns-in-Some-ending_trouble g c = in_trouble c.turns.invariant c.in-Some.turn c.in-Some-ending_trouble.trouble (rw c.in-Some.is at c.in_ok-take_turn.ensures.turn) (sym c.in-Some-ending_trouble.ensures)

pub returns-in_err-take_turn : goal.returns-in_err-take_turn
returns-in_err-take_turn g c =
    let p = err_from_is_err_and c.from_residual.result c.from_residual.ensures.1 in
    rw p.1 (late c.turns.invariant c.in_err-take_turn.ensures.front)

pub returns : goal.returns
returns g c = late c.turns.invariant (front_of_added (g.O.Sink.printing c.turns.out) (g.O.Sink.printing c.turns.out) [] (Appends-nil (g.O.Sink.printing c.turns.out).contents))
