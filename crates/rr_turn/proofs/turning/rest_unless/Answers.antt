use Rattle.std.proofs.Common.{sym, subst}
use Rattle.std.specs.Duration.{as_nanos}
use Rattle.rr_turn.specs.Asked.{rests}
use Rattle.rr_turn.specs.Looks.{RestsIf}
use Rattle.rr_turn.proofs.turning.rest_unless.Goals as goal

pub returns-then-has : goal.returns-then-has
returns-then-has g c = subst (λ b. RestsIf g.L.Links.gives b c.args.ticks.now c.args.links.now c.go_on.new.self) (sym c.if-has.true) c.go_on.ensures

pub returns : goal.returns
returns g c =
    let gives = g.L.Links.gives in
    let timed = c.read_clock.new.self in
    let to = c.rest.new.self in
    subst (λ b. RestsIf gives b c.args.ticks.now c.args.links.now to) (sym c.if-has.false)
    (as_nanos c.in_ok-now.now, timed, c.in_ok-now.ensures, subst (λ n. gives timed (rests n) to) c.until.ensures c.rest.ensures)
