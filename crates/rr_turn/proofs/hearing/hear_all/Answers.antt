use Rattle.std.proofs.Common.{[], refl, arith}
use Rattle.rr_turn.specs.Asked.{still}
use Rattle.rr_turn.proofs.Hears.{hear_more, hear_none, hear_full}
use Rattle.rr_turn.proofs.hearing.hear_all.Goals as goal

pub loop-turn-init : goal.loop-turn-init
loop-turn-init g c =
    (omega arith, record { sents = []; count = refl; answer = refl; calls = still c.args.links.now; state = refl; chase = refl })

pub loop-turn-preserved : goal.loop-turn-preserved
loop-turn-preserved g c = (
  omega arith,
  hear_more g.L.Links.gives c.loop-turn.turn c.loop-turn.has_heard c.args.locked.now c.loop-turn.locked c.args.chase.now c.loop-turn.chase c.args.links.now c.loop-turn.links c.in-Some.sent c.meet.new.locked c.meet.new.chase c.take.new.self
      c.meet.new.links c.loop-turn.invariant.1 c.in-Some.ensures c.in_ok-meet-in-Some.ensures.calls c.in_ok-meet-in-Some.ensures.state c.meet.ensures.chase,
)

pub returns-in-None : goal.returns-in-None
returns-in-None g c =
    hear_none g.L.Links.gives c.loop-turn.turn c.args.most c.loop-turn.has_heard c.args.locked.now c.loop-turn.locked c.args.chase.now c.loop-turn.chase c.args.links.now c.loop-turn.links c.take.new.self
    c.loop-turn.invariant.1 (grind arith) c.loop-turn.invariant.0 c.in-None.ensures

pub returns-after-loop-turn : goal.returns-after-loop-turn
returns-after-loop-turn g c =
    hear_full g.L.Links.gives c.loop-turn.turn c.args.most c.loop-turn.has_heard c.args.locked.now c.loop-turn.locked c.args.chase.now c.loop-turn.chase c.args.links.now c.loop-turn.links
    (omega arith) c.loop-turn.invariant.1
