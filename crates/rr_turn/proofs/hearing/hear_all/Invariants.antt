use Rattle.std.proofs.Common.{◌≤◌}
use Rattle.rr_turn.proofs.Hears.{HasHeard}
use Rattle.rr_turn.proofs.hearing.hear_all.Given as goal

abbrev pub invariant-loop-turn : goal.invariant-loop-turn
invariant-loop-turn g l = (l.turn ≤ l.most) × HasHeard g.L.Links.gives l.turn l.has_heard l.fn.locked l.locked l.fn.chase l.chase l.fn.links l.links
