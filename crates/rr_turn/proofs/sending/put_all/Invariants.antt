use Rattle.std.proofs.Common.{◌-◌, ◌≤◌}
use Rattle.rr_turn.proofs.Sends.{HasPut}
use Rattle.rr_turn.proofs.sending.put_all.Given as goal

abbrev pub invariant-loop-turn : goal.invariant-loop-turn
invariant-loop-turn g l =
    (l.turn ≤ l.most) × HasPut g.L.Links.gives (l.most - l.turn) l.most l.fn.locked l.locked l.fn.links l.links l.woken l.has_any l.fn.chase l.chase
