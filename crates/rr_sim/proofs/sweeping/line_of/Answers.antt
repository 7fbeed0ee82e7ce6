use Rattle.std.proofs.Common.{subst, sym}
use Rattle.rr_node.specs.Seats.{Seat}
use Rattle.rr_sim.specs.Openings.{IsInSome}
use Rattle.rr_sim.proofs.Restarts.{crash_stands}
use Rattle.rr_sim.proofs.sweeping.line_of.Goals as goal

pub open-requires-clause-stands : goal.open-requires-clause-stands
open-requires-clause-stands c =
    let r = c.requires in
    (r.0, r.1, subst (λ (s : Seat). IsInSome r.0 r.1 s) (sym c.in_ok-crashed.ensures.left) (crash_stands r.0 r.1 c.args.word c.args.ending c.args.seat.now r.2))
