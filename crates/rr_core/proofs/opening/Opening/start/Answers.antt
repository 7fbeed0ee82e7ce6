use Rattle.std.proofs.Common.{subst}
use Rattle.rr_core.proofs.KnowingLaws.{begins_with}
use Rattle.rr_core.proofs.opening.Opening.start.Goals as goal

pub invariant_of-result : goal.invariant_of-result
invariant_of-result g c =
    let short = λ (tells : g.D.Disk.tells c.args.disk). c.measure.ensures tells in (
      c.start.ensures.whose.0,
      c.start.ensures.whose.1,
      c.requires.exists,
      c.requires.alike,
      λ now. (let tells : g.D.Disk.tells c.args.disk = subst g.D.Disk.tells c.start.ensures.disk now in
          begins_with {D = g.row.D.Denot} g.D.Disk.areas c.start.result c.args.nodes c.args.node c.args.disk c.start.ensures.whose.0 c.start.ensures.whose.1 c.start.ensures.disk c.start.ensures.phase
          (c.start.ensures.rests (short tells).0 (short tells).1)),
    )
