use Rattle.std.proofs.Common.{◌<◌, ◌^◌, length, sym, subst, ◌∙◌}
use Rattle.rr_core.proofs.KnowingLaws.{knows_on}
use Rattle.rr_core.proofs.opening.Opening.step_on.Goals as goal

pub step_on-stepped-requires : goal.step_on-stepped-requires
step_on-stepped-requires g c = rw (c.self.invariant.0, c.self.invariant.1) c.self.invariant.2

pub invariant_of-self : goal.invariant_of-self
invariant_of-self g c =
    let o = c.step_on-stepped.new.self in
    let gave = c.step_on-stepped.ensures in (
      gave.whose.0 ∙ c.self.invariant.0,
      gave.whose.1 ∙ c.self.invariant.1,
      c.self.invariant.2,
      c.self.invariant.3,
      λ now. (let tells : g.D.Disk.tells c.self.inside.journal.disk = c.self.invariant.3 o.disk c.self.inside.journal.disk now in
          let few = subst (λ (d : g.row.D.Denot). (length (g.D.Disk.areas d).first.cells < 2 ^ 64) × (length (g.D.Disk.areas d).second.cells < 2 ^ 64)) c.disk.ensures (c.measure.ensures (subst g.D.Disk.tells (sym c.disk.ensures) now)) in
          knows_on {D = g.row.D.Denot} g.D.Disk.areas o c.step_on-stepped.result gave.again few.0 few.1
          (gave.rests tells (c.self.invariant.4 tells).stands) (gave.fronts tells (c.self.invariant.4 tells).fronts)),
    )
