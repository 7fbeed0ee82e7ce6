use Rattle.std.proofs.Common.{◌≡◌, ◌∙◌, ◌≤◌, ◌<◌, length, refl, arith}
use Rattle.rr_threads.proofs.Mailing.{late_more}
use Rattle.rr_threads.proofs.wires.Mail.put_late.Goals as goal

pub loop-place-init : goal.loop-place-init
loop-place-init g c = (refl, refl, omega arith, record { count = refl; done = λ p d few. absurd (omega (arith, few)); rest = λ p d past. refl })

pub loop-place-preserved : goal.loop-place-preserved
loop-place-preserved g c =
    let l = c.loop-place in
    let did = c.put_late_at.ensures in (
      did.0 ∙ l.invariant.0,
      did.1 ∙ l.invariant.1,
      omega arith,
      late_more l.place c.args.self.now.ways.items l.self.ways.items c.put_late_at.new.self.ways.items l.invariant.3 (omega (arith, l.invariant.3.count)) did.2,
    )

pub returns : goal.returns
returns g c =
    let l = c.loop-place in
    let some = l.invariant.3 in
    (l.invariant.0, l.invariant.1, (some.count, λ p d within. some.done p d (omega (arith, within, l.invariant.2, c.loop-place-test.false, some.count))))
