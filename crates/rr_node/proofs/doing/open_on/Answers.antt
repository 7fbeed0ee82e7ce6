use Rattle.std.proofs.Common.{◌≡◌, true, false, inl, Err, refl, sym, ◌∙◌}
use Rattle.rr_types.specs.declared.event.NodeEvent.TheVariants as at
use Rattle.rr_node.specs.declared.doing.Doing.TheVariants as does
use Rattle.rr_node.proofs.CallLaws.{carried}
use Rattle.rr_node.proofs.OpeningLaws.{opens_fallen, opens_stopped, an_end, ended_there}
use Rattle.rr_node.proofs.doing.open_on.Goals as goal
use Rattle.rr_node.proofs.doing.open_on.Goals.{then-is_device, else-is_device}

pub close-requires : goal.close-requires
close-requires c =
    let found = an_end c.step_on.new.self.end (c.in-Ok-Ended.ensures.ended.1 c.in-Ok-Ended.field-0-is) in
    (c.step_on.new.self, refl, (found.0, found.1, (c.in-Opening.opening, ended_there c.in-Opening.opening c.step_on.new.self found.0 c.in-Ok-Ended.field-0 c.in-Ok-Ended.field-0-is found.1 c.in-Ok-Ended.ensures.exact (c.in-Ok-Ended.ensures.comes tt) (c.in-Ok-Ended.ensures.fronts tt) c.in-Ok-Ended.ensures.snapshot c.in-Ok-Ended.ensures.call)))

pub returns-in-Ok-Ended : goal.returns-in-Ok-Ended
returns-in-Ok-Ended c n p =
    let old = c.in-Opening.opening in
    let new = c.step_on.new.self in
    let gave = c.in-Ok-Ended.ensures in
    let found = an_end new.end (gave.ended.1 c.in-Ok-Ended.field-0-is) in
    let ended = ended_there old new found.0 c.in-Ok-Ended.field-0 c.in-Ok-Ended.field-0-is found.1 gave.exact (gave.comes tt) (gave.fronts tt) gave.snapshot gave.call in
    carried n p at.Device at.Device c.args.doing.now (does.Opening old) c.close.new.doing c.close.new.doing c.close.result refl c.in-Opening.is refl (c.close.ensures new refl found.0 found.1 n p old ended)

pub returns-after-is_device : goal.returns-after-is_device
returns-after-is_device c n p =
    let old = c.in-Opening.opening in
    let new = c.step_on.new.self in
    let gave = c.in-Err.ensures in
    elim c.if-is_device.branch [
      | then-is_device w ↦
          carried n p at.Device at.Device c.args.doing.now (does.Opening old) c.if-is_device.doing (does.Faulted new.disk) (Err c.in-Err.refusal) refl c.in-Opening.is (w.doing-is ∙ w.fall.ensures.opening new refl)
          (opens_fallen n p old c.in-Err.refusal new.disk (inl gave.exact) gave.call (c.is_device.ensures.0 w.if-is_device.true))
      | else-is_device w ↦
          carried n p at.Device at.Device c.args.doing.now (does.Opening old) c.if-is_device.doing (does.Stopped new.disk) (Err c.in-Err.refusal) refl c.in-Opening.is (w.doing-is ∙ w.stop.ensures.opening new refl)
          (opens_stopped n p old c.in-Err.refusal new.disk (inl gave.exact) gave.call
          (λ is. (let both : false ≡ true = sym w.if-is_device.false ∙ c.is_device.ensures.1 is in absurd cc)))
    ]
