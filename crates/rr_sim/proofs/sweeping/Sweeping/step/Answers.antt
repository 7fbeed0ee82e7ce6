use Rattle.std.proofs.Common.{refl}
use Rattle.std.proofs.lemmas.Result.{IfOk-weaker}
use Rattle.rr_sim.specs.declared.sweeping.Sweeping.{Sweeping}
use Rattle.rr_sim.proofs.Swept.{behind_it, may_crash, swept_more}
use Rattle.rr_sim.proofs.sweeping.Sweeping.step.Goals as goal

pub crashes-requires : goal.crashes-requires
crashes-requires c =
    let r = c.requires in
    may_crash r.0 r.1 r.5.swept.few r.3 c.args.event.now.node c.args.event.now.what c.forget_lines.new.self
    (behind_it r.0 r.1 r.2 r.3 r.4 c.args.line c.args.event.now c.args.self.now c.step_in_memory.new.self c.forget_lines.new.self r.5 c.in_ok-step_in_memory.ensures.ok c.in_ok-step_in_memory.ensures.spelt c.forget_lines.ensures)
    r.5.there

pub returns : goal.returns
returns c =
    record {
      ok = λ n m seed events lines is.
          let e = c.args.event.now in
          let now : Sweeping = record c.args.self.now { cluster = c.forget_lines.new.self } in
          let b = behind_it n m seed events lines c.args.line e c.args.self.now c.step_in_memory.new.self c.forget_lines.new.self is c.in_ok-step_in_memory.ensures.ok c.in_ok-step_in_memory.ensures.spelt c.forget_lines.ensures in
          IfOk-weaker c.crashes.result _ _ (λ more crashes. swept_more n m seed c.args.line events lines more.items e c.args.self.now now c.crashes.new.self is b refl crashes c.crashes.ensures.cluster c.crashes.ensures.words) c.crashes.ensures.lines;
    }
