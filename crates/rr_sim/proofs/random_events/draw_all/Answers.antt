use Rattle.std.proofs.Common.{rules, refl, ◌+◌, ◌∙◌}
use Rattle.rr_sim.proofs.DrawingLemmas.{drawing_none, drawing_on, drawing_all}
use Rattle.rr_sim.proofs.random_events.draw_all.Goals as goal

pub loop-step-init : goal.loop-step-init
loop-step-init g c =
    record {
      drawn = drawing_none c.args.nodes c.args.steps c.args.generator.now c.args.cluster.now c.args.events.now.items;
      unprinted = refl;
    }

pub loop-step-preserved : goal.loop-step-preserved
loop-step-preserved g c =
    record {
      drawn = drawing_on c.args.nodes c.args.steps c.args.generator.now c.args.cluster.now c.args.events.now.items c.loop-step.events.items c.loop-step.step c.loop-step.generator c.loop-step.cluster
          (c.len.result + 2) c.in_ok-event.event c.push.new.self.items c.draw.new.generator c.step_in_memory.new.self
          c.loop-step.invariant.drawn (search rules) (search rules) (search rules) (search rules) (search rules) (search rules);
      unprinted = c.tell_step.ensures ∙ c.loop-step.invariant.unprinted;
    }

pub returns-clause-ok : goal.returns-clause-ok
returns-clause-ok g c =
    drawing_all c.args.nodes c.args.steps c.args.generator.now c.args.cluster.now c.args.events.now.items c.loop-step.events.items c.loop-step.generator c.loop-step.cluster (search (rules, c.loop-step.invariant.drawn))
