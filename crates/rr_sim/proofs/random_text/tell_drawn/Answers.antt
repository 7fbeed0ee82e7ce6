use Rattle.std.proofs.Common.{rules, refl, ◌∙◌}
use Rattle.rr_sim.proofs.DrawnLaws.{drawn_at, drawn_more, drawn_all}
use Rattle.rr_sim.proofs.random_text.tell_drawn.Goals as goal

pub loop-step-init : goal.loop-step-init
loop-step-init g c =
    record {
      drawn = drawn_at c.args.nodes c.args.steps c.args.generator.now c.args.texts.now.schedule.items _ c.args.cluster.now c.args.texts.now.report.items (search rules) c.requires.start c.requires.told;
      unprinted = refl;
    }

pub loop-step-preserved : goal.loop-step-preserved
loop-step-preserved g c =
    record {
      drawn = drawn_more c.args.nodes c.args.steps c.args.generator.now c.args.texts.now.schedule.items c.loop-step.step c.loop-step.line c.loop-step.generator c.loop-step.cluster c.loop-step.texts.schedule.items c.loop-step.texts.report.items
          c.loop-step.invariant.drawn c.step_in_memory.new.self c.in_ok-event.event c.draw.new.generator c.tell.new.self c.push_event_line.new.out.items c.tell.new.text.items _
          (search rules) c.in_ok-event.ensures.valid c.in_ok-event.ensures.words c.in_ok-step_in_memory.ensures.ok c.in_ok-step_in_memory.ensures.spelt c.in_ok-tell.ensures.kept c.in_ok-push_event_line.ensures.ok c.in_ok-tell.ensures.told (search rules);
      unprinted = c.tell_step.ensures ∙ c.loop-step.invariant.unprinted;
    }

pub returns-clause-ok : goal.returns-clause-ok
returns-clause-ok g c =
    drawn_all c.args.nodes c.args.steps c.args.generator.now c.args.texts.now.schedule.items c.loop-step.line c.loop-step.generator c.loop-step.cluster c.loop-step.texts.schedule.items c.loop-step.texts.report.items (search (rules, c.loop-step.invariant.drawn))
