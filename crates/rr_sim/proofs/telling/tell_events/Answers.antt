use Rattle.std.proofs.Common.{◌∙◌, rules, refl}
use Rattle.rr_sim.proofs.ToldLaws.{told_none, told_more, told_all}
use Rattle.rr_sim.proofs.telling.tell_events.Goals as goal

pub loop-event-init : goal.loop-event-init
loop-event-init g c =
    record {
      told = told_none c.args.nodes c.args.bytes.now c.args.cluster.now c.args.text.now.items c.requires;
      unprinted = refl;
    }

pub loop-event-preserved : goal.loop-event-preserved
loop-event-preserved g c =
    let one = c.in_ok-step_told.ensures.ok in
    record {
      told = told_more c.args.nodes c.args.bytes.now c.args.cluster.now c.args.text.now.items c.loop-event.line _ c.loop-event.rest.now c.in-Some.behind.now c.loop-event.cluster one.0 c.step_told.new.self c.loop-event.text.items c.step_told.new.text.items c.in-Some.event
          c.loop-event.invariant.told (search rules) one.1 one.2 one.3 one.4 refl;
      unprinted = c.tell_read.ensures ∙ c.loop-event.invariant.unprinted;
    }

pub loop-event-preserved-in_ok-step_told : goal.loop-event-preserved-in_ok-step_told
loop-event-preserved-in_ok-step_told g c =
    let one = c.in_ok-step_told.ensures.ok in
    record {
      told = told_more c.args.nodes c.args.bytes.now c.args.cluster.now c.args.text.now.items c.loop-event.line _ c.loop-event.rest.now c.in-Some.behind.now c.loop-event.cluster one.0 c.step_told.new.self c.loop-event.text.items c.step_told.new.text.items c.in-Some.event
          c.loop-event.invariant.told (search rules) one.1 one.2 one.3 one.4 refl;
      unprinted = c.tell_read.ensures ∙ c.loop-event.invariant.unprinted;
    }

pub loop-event-preserved-in_ok-step_told-2 : goal.loop-event-preserved-in_ok-step_told-2
loop-event-preserved-in_ok-step_told-2 g c =
    let one = c.in_ok-step_told.ensures.ok in
    record {
      told = told_more c.args.nodes c.args.bytes.now c.args.cluster.now c.args.text.now.items c.loop-event.line _ c.loop-event.rest.now c.in-Some.behind.now c.loop-event.cluster one.0 c.step_told.new.self c.loop-event.text.items c.step_told.new.text.items c.in-Some.event
          c.loop-event.invariant.told (search rules) one.1 one.2 one.3 one.4 refl;
      unprinted = c.tell_read.ensures ∙ c.loop-event.invariant.unprinted;
    }

pub returns-clause-ok : goal.returns-clause-ok
returns-clause-ok g c =
    told_all c.args.nodes c.args.bytes.now c.args.cluster.now c.args.text.now.items c.loop-event.line c.loop-event.rest.now c.loop-event.cluster c.loop-event.text.items c.loop-event.invariant.told (search rules)
