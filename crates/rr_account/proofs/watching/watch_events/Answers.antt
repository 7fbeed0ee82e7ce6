use Rattle.std.proofs.Common.{◌∙◌, List, arith, refl, rules, subst, sym}
use Rattle.std.proofs.Math.ListN.{drop_of_length-le}
use Rattle.rr_account.specs.declared.outcome.Outcome.{Outcome}
use Rattle.rr_account.proofs.StepLaws.{WatchedSoFar, watched_none, watched_more, all_watched, all_lead}
use Rattle.rr_account.proofs.ShareLaws.{next_left}
use Rattle.rr_account.proofs.watching.watch_events.Goals as goal

pub loop-event-init : goal.loop-event-init
loop-event-init g c = record {
  watched = subst (λ (outcomes : List Outcome). WatchedSoFar c.args.events.now outcomes 0 2 c.args.cluster.now c.args.cluster.now) (sym c.new-outcomes.ensures.items) (watched_none c.args.events.now c.args.cluster.now);
  unprinted = refl;
}

pub loop-event-preserved : goal.loop-event-preserved
loop-event-preserved g c = record {
  watched = watched_more c.args.events.now c.loop-event.outcomes.items c.push.new.self.items c.loop-event.event-index c.loop-event.line _ c.args.cluster.now c.loop-event.cluster c.watch_event.new.cluster c.event-item.result c.in_ok-outcome.outcome
      c.loop-event.invariant.watched (next_left c.args.events.now c.args.events.now c.loop-event.event-index c.event-item.result refl (search rules) c.event-item.is) (search rules) (search rules) c.in_ok-outcome.ensures.steps.0 c.in_ok-outcome.ensures.steps.1 c.in_ok-outcome.ensures.adds;
  unprinted = c.tell_step.ensures ∙ c.loop-event.invariant.unprinted;
}

pub returns-clause-spelt : goal.returns-clause-spelt
returns-clause-spelt g c =
    all_lead c.args.events.now c.loop-event.outcomes.items c.loop-event.event-index c.loop-event.line c.args.cluster.now c.loop-event.cluster c.loop-event.invariant.watched
    (drop_of_length-le c.args.events.now {i = c.loop-event.event-index} (omega (arith, c.loop-event-test.false)))

pub returns-clause-watched : goal.returns-clause-watched
returns-clause-watched g c =
    all_watched c.args.events.now c.loop-event.outcomes.items c.loop-event.event-index c.loop-event.line c.args.cluster.now c.loop-event.cluster c.loop-event.invariant.watched
    (drop_of_length-le c.args.events.now {i = c.loop-event.event-index} (omega (arith, c.loop-event-test.false)))
