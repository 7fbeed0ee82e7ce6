use Rattle.std.proofs.Common.{sym, subst, List, Ok}
use Rattle.std.proofs.lemmas.Result.{err_from_is_err_and}
use Rattle.std.specs.List.{AllByRecursion}
use Rattle.rr_text.specs.declared.event.Event.{Event}
use Rattle.rr_text.specs.Scheduled.{IsEvent}
use Rattle.rr_sim.proofs.HeadlineLaws.{run_agrees}
use Rattle.rr_sim.proofs.RealTimeLaws.{run_keeps_real_time}
use Rattle.rr_sim.proofs.CleanLaws.{is_only_one}
use Rattle.rr_sim.proofs.simulator.simulate.Goals as goal

pub run-requires-clause-ranges : goal.run-requires-clause-ranges
run-requires-clause-ranges c =
    let schedule = c.args.schedule.now in
    (schedule.nodes, subst (λ (es : List Event). AllByRecursion (IsEvent schedule.nodes) es) (sym c.events.ensures.value) c.events.ensures.valid.each)

pub returns-clause-one_list : goal.returns-clause-one_list
returns-clause-one_list c = run_agrees c.in_ok-count.count c.events.result.now c.args.schedule.now.events (Ok c.in_ok-report.report) c.events.ensures.value c.in_ok-report.ensures.world

pub returns-clause-real_time : goal.returns-clause-real_time
returns-clause-real_time c = run_keeps_real_time c.in_ok-count.count c.args.nodes c.events.result.now c.args.schedule.now.events (Ok c.in_ok-report.report) c.in_ok-count.ensures.value c.events.ensures.value c.in_ok-report.ensures.world

pub returns-clause-clean : goal.returns-clause-clean
returns-clause-clean c = is_only_one c.in_ok-count.count c.args.nodes c.events.result.now c.args.schedule.now.events (Ok c.in_ok-report.report) c.in_ok-count.ensures.value c.events.ensures.value c.in_ok-report.ensures.world

pub returns-in_err-count-clause-bad_event : goal.returns-in_err-count-clause-bad_event
returns-in_err-count-clause-bad_event c =
    let p = err_from_is_err_and c.from_residual.result c.from_residual.ensures.1 in
    rw (p.1, p.2) (λ line.
    let exact = c.in_err-count.ensures.bad_event line in
    (λ is. exact.0 (let same = is in cc), λ there. let same = exact.1 there in cc))

pub returns-in_err-count-clause-own : goal.returns-in_err-count-clause-own
returns-in_err-count-clause-own c = λ same. let ok = c.in_err-count.ensures.own same in absurd cc
