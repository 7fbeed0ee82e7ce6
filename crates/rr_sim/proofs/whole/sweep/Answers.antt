use Rattle.std.proofs.Common.{subst, sym, List, inl, inr}
use Rattle.std.proofs.lemmas.Bool.{false≢true}
use Rattle.std.proofs.lemmas.Result.{err_from_is_err_and}
use Rattle.std.specs.List.{AllByRecursion}
use Rattle.rr_text.specs.declared.event.Event.{Event}
use Rattle.rr_text.specs.Scheduled.{IsEvent}
use Rattle.rr_sim.proofs.whole.sweep.Goals as goal

pub sweep_events-requires-clause-ranges : goal.sweep_events-requires-clause-ranges
sweep_events-requires-clause-ranges c = (c.args.schedule.now.nodes, subst (λ (es : List Event). AllByRecursion (IsEvent c.args.schedule.now.nodes) es) (sym c.events-events.ensures.value) c.events-events.ensures.valid.each)

pub returns-in_err-count-clause-bad_event : goal.returns-in_err-count-clause-bad_event
returns-in_err-count-clause-bad_event c =
    let p = err_from_is_err_and c.from_residual.result c.from_residual.ensures.1 in
    let none = c.in_err-count.ensures.valid.1 in
    rw (p.1, p.2) (λ line.
    let exact = c.in_err-count.ensures.bad_event line in (
      λ is. let there = exact.0 (let same = is in cc) in (there.0, there.1, inl there.2),
      λ there. elim there.2 [ inl h ↦ (let same = exact.1 (there.0, there.1, h) in cc) | inr h ↦ absurd (false≢true (none (there.0, there.1, h.0))) ],
    ))
