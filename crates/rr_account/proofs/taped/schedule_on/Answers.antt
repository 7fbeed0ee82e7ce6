use Rattle.std.proofs.Common.{ℕ, List, map, sym, subst}
use Rattle.rr_text.specs.declared.event.Event.{Event}
use Rattle.rr_text.specs.Scheduled.{IsSchedule}
use Rattle.rr_text.specs.declared.tape_event.TapeEvent.{TapeEvent}
use Rattle.rr_audit.specs.Rows.{as_scheduled}
use Rattle.rr_account.proofs.TapeLaws.{is_schedule}
use Rattle.rr_account.proofs.taped.schedule_on.Goals as goal

pub of_parts-requires : goal.of_parts-requires
of_parts-requires c =
    subst (λ (n : ℕ). IsSchedule (record { nodes = n; events = c.in_ok-events.events.items })) (sym c.nodes.ensures)
    (subst (λ (es : List Event). IsSchedule (record { nodes = c.args.tape.now.nodes; events = es })) (sym c.in_ok-events.ensures)
    (subst (λ (es : List TapeEvent). IsSchedule (record { nodes = c.args.tape.now.nodes; events = map as_scheduled es })) (sym c.events.ensures.value)
    (is_schedule c.args.tape.now c.events.ensures.valid)))
