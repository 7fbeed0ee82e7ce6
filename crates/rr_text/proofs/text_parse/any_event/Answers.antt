use Rattle.std.proofs.Common.{rules, arith, sym, ◌∙◌}
use Rattle.std.proofs.lemmas.Grind.{common_steps}
use Rattle.rr_text.specs.Lines.{HasNoLine}
use Rattle.rr_text.specs.Scheduled.{IsEvent}
use Rattle.rr_text.specs.ScheduleTexts.{event_line}
use Rattle.rr_text.proofs.ScheduleReading.{event_taken, event_uncut, event_unread}
use Rattle.rr_text.proofs.text_parse.any_event.Goals as goal

pub returns-in-Some-2-clause-ok : goal.returns-in-Some-2-clause-ok
returns-in-Some-2-clause-ok c =
    let taken = event_taken c.args.nodes c.args.bytes.now c.in-Some.text.now c.in-Some.rest.now c.in-Some-2.event (omega arith) c.in-Some.ensures (sym c.in-Some-2.is ∙ c.in_ok-event.ensures.ok ∙ sym (c.in-Some-first_keyword.ensures c.args.nodes)) in
    (omega (arith, c.if-line.false), taken.0, taken.1)

pub returns-in-None-clause-err : goal.returns-in-None-clause-err
returns-in-None-clause-err c =
    let none : HasNoLine (IsEvent c.args.nodes) event_line c.args.bytes.now =
    event_unread c.args.nodes c.args.bytes.now c.in-Some.text.now c.in-Some.rest.now (omega arith) c.in-Some.ensures (sym c.in-None.is ∙ c.in_ok-event.ensures.ok ∙ sym (c.in-Some-first_keyword.ensures c.args.nodes)) in
    first_of (search rules, grind (arith, common_steps))

pub returns-in_default-first_keyword-clause-err : goal.returns-in_default-first_keyword-clause-err
returns-in_default-first_keyword-clause-err c =
    let none : HasNoLine (IsEvent c.args.nodes) event_line c.args.bytes.now =
    event_unread c.args.nodes c.args.bytes.now c.in-Some.text.now c.in-Some.rest.now (omega arith) c.in-Some.ensures (sym (c.in_default-first_keyword.ensures c.args.nodes)) in
    first_of (search rules, grind (arith, common_steps))

pub returns-in_default-clause-err : goal.returns-in_default-clause-err
returns-in_default-clause-err c =
    let none : HasNoLine (IsEvent c.args.nodes) event_line c.args.bytes.now = event_uncut c.args.nodes c.args.bytes.now (omega arith) c.in_default.ensures in
    first_of (search rules, grind (arith, common_steps))
