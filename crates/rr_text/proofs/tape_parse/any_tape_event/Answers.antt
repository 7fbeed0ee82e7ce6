use Rattle.std.proofs.Common.{rules, arith, sym}
use Rattle.std.proofs.lemmas.Grind.{common_steps}
use Rattle.rr_text.specs.Lines.{HasNoLine}
use Rattle.rr_text.specs.Taped.{IsTapeEvent}
use Rattle.rr_text.specs.TapeTexts.{tape_line}
use Rattle.rr_text.proofs.TapeReading.{event_uncut, event_unread, line_ok, line_err}
use Rattle.rr_text.proofs.tape_parse.any_tape_event.Goals as goal

pub returns-in_default-clause-err : goal.returns-in_default-clause-err
returns-in_default-clause-err c =
    let none : HasNoLine (IsTapeEvent c.args.nodes) tape_line c.args.bytes.now = event_uncut c.args.nodes c.args.bytes.now (omega arith) c.in_default.ensures in
    first_of (search rules, grind (arith, common_steps))

pub returns-in_default-first_keyword-clause-err : goal.returns-in_default-first_keyword-clause-err
returns-in_default-first_keyword-clause-err c =
    let none : HasNoLine (IsTapeEvent c.args.nodes) tape_line c.args.bytes.now =
    event_unread c.args.nodes c.args.bytes.now c.in-Some.text.now c.in-Some.rest.now (omega arith) c.in-Some.ensures (sym (c.in_default-first_keyword.ensures c.args.nodes)) in
    first_of (search rules, grind (arith, common_steps))

pub returns-clause-ok : goal.returns-clause-ok
returns-clause-ok c =
    line_ok (λ rest. rest.now) c.args.nodes c.args.line c.args.bytes.now c.in-Some.text.now c.in-Some.rest.now _ c.fields_line.result (omega arith) (omega (arith, c.if-line.false)) c.in-Some.ensures (c.in-Some-first_keyword.ensures c.args.nodes) c.fields_line.ensures.ok

pub returns-clause-err : goal.returns-clause-err
returns-clause-err c =
    line_err c.args.nodes c.args.line c.args.bytes.now c.in-Some.text.now c.in-Some.rest.now _ c.fields_line.result (omega arith) c.in-Some.ensures (c.in-Some-first_keyword.ensures c.args.nodes) c.fields_line.ensures.err
