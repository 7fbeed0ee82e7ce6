use Rattle.std.proofs.Common.{◌≡◌, ◌-◌, ◌<◌, ◌∙◌, Some, length, take, drop, sym, arith, length-drop}
use Rattle.std.proofs.lemmas.Bool.{eqb-false}
use Rattle.std.proofs.lemmas.List.{take_all}
use Rattle.rr_journal.specs.Image.{after_payload}
use Rattle.rr_journal.proofs.ContentLemmas.{frame_taken, gate_after, room_after}
use Rattle.rr_journal.proofs.content.read_groups.Goals as goal

pub loop-rest-preserved : goal.loop-rest-preserved
loop-rest-preserved c =
    let apart = eqb-false (length c.loop-rest.rest.now) 0 (sym c.is_empty.ensures ∙ c.loop-rest-test.true) in
    let some : 0 < length c.loop-rest.rest.now = omega arith in
    let d = c.in-Ok-Some.next in
    let now = c.loop-rest.reading in
    let rest = c.loop-rest.rest.now in
    let whole : take (length rest - 1) (drop 1 rest) ≡ drop 1 rest = take_all (length rest - 1) (drop 1 rest) (omega (arith, length-drop 1 rest)) in
    let frame = rw whole at c.in-Some.ensures.value in
    let parts = rw whole at c.in-Some.ensures.parts in
    let taken : after_payload c.args.version c.args.nodes c.args.node now c.in-Some.payload.now ≡ Some d = sym c.in-Ok-Some.ensures ∙ c.in-Ok-Some.field-0-is in
    let moved = gate_after c.args.version c.args.nodes c.args.node now d c.in-Some.payload.now taken in
    record {
      on = frame_taken c.args.version c.args.nodes c.args.node now d rest c.in-Some.payload.now c.in-Some.after.now _ some c.if-rest.true frame parts taken c.loop-rest.invariant.on;
      room = room_after rest c.in-Some.payload.now c.in-Some.after.now now.gate d.gate _ some parts moved c.loop-rest.invariant.room;
    }
