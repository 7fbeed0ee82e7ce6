use Rattle.std.proofs.Common.{◌≡◌, ◌-◌, ◌∙◌, length, take, drop, arith, length-drop}
use Rattle.std.proofs.lemmas.List.{take_all}
use Rattle.rr_journal.proofs.ChoiceLaws.{beginning_read}
use Rattle.rr_journal.proofs.image.beginning_of.Goals as goal

pub returns : goal.returns
returns c =
    let bytes = c.args.bytes.now in
    let whole : take (length bytes - 1) (drop 1 bytes) ≡ drop 1 bytes = take_all (length bytes - 1) (drop 1 bytes) (omega (arith, length-drop 1 bytes)) in
    let frame = rw whole at c.in-Some.ensures.value in
    c.beginning_with.ensures ∙ beginning_read c.args.nodes c.args.node bytes c.in-Some.payload.now c.in-Some.field-0-1.now c.snapshot_heading.result (omega arith) c.if-bytes.false frame c.snapshot_heading.ensures
