use Rattle.std.proofs.Common.{◌≡◌, ◌-◌, ◌∙◌, length, take, drop, refl, arith, length-drop}
use Rattle.std.proofs.lemmas.List.{take_all}
use Rattle.rr_journal.proofs.InspectLaws.{own_begins}
use Rattle.rr_journal.proofs.inspection.own_front.Goals as goal

pub returns : goal.returns
returns c =
    let bytes = c.args.bytes.now in
    let whole : take (length bytes - 1) (drop 1 bytes) ≡ drop 1 bytes = take_all (length bytes - 1) (drop 1 bytes) (omega (arith, length-drop 1 bytes)) in
    let frame = rw whole at c.in-Some.ensures.value in
    let parts = rw whole at c.in-Some.ensures.parts in
    own_begins bytes c.in-Some.payload.now c.in-Some.field-0-1.now c.in-Ok.read.0 c.in-Ok.read.1 c.new-content.result c.nodes-nodes.result c.node-node.result c.nodes-nodes.ensures c.node-node.ensures.value (omega arith) c.if-bytes.false frame parts c.in-Ok.ensures.exact (c.new-content.ensures ∙ rw (c.epoch-epoch.ensures.value, c.into_promise.ensures, c.next-next.ensures) refl)
