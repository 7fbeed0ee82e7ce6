use Rattle.std.proofs.Common.{◌≡◌, ◌+◌, ◌<◌, refl, arith}
use Rattle.rr_text.proofs.ScheduleReading.{plain_taken}
use Rattle.rr_text.proofs.text_parse.plain_event.Goals as goal

pub returns : goal.returns
returns c =
    let valid = c.in_ok-node.ensures.valid in
    let value = c.in_ok-node.ensures.value in
    let less = c.in_ok-checked_sub.ensures in
    let low : c.in_ok-node.node < c.args.nodes = omega (arith, valid.0 refl, value) in
    let digit : c.in_ok-keyword.digit ≡ 48 + c.in_ok-node.node = omega (arith, less.0, less.1, value) in
    plain_taken c.args.nodes c.in_ok-keyword.keyword c.in_ok-node.node c.in_ok-keyword.digit c.plain.result c.args.bytes.now c.in_ok-keyword.rest.now (omega arith) low digit c.plain.ensures c.in_ok-keyword.ensures.1
