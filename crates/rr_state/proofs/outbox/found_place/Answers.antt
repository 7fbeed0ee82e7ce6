use Rattle.rr_model.specs.NodeStep.{may_leave}
use Rattle.rr_state.proofs.OutboxLemmas.{all_held_back, found}
use Rattle.std.proofs.Common.{◌<◌, arith, length, take}
use Rattle.rr_state.proofs.outbox.found_place.Goals as goal

pub returns-then-passed-len : goal.returns-then-passed-len
returns-then-passed-len c =
    let owed = c.args.owed.now.items in
    let passed = c.args.passed in
    let p = c.requires.passed.0 in
    let inside : passed.next < length owed = omega (arith, c.if-passed-len.true, c.len.ensures) in
    found (may_leave c.args.end) owed passed.count passed.next p.0 inside (all_held_back c.args.end passed.least (take passed.count owed) c.requires.passed.1 p.2) (λ o. c.requires.found o inside)
