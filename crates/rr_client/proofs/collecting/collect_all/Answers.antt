-- Behind the last slot there are as many guests as there were slots.
use Rattle.std.proofs.Common.{◌≡◌, length, ◌∙◌, arith}
use Rattle.std.proofs.lemmas.Iterator.Adapters.{YieldsList-from_vec}
use Rattle.std.proofs.lemmas.Iterator.Consumers.{YieldsList-end}
use Rattle.rr_client.proofs.collecting.collect_all.Goals as goal

pub returns : goal.returns
returns g c =
    let given = c.into_iter-slot-iterator.ensures.into_iter_gives in
    let many : c.into_iter-slot-iterator.result.rest.len ≡ length c.args.slots.items = omega (arith, given.1, c.args.slots.ok.0) in
    let all = YieldsList-from_vec {s = c.into_iter-slot-iterator.result} c.args.slots.items given.0 many in
    let t = YieldsList-end all c.slots.yielded c.slots.slot-iterator c.slots.yielded_by c.next.result c.next.new.self c.in-None.is c.next.ensures.steps in
    c.slots.invariant ∙ t.1
