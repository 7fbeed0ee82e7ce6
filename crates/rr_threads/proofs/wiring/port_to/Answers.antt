use Rattle.std.proofs.Math.ListN.{get_or}
use Rattle.std.proofs.Math.Seq.{map-set_same}
use Rattle.rr_window.specs.InOrder.{End, Inbox}
use Rattle.rr_turn.specs.Recorded.{Sent}
use Rattle.rr_threads.proofs.WayLemmas.{same_inbox}
use Rattle.rr_threads.proofs.wiring.port_to.Goals as goal

pub returns-clause-same : goal.returns-clause-same
returns-clause-same c =
    let inboxes = c.args.inboxes.now in
    let place = c.args.place in
    let inbox = c.index-inboxes-place.result in
    map-set_same (λ (o : End Inbox Sent). o.queue) inboxes place c.port.new.self inbox
    (same_inbox c.port.result (get_or inboxes place inbox) c.port.new.self c.port.ensures.ok c.port.ensures.same)
