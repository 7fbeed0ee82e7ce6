use Rattle.rr_turn.proofs.sending.send_all.Goals as goal

pub returns : goal.returns
returns g c =
    let did = c.in_ok-receivers.ensures in
    (did.0, did.1, c.in_ok-receivers.receivers.woken, c.put_in.new.links, did.2, c.ring_each.ensures)
