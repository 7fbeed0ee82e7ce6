use Rattle.rr_turn.proofs.submitting.submit_in_order.Goals as goal

pub returns : goal.returns
returns g c =
    let puts = c.in_ok-receivers.ensures in
    (_, _, puts.0, puts.1, c.hear_next.new.chase, c.hear_next.new.links, c.ask_all-count.new.links, c.in_ok-hear_next.ensures, c.ask_all-count.ensures, puts.2)
