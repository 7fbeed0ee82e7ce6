use Rattle.std.proofs.Common.{◌≡◌, None, Some, sym, subst}
use Rattle.rr_types.specs.Registry.{reply_of}
use Rattle.rr_window.specs.Windows.{Publishing}
use Rattle.rr_turn.specs.Asked.{tells_clients}
use Rattle.rr_turn.proofs.Publishes.{told_none, told_later, told_one}
use Rattle.rr_turn.proofs.publishing.tell_next.Goals as goal

pub returns-in_default : goal.returns-in_default
returns-in_default g c = told_none g.C.Counters.gives c.args.follower.now.published c.args.acknowledged.now.items c.args.counters.now c.in_default.ensures.item.3

pub returns-in_default-reply : goal.returns-in_default-reply
returns-in_default-reply g c =
    let request = c.in-Some.request.now in
    let none = subst (λ (p : Publishing). reply_of p.published request ≡ None) c.publisher-publisher.ensures (sym c.in_default-reply.ensures) in
    told_later g.C.Counters.gives c.args.follower.now.published c.args.acknowledged.now.items request c.args.counters.now c.in-Some.ensures.item.3.0 c.in-Some.ensures.item.3.1 none

pub returns : goal.returns
returns g c =
    let gives = g.C.Counters.gives in
    let request = c.in-Some.request.now in
    let reply = c.in-Some-reply.reply in
    let here = c.publisher-publisher.ensures in
    told_one gives c.args.follower.now.published c.args.acknowledged.now.items c.pop_front.new.self.items request reply c.args.counters.now c.tell_all.new.self c.in-Some.ensures.item.3.0
    c.in-Some.ensures.item.3.1 (subst (λ (p : Publishing). reply_of p.published request ≡ Some reply) here (sym c.in-Some-reply.ensures)) c.pop_front.ensures.rest
    (subst (λ (p : Publishing). gives c.args.counters.now (tells_clients p.published request reply) c.tell_all.new.self) here c.tell_all.ensures)
