use Rattle.std.proofs.Common.{◌≡◌, sym, arith}
use Rattle.rr_audit.proofs.Follows.{follows_hear}
use Rattle.rr_audit.proofs.replay_node.ReplayNode.hear_from.Goals as goal

pub returns : goal.returns
returns c =
    let own : c.in-Some.message.to ≡ c.args.node = omega (arith, c.if-index.false, c.index.ensures.value, c.index-2.ensures.value) in
    follows_hear c.args.wire.now c.args.node c.args.number c.in-Some.message c.args.self.now c.tell.new.self c.tell.result (sym c.in-Some.ensures) own c.tell.ensures
