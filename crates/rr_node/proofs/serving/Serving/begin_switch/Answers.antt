use Rattle.std.proofs.Common.{subst}
use Rattle.rr_node.specs.declared.serving.Flush.{Flush}
use Rattle.rr_node.specs.Views.{IsServing}
use Rattle.rr_node.proofs.SwitchingLaws.{may_begin}
use Rattle.rr_node.proofs.serving.Serving.begin_switch.Goals as goal

pub begin_snapshot-requires : goal.begin_snapshot-requires
begin_snapshot-requires c =
    let s = c.args.self.now in
    may_begin s.core s.slots c.in_ok-promise.promise s.core.nodes s.core.node c.in_ok-promise.ensures.ok
    (subst (λ (f : Flush). IsServing s.core.nodes s.core.node (record { core = s.core; slots = s.slots; flush = f })) c.requires.rests c.requires.own)
