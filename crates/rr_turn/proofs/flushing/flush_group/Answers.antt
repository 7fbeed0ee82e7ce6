use Rattle.std.proofs.Common.{◌∷◌, [], None, Some, refl}
use Rattle.rr_turn.specs.Asked.{receives, hands_back, wakes_loop, still, more}
use Rattle.rr_turn.proofs.flushing.flush_group.Goals as goal

pub returns-in-None : goal.returns-in-None
returns-in-None g c = (None, refl, (more (receives None) [] c.args.ends.now c.receive.new.self c.receive.new.self c.in-None.ensures (still c.receive.new.self), refl))

pub returns-in-Some : goal.returns-in-Some
returns-in-Some g c =
    let did = c.carry-back.ensures in
    let back = c.carry-back.result in
    let rung = wakes_loop c.args.node in
    let end = c.wake_loop.new.self in (
      Some c.in-Some.group,
      refl,
      (
        back,
        more (receives (Some c.in-Some.group)) (hands_back back ∷ rung ∷ []) c.args.ends.now c.receive.new.self end c.in-Some.ensures
            (more (hands_back back) (rung ∷ []) c.receive.new.self c.hand_back.new.self end c.hand_back.ensures
            (more rung [] c.hand_back.new.self end end c.wake_loop.ensures.call (still end))),
        record {
          synced = did.synced;
          calls = did.calls;
          goes_on = did.goes_on;
          refused = did.refused;
          cause = did.cause;
          failed = did.failed;
          kept = did.tells;
          table = did.table;
        },
      ),
    )
