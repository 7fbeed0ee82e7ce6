use Rattle.std.proofs.Common.{◌∷◌, []}
use Rattle.rr_turn.specs.Asked.{wants_reply, notes_wanted, wakes_loop, still, more}
use Rattle.rr_turn.proofs.waiting.await_receipt.Goals as goal

pub returns : goal.returns
returns g c =
    let rung = c.wake_loop.new.self in
    record {
      asked_at = rung;
      waited_at = c.wait_at-rests.new.ends;
      asks = more (wants_reply c.args.command.now) (notes_wanted ∷ wakes_loop c.args.node ∷ []) c.args.ends.now c.want.new.self rung c.want.ensures
          (more notes_wanted (wakes_loop c.args.node ∷ []) c.want.new.self c.note_wanted.new.self rung c.note_wanted.ensures
          (more (wakes_loop c.args.node) [] c.note_wanted.new.self rung rung c.wake_loop.ensures.call (still rung)));
      waits_at = c.wait_at-rests.ensures;
      takes = c.collect-receipt.ensures;
    }
