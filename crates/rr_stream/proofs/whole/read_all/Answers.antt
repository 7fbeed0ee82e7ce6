use Rattle.std.proofs.Common.{ap, arith, length, ◌∙◌}
use Rattle.std.proofs.KnownBytes.{Consumes-nil, Consumes-trans}
use Rattle.rr_stream.proofs.whole.read_all.Goals as goal

pub reads-init : goal.reads-init
reads-init g c =
    record {
      read = rw c.new-bytes.ensures.items (Consumes-nil _);
      faults = omega arith;
      room = ap length c.as_mut_slice-room.ensures.value ∙ c.in_ok-buffer.ensures;
    }

pub reads-preserved : goal.reads-preserved
reads-preserved g c =
    let (more, consumed, is) = c.in_ok-read_more.ensures.read in
    record {
      read = rw is (Consumes-trans _ _ _ _ _ c.reads.invariant.read consumed);
      faults = omega (arith, c.reads.invariant.faults, c.in_ok-read_more.ensures.faults);
      room = omega (arith, c.read_more.auto.room, c.reads.invariant.room);
    }
