use Rattle.std.proofs.lemmas.Bool.{false≢true}
use Rattle.rr_journal.proofs.snapshot.snapshot_frame.Goals as goal

pub unreachable-requires : goal.unreachable-requires
unreachable-requires c = false≢true (c.in-Err.ensures.valid.1 c.requires)
