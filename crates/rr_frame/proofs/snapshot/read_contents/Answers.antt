use Rattle.rr_frame.proofs.SnapshotShapes.{contents_read}
use Rattle.rr_frame.proofs.snapshot.read_contents.Goals as goal

pub returns-clause-lawful : goal.returns-clause-lawful
returns-clause-lawful c = contents_read c.args.version c.args.nodes c.args.node c.args.reader.now c.read_next_and_entries.new.reader c.read_next_and_entries.result c.read_next_and_entries.ensures
