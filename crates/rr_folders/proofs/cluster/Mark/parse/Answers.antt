use Rattle.rr_folders.proofs.ClusterReading.{mark_only}
use Rattle.rr_folders.proofs.cluster.Mark.parse.Goals as goal

pub returns-clause-only : goal.returns-clause-only
returns-clause-only c = mark_only c.args.bytes.now c.mark.result c.mark.ensures
