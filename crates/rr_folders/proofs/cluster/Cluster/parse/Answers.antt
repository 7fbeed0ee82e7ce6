use Rattle.rr_folders.proofs.ClusterReading.{cluster_only}
use Rattle.rr_folders.proofs.cluster.Cluster.parse.Goals as goal

pub returns-clause-only : goal.returns-clause-only
returns-clause-only c = cluster_only c.args.bytes.now c.cluster.result c.cluster.ensures
