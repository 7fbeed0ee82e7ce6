use Rattle.std.proofs.Common.{rules}
use Rattle.std.proofs.lemmas.List.FromFn.{map-range_with_len_more}
use Rattle.rr_node.specs.Seats.{new_seat}
use Rattle.rr_sim.proofs.cluster.Cluster.new.Goals as goal

pub loop-index-preserved : goal.loop-index-preserved
loop-index-preserved c =
    let more = map-range_with_len_more (new_seat c.args.nodes) 0 c.loop-index.index c.loop-index.index (search rules) in
    search (rules, more)
