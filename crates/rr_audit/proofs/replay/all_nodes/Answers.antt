use Rattle.std.proofs.Common.{[], rules}
use Rattle.std.proofs.lemmas.List.FromFn.{map-range_with_len_more}
use Rattle.rr_model.specs.NodeStep.{started}
use Rattle.rr_audit.proofs.replay.all_nodes.Goals as goal

pub loop-index-preserved : goal.loop-index-preserved
loop-index-preserved c =
    let more = map-range_with_len_more (λ p. started c.args.nodes p [] 0) 0 c.loop-index.index c.loop-index.index (search rules) in
    search (rules, more)
