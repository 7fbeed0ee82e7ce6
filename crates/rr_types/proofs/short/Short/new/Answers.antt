use Rattle.rr_types.proofs.ShortLemmas.{padded-fill}
use Rattle.rr_types.proofs.short.Short.new.Goals as goal

pub invariant_of-result : goal.invariant_of-result
invariant_of-result c = padded-fill c.args.text.now _ c.requires c.copy_from_slice.ensures.after
