use Rattle.std.proofs.Common.{arith}
use Rattle.std.proofs.lemmas.Grind.{common_steps}
use Rattle.rr_registry.proofs.PlaceLemmas.{filled-kept}
use Rattle.rr_registry.proofs.places.make_place.Goals as goal

pub returns-in-Ok-clause-filled : goal.returns-in-Ok-clause-filled
returns-in-Ok-clause-filled g c =
    let kept = filled-kept g.K.Ord.cmp g.met.K.Ord.total c.args.key c.args.map.now.entries c.entry.ensures.ordered in
    let entries = c.in-Ok.ensures.update.1 c.or_insert.result.now in
    let written = c.or_insert.ensures.value in
    let found = c.in-Ok.ensures.value in
    grind (arith, common_steps)
