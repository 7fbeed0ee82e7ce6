use Rattle.std.proofs.Common.{ap, sym, Some, ◌∙◌}
use Rattle.rr_registry.proofs.PlaceLemmas.{lookup-filled, joined}
use Rattle.rr_registry.proofs.places.value_of.Goals as goal

pub returns-in-Some-Some : goal.returns-in-Some-Some
returns-in-Some-Some g c = lookup-filled g.K.Ord.cmp g.met.K.Ord.total c.args.key.now c.args.map.now.entries c.len.ensures.ordered ∙ ap joined (sym c.in-Some-Some.ensures.value ∙ ap Some c.in-Some-Some.field-0-is)

pub returns-in-Some-None : goal.returns-in-Some-None
returns-in-Some-None g c = lookup-filled g.K.Ord.cmp g.met.K.Ord.total c.args.key.now c.args.map.now.entries c.len.ensures.ordered ∙ ap joined (sym c.in-Some-None.ensures.value ∙ ap Some c.in-Some-None.field-0-is)

pub returns-in-None : goal.returns-in-None
returns-in-None g c = lookup-filled g.K.Ord.cmp g.met.K.Ord.total c.args.key.now c.args.map.now.entries c.len.ensures.ordered ∙ ap joined (sym c.in-None.ensures.value)
