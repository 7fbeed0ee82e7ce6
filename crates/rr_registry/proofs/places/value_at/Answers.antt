use Rattle.std.proofs.Common.{ap, sym, ◌∙◌}
use Rattle.rr_registry.proofs.PlaceLemmas.{lookup-filled, joined}
use Rattle.rr_registry.proofs.places.value_at.Goals as goal

pub returns-in-Some-clause-value : goal.returns-in-Some-clause-value
returns-in-Some-clause-value g c = sym (lookup-filled g.K.Ord.cmp g.met.K.Ord.total c.args.key.now c.args.map.now.entries c.len.ensures.ordered ∙ ap joined (sym c.in-Some.ensures.value))

pub returns-in-None-clause-value : goal.returns-in-None-clause-value
returns-in-None-clause-value g c = sym (lookup-filled g.K.Ord.cmp g.met.K.Ord.total c.args.key.now c.args.map.now.entries c.len.ensures.ordered ∙ ap joined (sym c.in-None.ensures.value))
