use Rattle.std.proofs.Common.{Some, ap, ◌∙◌}
use Rattle.rr_registry.specs.Places.{filled}
use Rattle.rr_registry.proofs.PlaceLemmas.{filled-put}
use Rattle.rr_registry.proofs.places.insert.Goals as goal

pub returns-clause-filled : goal.returns-clause-filled
returns-clause-filled g c = ap filled c.in_ok-insert.ensures.entries ∙ filled-put g.K.Ord.cmp g.met.K.Ord.total c.requires.exact c.args.key (Some c.args.value) c.args.map.now.entries c.insert.ensures.was_ordered
