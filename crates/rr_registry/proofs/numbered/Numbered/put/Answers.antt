use Rattle.std.proofs.Common.{◌∙◌, ap, Some}
use Rattle.std.specs.Ordering.{nat_cmp}
use Rattle.rr_registry.specs.Places.{filled, has_place}
use Rattle.rr_registry.proofs.NumberedLemmas.{value_put, place_same}
use Rattle.rr_registry.proofs.numbered.Numbered.put.Goals as goal

pub returns-clause-filled : goal.returns-clause-filled
returns-clause-filled g c = ap filled c.in-Ok.ensures.ok ∙ value_put c.args.number c.args.value c.args.self.now c.write.ensures.sorted

pub returns-clause-places : goal.returns-clause-places
returns-clause-places g c = λ q. ap (λ es. has_place nat_cmp es q) c.in-Ok.ensures.ok ∙ place_same c.args.number q (Some c.args.value) c.args.self.now c.requires
