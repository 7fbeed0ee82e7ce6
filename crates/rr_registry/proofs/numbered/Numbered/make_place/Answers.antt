use Rattle.std.proofs.Common.{◌∙◌, ap, sym, None}
use Rattle.std.specs.Ordering.{nat_cmp}
use Rattle.rr_registry.specs.Places.{filled, has_place}
use Rattle.rr_registry.proofs.NumberedLemmas.{free_put, place_made, place_kept}
use Rattle.rr_registry.proofs.numbered.Numbered.make_place.Goals as goal

pub returns-in_ok-write-clause-filled : goal.returns-in_ok-write-clause-filled
returns-in_ok-write-clause-filled g c = ap filled c.in_ok-write.ensures.ok ∙ free_put c.args.number c.args.self.now (sym c.has_place.ensures ∙ c.if-not-has_place.true)

pub returns-in_ok-write-clause-made : goal.returns-in_ok-write-clause-made
returns-in_ok-write-clause-made g c = ap (λ es. has_place nat_cmp es c.args.number) c.in_ok-write.ensures.ok ∙ place_made c.args.number None c.args.self.now

pub returns-in_ok-write-clause-kept : goal.returns-in_ok-write-clause-kept
returns-in_ok-write-clause-kept g c = λ q t. ap (λ es. has_place nat_cmp es q) c.in_ok-write.ensures.ok ∙ place_kept c.args.number q None c.args.self.now t
