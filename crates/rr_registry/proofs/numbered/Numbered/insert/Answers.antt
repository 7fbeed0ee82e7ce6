use Rattle.std.proofs.Common.{◌∙◌, ap, Some}
use Rattle.std.specs.Ordering.{nat_cmp}
use Rattle.rr_registry.specs.Places.{filled, has_place}
use Rattle.rr_registry.proofs.NumberedLemmas.{value_put, place_made, place_kept, on_ok, both_ways}
use Rattle.rr_registry.proofs.numbered.Numbered.insert.Goals as goal

pub returns-clause-filled : goal.returns-clause-filled
returns-clause-filled g c = on_ok c.write.result (λ h. ap filled h ∙ value_put c.args.number c.args.value c.args.self.now c.write.ensures.sorted) c.write.ensures.ok

pub returns-clause-made : goal.returns-clause-made
returns-clause-made g c = on_ok c.write.result (λ h. ap (λ es. has_place nat_cmp es c.args.number) h ∙ place_made c.args.number (Some c.args.value) c.args.self.now) c.write.ensures.ok

pub returns-clause-kept : goal.returns-clause-kept
returns-clause-kept g c = λ q t.
    both_ways c.write.result (λ h. ap (λ es. has_place nat_cmp es q) h ∙ place_kept c.args.number q (Some c.args.value) c.args.self.now t) (λ h. ap (λ es. has_place nat_cmp es q) h ∙ t)
    c.write.ensures.ok c.write.ensures.err
