use Rattle.std.proofs.Common.{ap, sym, ◌∙◌, arith}
use Rattle.std.specs.Ordering.{nat_cmp}
use Rattle.rr_registry.specs.Places.{has_place}
use Rattle.rr_registry.proofs.NumberedLemmas.{place_low, place_high}
use Rattle.rr_registry.proofs.numbered.Numbered.has_place.Goals as goal

pub returns-then-number-len : goal.returns-then-number-len
returns-then-number-len g c = sym (place_low c.args.number c.self.inside.low.items c.self.inside.high.entries (let t = c.if-number-len.true in let n = c.len.ensures in omega (arith, t, n))) ∙ ap (λ es. has_place nat_cmp es c.args.number) c.self.view_is

pub returns : goal.returns
returns g c =
    c.contains_key.ensures ∙ sym (place_high c.args.number c.self.inside.low.items c.self.inside.high.entries (let t = c.if-number-len.false in let n = c.len.ensures in omega (arith, t, n))) ∙ ap (λ es. has_place nat_cmp es c.args.number) c.self.view_is
