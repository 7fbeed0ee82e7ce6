use Rattle.std.proofs.Common.{ap, sym, ◌∙◌, ◌≡◌, ◌<◌, ◌≤◌, length, slice_index_or, Some, None, subst, MatchOption}
use Rattle.std.specs.BTreeMap.{is_at}
use Rattle.std.specs.Map.{lookup}
use Rattle.std.specs.Ordering.{nat_cmp}
use Rattle.std.proofs.lemmas.Bool.{ltb-true, ltb-false}
use Rattle.rr_registry.specs.Places.{filled}
use Rattle.rr_registry.proofs.NumberedLemmas.{value_low, value_high}
use Rattle.rr_registry.proofs.numbered.Numbered.get.Goals as goal

pub returns-in-Some-Some : goal.returns-in-Some-Some
returns-in-Some-Some g c =
    let l = c.in-Some-Some.ensures.lookup in
    let items = c.deref.ensures.value in
    ap (λ es. lookup (is_at (nat_cmp c.args.number)) (filled es)) (sym c.self.view_is)
    ∙ value_low c.args.number c.self.inside.low.items c.self.inside.high.entries _ c.self.invariant (l.1 ∙ ap (λ xs. slice_index_or xs c.args.number c.in-Some-Some.field-0.now) items)
    (subst (λ xs. c.args.number < length xs) items (ltb-true c.args.number (length c.deref.result.now) (sym l.0)))
    ∙ c.in-Some-Some.field-0-is ∙ ap (λ v. Some v) (sym c.in-Some-Some.value-is)

pub returns-in-Some-None : goal.returns-in-Some-None
returns-in-Some-None g c =
    let l = c.in-Some-None.ensures.lookup in
    let items = c.deref.ensures.value in
    ap (λ es. lookup (is_at (nat_cmp c.args.number)) (filled es)) (sym c.self.view_is)
    ∙ value_low c.args.number c.self.inside.low.items c.self.inside.high.entries _ c.self.invariant (l.1 ∙ ap (λ xs. slice_index_or xs c.args.number c.in-Some-None.field-0.now) items)
    (subst (λ xs. c.args.number < length xs) items (ltb-true c.args.number (length c.deref.result.now) (sym l.0)))
    ∙ c.in-Some-None.field-0-is

pub returns-in-None : goal.returns-in-None
returns-in-None g c =
    let l = c.in-None.ensures.lookup in
    let items = c.deref.ensures.value in
    let same =
    ap (λ es. lookup (is_at (nat_cmp c.args.number)) (filled es)) (sym c.self.view_is)
    ∙ value_high c.args.number c.self.inside.low.items c.self.inside.high.entries c.self.invariant
    (subst (λ xs. length xs ≤ c.args.number) items (ltb-false c.args.number (length c.deref.result.now) (sym l.0))) in
    subst (λ o. MatchOption c.value_of.result (o ≡ None) (λ v. o ≡ Some v.now)) (sym same) c.value_of.ensures
