use Rattle.std.proofs.Common.{◌≡◌, None, Some, ap, is_some, sym, ◌∙◌}
use Rattle.std.specs.BTreeMap.{is_at}
use Rattle.std.specs.Map.{lookup}
use Rattle.rr_registry.specs.Places.{filled}
use Rattle.rr_registry.proofs.PlaceLemmas.{filled-gone, lookup-filled, value_of_place, none_of_none, joined}
use Rattle.rr_registry.proofs.places.drop_free_place.Goals as goal

pub returns-in-Some-None-clause-filled : goal.returns-in-Some-None-clause-filled
returns-in-Some-None-clause-filled g c = ap filled c.remove.ensures.entries ∙ filled-gone g.K.Ord.cmp c.args.key.now c.args.map.now.entries (sym c.in-Some-None.ensures.value ∙ ap Some c.in-Some-None.field-0-is)

pub returns-in-Some-None-clause-gone : goal.returns-in-Some-None-clause-gone
returns-in-Some-None-clause-gone g c =
    let test = is_at (g.K.Ord.cmp c.args.key.now) in
    let same = ap filled c.remove.ensures.entries ∙ filled-gone g.K.Ord.cmp c.args.key.now c.args.map.now.entries (sym c.in-Some-None.ensures.value ∙ ap Some c.in-Some-None.field-0-is) in
    let gone : lookup test c.remove.new.self.entries ≡ None = c.remove.ensures.updates.1 in
    ap is_some gone
    ∙ sym (ap (λ es. is_some (lookup test es)) (sym same) ∙ ap is_some (lookup-filled g.K.Ord.cmp g.met.K.Ord.total c.args.key.now c.remove.new.self.entries c.remove.ensures.ordered ∙ ap joined gone))

pub returns-in-Some-Some-clause-gone : goal.returns-in-Some-Some-clause-gone
returns-in-Some-Some-clause-gone g c =
    let test = is_at (g.K.Ord.cmp c.args.key.now) in
    let place = sym c.in-Some-Some.ensures.value ∙ ap Some c.in-Some-Some.field-0-is in
    ap is_some place ∙ sym (ap is_some (value_of_place test c.args.map.now.entries _ place))

pub returns-in-None-clause-gone : goal.returns-in-None-clause-gone
returns-in-None-clause-gone g c =
    let test = is_at (g.K.Ord.cmp c.args.key.now) in
    let place = sym c.in-None.ensures.value in
    ap is_some place ∙ sym (none_of_none test c.args.map.now.entries place)
