use Rattle.std.proofs.Common.{◌≡◌, Some, None, length, is_some, subst, sym, ap, ◌∙◌, arith}
use Rattle.std.specs.Ordering.{nat_cmp}
use Rattle.std.specs.Cmp.Lexicographic.{slice_cmp}
use Rattle.std.specs.BTreeMap.{insert_entry, is_at}
use Rattle.std.specs.Map.{lookup}
use Rattle.std.proofs.lemmas.Map.Steps.{set_value_same}
use Rattle.rr_types.specs.Registry.{holding_of}
use Rattle.rr_registry.specs.Places.{filled, held}
use Rattle.rr_types.specs.Commands.{op_name}
use Rattle.rr_registry.specs.Tables.{bindings_in, unbind, effected, CanHave}
use Rattle.rr_registry.proofs.TableLemmas.{remove-name}
use Rattle.rr_registry.proofs.NameLemmas.{holding_in, unknown, written, written_count, held_some}
use Rattle.rr_registry.proofs.PlacedLemmas.{places_set}
use Rattle.rr_registry.proofs.names.Names.perform.Goals as goal

pub returns-in-None-clause-step : goal.returns-in-None-clause-step
returns-in-None-clause-step c =
    let t = c.args.self.now in
    ap (λ m. (filled m.entries, _)) c.get_mut.follows.holds-at-none
    ∙ unknown t c.args.client c.args.op.now c.get_mut.ensures.ordered c.requires.place
    (subst (λ n. lookup (is_at (slice_cmp nat_cmp n)) t.places.entries ≡ None) c.name.ensures (sym c.in-None.ensures.value))

pub overflow_sub-self : goal.overflow_sub-self
overflow_sub-self c =
    let es = c.args.self.now.places.entries in
    let place = c.in-Some.place.now in
    let can = subst (CanHave c.args.self.now.bound place c.args.op.now) c.in-Free.is c.outcome_at-effect.ensures.can in
    let one = held_some place can in
    let count = written_count es c.name.result.now place None c.get_mut.ensures.ordered (sym c.in-Some.ensures.value) in
    let counted = c.requires.counted in
    omega arith

pub returns-in-Nothing-clause-step : goal.returns-in-Nothing-clause-step
returns-in-Nothing-clause-step c =
    let es = c.args.self.now.places.entries in
    let m = bindings_in c.args.self.now in
    let name = c.name.result.now in
    let op = c.args.op.now in
    let place = c.in-Some.place.now in
    let here : place ≡ holding_of m (op_name op) = sym (holding_in es name (Some place) c.get_mut.ensures.ordered (sym c.in-Some.ensures.value)) ∙ ap (holding_of m) c.name.ensures in
    let bindings = ap filled ((c.get_mut.follows.holds place).0 ∙ set_value_same (is_at (slice_cmp nat_cmp name)) es place (sym c.in-Some.ensures.value))
    ∙ ap (effected m (op_name op)) (sym c.in-Nothing.is) in
    ap (λ b. (b, c.outcome_at-effect.result.1)) bindings ∙ c.outcome_at-effect.ensures.step m c.requires.counted here

pub returns-in-Bind-clause-step : goal.returns-in-Bind-clause-step
returns-in-Bind-clause-step c =
    let es = c.args.self.now.places.entries in
    let m = bindings_in c.args.self.now in
    let name = c.name.result.now in
    let op = c.args.op.now in
    let place = c.in-Some.place.now in
    let here : place ≡ holding_of m (op_name op) = sym (holding_in es name (Some place) c.get_mut.ensures.ordered (sym c.in-Some.ensures.value)) ∙ ap (holding_of m) c.name.ensures in
    let bindings = ap filled (c.get_mut.follows.holds (Some c.in-Bind.holding)).0
    ∙ written es name place (Some c.in-Bind.holding) c.get_mut.ensures.ordered (sym c.in-Some.ensures.value)
    ∙ ap (λ n. insert_entry (slice_cmp nat_cmp) m n c.in-Bind.holding) c.name.ensures
    ∙ ap (effected m (op_name op)) (sym c.in-Bind.is) in
    ap (λ b. (b, c.outcome_at-effect.result.1)) bindings ∙ c.outcome_at-effect.ensures.step m c.requires.counted here

pub returns-in-Replace-clause-step : goal.returns-in-Replace-clause-step
returns-in-Replace-clause-step c =
    let es = c.args.self.now.places.entries in
    let m = bindings_in c.args.self.now in
    let name = c.name.result.now in
    let op = c.args.op.now in
    let place = c.in-Some.place.now in
    let here : place ≡ holding_of m (op_name op) = sym (holding_in es name (Some place) c.get_mut.ensures.ordered (sym c.in-Some.ensures.value)) ∙ ap (holding_of m) c.name.ensures in
    let bindings = ap filled (c.get_mut.follows.holds (Some c.in-Replace.holding)).0
    ∙ written es name place (Some c.in-Replace.holding) c.get_mut.ensures.ordered (sym c.in-Some.ensures.value)
    ∙ ap (λ n. insert_entry (slice_cmp nat_cmp) m n c.in-Replace.holding) c.name.ensures
    ∙ ap (effected m (op_name op)) (sym c.in-Replace.is) in
    ap (λ b. (b, c.outcome_at-effect.result.1)) bindings ∙ c.outcome_at-effect.ensures.step m c.requires.counted here

pub returns-in-Free-clause-step : goal.returns-in-Free-clause-step
returns-in-Free-clause-step c =
    let es = c.args.self.now.places.entries in
    let m = bindings_in c.args.self.now in
    let name = c.name.result.now in
    let op = c.args.op.now in
    let place = c.in-Some.place.now in
    let here : place ≡ holding_of m (op_name op) = sym (holding_in es name (Some place) c.get_mut.ensures.ordered (sym c.in-Some.ensures.value)) ∙ ap (holding_of m) c.name.ensures in
    let bindings = ap filled (c.get_mut.follows.holds None).0
    ∙ written es name place None c.get_mut.ensures.ordered (sym c.in-Some.ensures.value)
    ∙ remove-name name m
    ∙ ap (unbind m) c.name.ensures
    ∙ ap (effected m (op_name op)) (sym c.in-Free.is) in
    ap (λ b. (b, c.outcome_at-effect.result.1)) bindings ∙ c.outcome_at-effect.ensures.step m c.requires.counted here

pub returns-in-Nothing-clause-counted : goal.returns-in-Nothing-clause-counted
returns-in-Nothing-clause-counted c =
    let es = c.args.self.now.places.entries in
    let place = c.in-Some.place.now in
    c.requires.counted
    ∙ sym (ap (λ xs. length (filled xs)) ((c.get_mut.follows.holds place).0 ∙ set_value_same (is_at (slice_cmp nat_cmp c.name.result.now)) es place (sym c.in-Some.ensures.value)))

pub returns-in-Bind-clause-counted : goal.returns-in-Bind-clause-counted
returns-in-Bind-clause-counted c =
    let es = c.args.self.now.places.entries in
    let name = c.name.result.now in
    let place = c.in-Some.place.now in
    let new = ap (λ xs. length (filled xs)) (c.get_mut.follows.holds (Some c.in-Bind.holding)).0 in
    let count = written_count es name place (Some c.in-Bind.holding) c.get_mut.ensures.ordered (sym c.in-Some.ensures.value) in
    let counted = c.requires.counted in
    let can = subst (CanHave c.args.self.now.bound place c.args.op.now) c.in-Bind.is c.outcome_at-effect.ensures.can in
    let none : held place ≡ 0 = ap held can.1 in
    omega arith

pub returns-in-Replace-clause-counted : goal.returns-in-Replace-clause-counted
returns-in-Replace-clause-counted c =
    let es = c.args.self.now.places.entries in
    let name = c.name.result.now in
    let place = c.in-Some.place.now in
    let new = ap (λ xs. length (filled xs)) (c.get_mut.follows.holds (Some c.in-Replace.holding)).0 in
    let count = written_count es name place (Some c.in-Replace.holding) c.get_mut.ensures.ordered (sym c.in-Some.ensures.value) in
    let counted = c.requires.counted in
    let can = subst (CanHave c.args.self.now.bound place c.args.op.now) c.in-Replace.is c.outcome_at-effect.ensures.can in
    let one = held_some place can in
    omega arith

pub returns-in-Free-clause-counted : goal.returns-in-Free-clause-counted
returns-in-Free-clause-counted c =
    let es = c.args.self.now.places.entries in
    let name = c.name.result.now in
    let place = c.in-Some.place.now in
    let new = ap (λ xs. length (filled xs)) (c.get_mut.follows.holds None).0 in
    let count = written_count es name place None c.get_mut.ensures.ordered (sym c.in-Some.ensures.value) in
    let counted = c.requires.counted in
    let can = subst (CanHave c.args.self.now.bound place c.args.op.now) c.in-Free.is c.outcome_at-effect.ensures.can in
    let one = held_some place can in
    omega arith

pub returns-in-Nothing-clause-places : goal.returns-in-Nothing-clause-places
returns-in-Nothing-clause-places c = λ n.
    ap (λ xs. is_some (lookup (is_at (slice_cmp nat_cmp n)) xs)) (c.get_mut.follows.holds c.in-Some.place.now).0
    ∙ places_set (is_at (slice_cmp nat_cmp n)) (is_at (slice_cmp nat_cmp c.name.result.now)) c.args.self.now.places.entries c.in-Some.place.now

pub returns-in-Bind-clause-places : goal.returns-in-Bind-clause-places
returns-in-Bind-clause-places c = λ n.
    ap (λ xs. is_some (lookup (is_at (slice_cmp nat_cmp n)) xs)) (c.get_mut.follows.holds (Some c.in-Bind.holding)).0
    ∙ places_set (is_at (slice_cmp nat_cmp n)) (is_at (slice_cmp nat_cmp c.name.result.now)) c.args.self.now.places.entries (Some c.in-Bind.holding)

pub returns-in-Replace-clause-places : goal.returns-in-Replace-clause-places
returns-in-Replace-clause-places c = λ n.
    ap (λ xs. is_some (lookup (is_at (slice_cmp nat_cmp n)) xs)) (c.get_mut.follows.holds (Some c.in-Replace.holding)).0
    ∙ places_set (is_at (slice_cmp nat_cmp n)) (is_at (slice_cmp nat_cmp c.name.result.now)) c.args.self.now.places.entries (Some c.in-Replace.holding)

pub returns-in-Free-clause-places : goal.returns-in-Free-clause-places
returns-in-Free-clause-places c = λ n.
    ap (λ xs. is_some (lookup (is_at (slice_cmp nat_cmp n)) xs)) (c.get_mut.follows.holds None).0
    ∙ places_set (is_at (slice_cmp nat_cmp n)) (is_at (slice_cmp nat_cmp c.name.result.now)) c.args.self.now.places.entries None
