use Rattle.std.proofs.Common.{◌≡◌, ◌+◌, length, None, is_some, IsTrue, ap, subst, sym, ◌∙◌, arith}
use Rattle.std.specs.Ordering.{nat_cmp}
use Rattle.std.specs.Cmp.Lexicographic.{slice_cmp}
use Rattle.std.specs.Str.{bytes_eq}
use Rattle.std.specs.BTreeMap.{is_at}
use Rattle.std.specs.Map.{lookup}
use Rattle.std.proofs.lemmas.Map.Lookups.{exact_bytes}
use Rattle.rr_types.specs.Registry.{holding_of}
use Rattle.rr_registry.specs.Places.{filled, has_place}
use Rattle.rr_registry.proofs.PlaceLemmas.{filled-remove}
use Rattle.rr_types.specs.Commands.{op_name}
use Rattle.rr_registry.specs.Tables.{bindings_in, unbind, effected, has_name_place, CanHave}
use Rattle.rr_registry.proofs.TableLemmas.{lookup-name, remove-name}
use Rattle.rr_registry.proofs.NameLemmas.{length_inserted, length_removed, place_of_bound, bound_alone, freed_alone}
use Rattle.rr_registry.proofs.names.Names.try_change.Goals as goal

pub insert-requires : goal.insert-requires
insert-requires c = record { exact = exact_bytes }

pub bind-requires : goal.bind-requires
bind-requires c =
    let before = c.args.self.now in
    let op = c.args.op.now in
    subst (λ name. IsTrue (has_name_place before name)) (sym c.name-name.ensures) (place_of_bound before (op_name op) (subst (CanHave before.bound (holding_of (bindings_in before) (op_name op)) op) c.in-Replace.is c.requires.can))

pub returns-in_ok-insert-in-Bind-clause-counted : goal.returns-in_ok-insert-in-Bind-clause-counted
returns-in_ok-insert-in-Bind-clause-counted c =
    let before = c.args.self.now in
    let m = bindings_in before in
    let name = c.name-name.result.now in
    let can = subst (CanHave before.bound (holding_of m (op_name c.args.op.now)) c.args.op.now) c.in-Bind.is c.requires.can in
    let none : lookup (is_at (slice_cmp nat_cmp name)) m ≡ None = lookup-name name m ∙ ap (holding_of m) c.name-name.ensures ∙ can.1 in
    ap (λ n. n + 1) c.requires.counted
    ∙ sym (ap length c.in_ok-insert-in-Bind.ensures.filled ∙ length_inserted (slice_cmp nat_cmp) name c.in-Bind.holding m none)

pub returns-in_ok-insert-in-Bind-clause-free : goal.returns-in_ok-insert-in-Bind-clause-free
returns-in_ok-insert-in-Bind-clause-free c = λ n there.
    let before = c.args.self.now in
    ap (λ m. is_some (holding_of m n)) c.in_ok-insert-in-Bind.ensures.filled
    ∙ bound_alone (bindings_in before) c.name-name.result.now c.in-Bind.holding (has_name_place before) (has_place (slice_cmp nat_cmp) c.insert.new.map.entries) c.in_ok-insert-in-Bind.ensures.only c.requires.free n there

pub returns-in-Replace-clause-free : goal.returns-in-Replace-clause-free
returns-in-Replace-clause-free c = λ n there.
    let before = c.args.self.now in
    ap (λ m. is_some (holding_of m n)) c.bind.ensures.bindings
    ∙ bound_alone (bindings_in before) c.name-name.result.now c.in-Replace.holding (has_name_place before) (has_name_place c.bind.new.self) (λ q other. c.bind.ensures.places q) c.requires.free n there

pub returns-in-Free-clause-bindings : goal.returns-in-Free-clause-bindings
returns-in-Free-clause-bindings c =
    let m = bindings_in c.args.self.now in
    let name = c.name-name.result.now in
    let none : lookup (is_at (slice_cmp nat_cmp name)) c.remove.new.self.entries ≡ None = c.remove.ensures.updates.1 in
    ap filled c.remove.ensures.entries
    ∙ filled-remove (is_at (slice_cmp nat_cmp name)) c.args.self.now.places.entries (ap (lookup (is_at (slice_cmp nat_cmp name))) (sym c.remove.ensures.entries) ∙ none)
    ∙ remove-name name m
    ∙ ap (unbind m) c.name-name.ensures
    ∙ ap (effected m (op_name c.args.op.now)) (sym c.in-Free.is)

pub returns-in-Free-clause-counted : goal.returns-in-Free-clause-counted
returns-in-Free-clause-counted c =
    let before = c.args.self.now in
    let m = bindings_in before in
    let op = c.args.op.now in
    let bindings = ap length (returns-in-Free-clause-bindings c) in
    let here : length (effected m (op_name op) c.args.effect) ≡ length (unbind m (op_name op)) = ap (λ e. length (effected m (op_name op) e)) c.in-Free.is in
    let less = length_removed (bytes_eq (op_name op)) m (subst (CanHave before.bound (holding_of (bindings_in before) (op_name op)) op) c.in-Free.is c.requires.can) in
    let counted = c.requires.counted in
    omega arith

pub returns-in-Free-clause-free : goal.returns-in-Free-clause-free
returns-in-Free-clause-free c = λ n there.
    let before = c.args.self.now in
    let m = bindings_in before in
    let name = c.name-name.result.now in
    ap (λ es. is_some (holding_of es n)) (returns-in-Free-clause-bindings c ∙ ap (effected m (op_name c.args.op.now)) c.in-Free.is ∙ sym (ap (unbind m) c.name-name.ensures))
    ∙ freed_alone m name (has_name_place before) (has_place (slice_cmp nat_cmp) c.remove.new.self.entries) (ap is_some c.remove.ensures.updates.1) (λ q other. ap is_some (c.remove.ensures.updates.2 q other)) c.requires.free n there
