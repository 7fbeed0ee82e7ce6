use Rattle.std.proofs.Common.{◌≡◌, ◌+◌, false, refl, not, is_some, length, ap, sym, ◌∙◌}
use Rattle.std.specs.Ordering.{nat_cmp}
use Rattle.std.specs.Cmp.Lexicographic.{slice_cmp}
use Rattle.rr_types.specs.Registry.{holding_of}
use Rattle.rr_registry.specs.Places.{filled, has_place}
use Rattle.rr_registry.specs.Tables.{bindings_in, has_name_place}
use Rattle.rr_registry.proofs.NameLemmas.{bound_alone, unheld, put_new, count_new}
use Rattle.rr_registry.proofs.names.Names.bind_free.Goals as goal

pub returns-then-branch-clause-was : goal.returns-then-branch-clause-was
returns-then-branch-clause-was c = unheld c.args.self.now c.args.name.now (c.in_ok-put_new.ensures.was ∙ ap not c.if-branch.true)

pub returns-then-branch-clause-bound : goal.returns-then-branch-clause-bound
returns-then-branch-clause-bound c = λ _.
    ap filled (c.in_ok-put_new.ensures.put c.if-branch.true) ∙ put_new c.args.self.now.places.entries c.args.name.now c.args.holding c.in_ok-put_new.ensures.sorted

pub returns-then-branch-clause-counted : goal.returns-then-branch-clause-counted
returns-then-branch-clause-counted c =
    let before = c.args.self.now in
    let none : has_name_place before c.args.name.now ≡ false = c.in_ok-put_new.ensures.was ∙ ap not c.if-branch.true in
    ap (λ n. n + 1) c.requires.counted
    ∙ sym (ap length (returns-then-branch-clause-bound c refl) ∙ count_new before c.args.name.now c.args.holding none)

pub returns-then-branch-clause-free : goal.returns-then-branch-clause-free
returns-then-branch-clause-free c = λ n there.
    let before = c.args.self.now in
    ap (λ m. is_some (holding_of m n)) (returns-then-branch-clause-bound c refl)
    ∙ bound_alone (bindings_in before) c.args.name.now c.args.holding (has_name_place before) (has_place (slice_cmp nat_cmp) c.put_new.new.places.entries) c.in_ok-put_new.ensures.only c.requires.free n there
