use Rattle.std.proofs.Common.{ap, sym, ◌∙◌, ◌≡◌, ◌++◌, arith, length, subst}
use Rattle.std.specs.BTreeMap.{insert_entry, is_at}
use Rattle.std.specs.List.Sorted.{IsStrictlySortedBy}
use Rattle.std.specs.Map.{lookup, keys_of}
use Rattle.std.specs.Ordering.{nat_cmp}
use Rattle.rr_registry.specs.Numbered.{numbered, AscendFrom}
use Rattle.rr_registry.proofs.NumberedLemmas.{set_low, insert_high, pushed, ascend_insert, sorted_all, lookup_high, none_of}
use Rattle.rr_registry.proofs.numbered.Numbered.write.Goals.{in-Ok, in-Err, in-Ok-push, in-Err-push}
use Rattle.rr_registry.proofs.numbered.Numbered.write.Goals as goal

pub returns-then-at-len-clause-ok : goal.returns-then-at-len-clause-ok
returns-then-at-len-clause-ok g c =
    set_low c.args.number c.args.place c.self.inside.low.items c.self.inside.high.entries (let t = c.if-at-len.true in let n = c.len.ensures in omega (arith, t, n))
    ∙ ap (λ es. insert_entry nat_cmp es c.args.number c.args.place) c.self.view_is

pub returns-then-at-len-clause-sorted : goal.returns-then-at-len-clause-sorted
returns-then-at-len-clause-sorted g c = subst (λ es. IsStrictlySortedBy nat_cmp (keys_of es)) c.self.view_is (sorted_all c.self.inside.low.items c.self.inside.high.entries c.self.invariant)

pub invariant_of-self-then-at-len-2 : goal.invariant_of-self-then-at-len-2
invariant_of-self-then-at-len-2 g c =
    elim c.match-insert.branch [
      | in-Ok w ↦
          subst (AscendFrom (length c.self.inside.low.items)) (sym w.in-Ok.ensures.entries)
          (ascend_insert (length c.self.inside.low.items) c.args.number c.args.place c.self.inside.high.entries (let t = c.if-at-len.false in let n = c.len.ensures in omega (arith, t, n)) c.self.invariant)
      | in-Err w ↦ subst (AscendFrom (length c.self.inside.low.items)) (sym w.in-Err.ensures.err) c.self.invariant
    ]

pub returns-then-at-len-2-clause-ok : goal.returns-then-at-len-2-clause-ok
returns-then-at-len-2-clause-ok g c =
    elim c.match-insert.branch [
      | in-Ok w ↦
          rw w.result-is
          (ap (λ es. numbered 0 c.self.inside.low.items ++ es) w.in-Ok.ensures.entries
          ∙ sym (insert_high 0 c.args.number c.args.place c.self.inside.low.items c.self.inside.high.entries (let t = c.if-at-len.false in let n = c.len.ensures in omega (arith, t, n)))
          ∙ ap (λ es. insert_entry nat_cmp es c.args.number c.args.place) c.self.view_is)
      | in-Err w ↦ rw w.result-is tt
    ]

pub returns-then-at-len-2-clause-absent : goal.returns-then-at-len-2-clause-absent
returns-then-at-len-2-clause-absent g c =
    elim c.match-insert.branch [
      | in-Ok w ↦ rw w.result-is tt
      | in-Err w ↦
          rw w.result-is
          (ap (λ es. lookup (is_at (nat_cmp c.args.number)) es) (sym c.self.view_is)
          ∙ lookup_high 0 c.args.number c.self.inside.low.items c.self.inside.high.entries (let t = c.if-at-len.false in let n = c.len.ensures in omega (arith, t, n))
          ∙ w.in-Err.ensures.absent)
    ]

pub returns-then-at-len-2-clause-sorted : goal.returns-then-at-len-2-clause-sorted
returns-then-at-len-2-clause-sorted g c = subst (λ es. IsStrictlySortedBy nat_cmp (keys_of es)) c.self.view_is (sorted_all c.self.inside.low.items c.self.inside.high.entries c.self.invariant)

pub close_up-requires : goal.close_up-requires
close_up-requires g c =
    let next : c.args.number ≡ length c.self.inside.low.items =
    (let t = c.if-at-len.false in let s = c.if-at-len-2.false in let n = c.len.ensures in let m = c.len-2.ensures in omega (arith, t, s, n, m)) in
    subst (λ xs. AscendFrom (length xs) c.self.inside.high.entries) (sym c.in-Ok-push.ensures.items)
    (pushed c.args.number c.args.place c.self.inside.low.items c.self.inside.high.entries next c.self.invariant (sym c.contains_key.ensures ∙ c.if-contains_key.false)).1

pub returns-clause-ok : goal.returns-clause-ok
returns-clause-ok g c =
    let next : c.args.number ≡ length c.self.inside.low.items =
    (let t = c.if-at-len.false in let s = c.if-at-len-2.false in let n = c.len.ensures in let m = c.len-2.ensures in omega (arith, t, s, n, m)) in
    elim c.match-push.branch [
      | in-Ok-push w ↦
          rw w.result-is
          (w.self-is ∙ w.close_up.ensures.same ∙ ap (λ xs. numbered 0 xs ++ c.self.inside.high.entries) w.in-Ok-push.ensures.items
          ∙ (pushed c.args.number c.args.place c.self.inside.low.items c.self.inside.high.entries next c.self.invariant (sym c.contains_key.ensures ∙ c.if-contains_key.false)).0
          ∙ ap (λ es. insert_entry nat_cmp es c.args.number c.args.place) c.self.view_is)
      | in-Err-push w ↦ rw w.result-is tt
    ]

pub returns-clause-absent : goal.returns-clause-absent
returns-clause-absent g c =
    let next : c.args.number ≡ length c.self.inside.low.items =
    (let t = c.if-at-len.false in let s = c.if-at-len-2.false in let n = c.len.ensures in let m = c.len-2.ensures in omega (arith, t, s, n, m)) in
    elim c.match-push.branch [
      | in-Ok-push w ↦ rw w.result-is tt
      | in-Err-push w ↦
          rw w.result-is
          (ap (λ es. lookup (is_at (nat_cmp c.args.number)) es) (sym c.self.view_is)
          ∙ lookup_high 0 c.args.number c.self.inside.low.items c.self.inside.high.entries (omega (arith, next))
          ∙ none_of (lookup (is_at (nat_cmp c.args.number)) c.self.inside.high.entries) (sym c.contains_key.ensures ∙ c.if-contains_key.false))
    ]

pub returns-clause-sorted : goal.returns-clause-sorted
returns-clause-sorted g c = subst (λ es. IsStrictlySortedBy nat_cmp (keys_of es)) c.self.view_is (sorted_all c.self.inside.low.items c.self.inside.high.entries c.self.invariant)
