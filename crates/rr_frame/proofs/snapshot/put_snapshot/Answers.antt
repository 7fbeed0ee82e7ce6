use Rattle.std.proofs.Common.{List, subst, arith}
use Rattle.std.specs.List.{AllByRecursion}
use Rattle.rr_types.specs.declared.promise.Entry.{Entry}
use Rattle.rr_types.specs.Promises.{IsAscending}
use Rattle.rr_frame.specs.SnapshotFormat.{IsSpellable}
use Rattle.rr_frame.proofs.SnapshotShapes.{all_spellable}
use Rattle.rr_frame.proofs.snapshot.put_snapshot.Goals as goal

pub returns-clause-lawful : goal.returns-clause-lawful
returns-clause-lawful c =
    let s = c.snapshot.inside in
    let same = c.entries-entries.ensures.value in
    let spellable : AllByRecursion IsSpellable s.promise = subst (λ (es : List Entry). AllByRecursion IsSpellable es) same c.in_ok-put_contents.ensures.lawful in
    let up : IsAscending s.promise = subst (λ (es : List Entry). IsAscending es) same c.entries-entries.ensures.ascending in
    rw (← c.snapshot.view_is) (record {
      node = c.snapshot.invariant.node;
      nodes = omega (arith, c.count.ensures.value, c.count.ensures.range.1);
      epoch = (c.snapshot.invariant.epoch, omega arith);
      next = omega arith;
      empty = c.snapshot.invariant.empty;
      ascending = up.ascends;
      entries = all_spellable s.nodes s.node s.promise spellable c.snapshot.invariant.proposals;
    })
