use Rattle.std.proofs.Common.{refl, ap}
use Rattle.rr_types.specs.declared.promise.Entry.{Entry}
use Rattle.rr_state.proofs.PrefixLemmas.{tree_value, tree_marks}
use Rattle.rr_state.proofs.marks.Marks.insert.Goals as goal

pub returns-clause-value : goal.returns-clause-value
returns-clause-value c =
    let e : Entry = record { instance = c.entry.inside.instance; standing = c.standing-standing.result } in
    let place = ap (λ (x : Entry). x.instance) c.entry.view_is in
    rw (← place, ← c.standing-standing.ensures)
    (tree_value c.args.self.now (record c.args.self.now { entries = c.insert.new.map }) _ e c.requires.marks c.number.ensures.value c.in_ok-insert.ensures.filled)

pub returns-clause-marks : goal.returns-clause-marks
returns-clause-marks c =
    let e : Entry = record { instance = c.entry.inside.instance; standing = c.standing-standing.result } in
    let place = ap (λ (x : Entry). x.instance) c.entry.view_is in
    tree_marks c.args.self.now (record c.args.self.now { entries = c.insert.new.map }) _ e c.requires.marks c.number.ensures.value c.number.ensures.range (rw place c.requires.behind) refl refl c.in_ok-insert.ensures.filled
