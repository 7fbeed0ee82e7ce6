use Rattle.std.proofs.Common.{ap, ◌∙◌, ◌++◌, ◌∷◌, [], ◌-◌, ◌+◌}
use Rattle.rr_types.specs.declared.promise.Standing.TheVariants.{Decided}
use Rattle.rr_state.specs.Marked.{decided_entries}
use Rattle.rr_state.proofs.PrefixLemmas.{entries_some, entries_none}
use Rattle.rr_state.proofs.marks.Marks.moved_entries.Goals.{in-Some+in-Some-new+in_ok-push-in-Some-new, in_default}
use Rattle.rr_state.proofs.marks.Marks.moved_entries.Goals as goal

pub loop-place-preserved : goal.loop-place-preserved
loop-place-preserved c =
    let rows = c.args.rows.now in
    let moved = c.args.self.now.moved in
    let place = c.loop-place.place in
    let pushed = c.loop-place.entries.items in
    let below = c.loop-place-test.true in
    elim c.match-decided_command.branch [
      | in-Some+in-Some-new+in_ok-push-in-Some-new w ↦
          rw w.entries-is (ap (λ xs. xs ++ decided_entries rows (place + 1) (moved - (place + 1))) w.in_ok-push-in-Some-new.ensures.items
          ∙ ap (λ e. (pushed ++ e ∷ []) ++ decided_entries rows (place + 1) (moved - (place + 1))) w.decided.ensures
          ∙ ap (λ i. (pushed ++ record { instance = i; standing = Decided w.in-Some.command.now } ∷ []) ++ decided_entries rows (place + 1) (moved - (place + 1))) w.in-Some-new.ensures.value
          ∙ entries_some rows place moved pushed w.in-Some.command.now below w.in-Some.ensures ∙ c.loop-place.invariant)
      | in_default w ↦ rw w.entries-is (entries_none rows place moved pushed below w.in_default.ensures ∙ c.loop-place.invariant)
    ]
