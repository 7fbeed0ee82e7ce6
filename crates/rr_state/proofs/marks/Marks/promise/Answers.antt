use Rattle.std.proofs.Common.{ap, sym, ◌∙◌, ◌++◌, ◌≡◌, [], append-nil}
use Rattle.rr_registry.specs.Places.{filled}
use Rattle.rr_state.specs.Marked.{entries_in}
use Rattle.rr_state.proofs.PrefixLemmas.{promise_ascends}
use Rattle.rr_state.proofs.marks.Marks.promise.Goals as goal

pub returns-clause-ascending : goal.returns-clause-ascending
returns-clause-ascending c =
    let done : c.loop-place.rest ≡ [] = c.in_default.ensures.steps.0 in
    promise_ascends c.args.rows.now c.args.self.now c.loop-place.promise.items c.requires
    (sym (append-nil c.loop-place.promise.items) ∙ ap (λ es. c.loop-place.promise.items ++ entries_in (filled es)) (sym done) ∙ c.loop-place.invariant)
