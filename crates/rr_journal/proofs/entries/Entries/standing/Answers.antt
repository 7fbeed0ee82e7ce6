use Rattle.std.proofs.Common.{ap, ◌∙◌, ◌≤◌, ◌<◌, arith, length, ℕ, List, Some, option_map}
use Rattle.std.specs.Map.{values_of}
use Rattle.rr_types.specs.declared.promise.Entry.{Entry}
use Rattle.rr_types.specs.declared.promise.Standing.{Standing}
use Rattle.rr_types.specs.Promises.{standing_in}
use Rattle.rr_journal.proofs.EntryLemmas.{stands_low, stands_high}
use Rattle.rr_journal.proofs.entries.Entries.standing.Goals as goal

pub returns-then-at-len : goal.returns-then-at-len
returns-then-at-len c =
    let low : c.number-number.result < length c.self.inside.front.items = (let t = c.if-at-len.true in let n = c.len.ensures in omega (arith, t, n)) in
    ap (λ (s : Standing). Some s) c.standing.ensures
    ∙ ap (λ (e : Entry). Some e.standing) c.index.ensures
    ∙ stands_low c.number-number.result c.self.inside.front.items (values_of c.self.inside.beyond.entries) c.index.result.now c.self.invariant.first low
    ∙ ap (λ (es : List Entry). standing_in es c.number-number.result) c.self.view_is ∙ ap (λ (k : ℕ). standing_in c.args.self.now k) c.number-number.ensures.value

pub returns-in-Some : goal.returns-in-Some
returns-in-Some c =
    let high : length c.self.inside.front.items ≤ c.number-number.result = (let t = c.if-at-len.false in let n = c.len.ensures in omega (arith, t, n)) in
    ap (λ (s : Standing). Some s) c.standing-in-Some.ensures
    ∙ ap (option_map (λ (e : Entry). e.standing)) c.in-Some.ensures.value
    ∙ stands_high c.number-number.result c.self.inside.front.items c.self.inside.beyond.entries c.self.invariant high
    ∙ ap (λ (es : List Entry). standing_in es c.number-number.result) c.self.view_is ∙ ap (λ (k : ℕ). standing_in c.args.self.now k) c.number-number.ensures.value

pub returns-in-None : goal.returns-in-None
returns-in-None c =
    let high : length c.self.inside.front.items ≤ c.number-number.result = (let t = c.if-at-len.false in let n = c.len.ensures in omega (arith, t, n)) in
    ap (option_map (λ (e : Entry). e.standing)) c.in-None.ensures.value
    ∙ stands_high c.number-number.result c.self.inside.front.items c.self.inside.beyond.entries c.self.invariant high
    ∙ ap (λ (es : List Entry). standing_in es c.number-number.result) c.self.view_is ∙ ap (λ (k : ℕ). standing_in c.args.self.now k) c.number-number.ensures.value
