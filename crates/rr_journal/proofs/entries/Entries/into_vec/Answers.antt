use Rattle.std.proofs.Common.{append-nil, sym, ap, subst, ◌∙◌, ◌++◌, ◌∷◌, [], ℕ, List, append_assoc}
use Rattle.std.specs.Map.{values_of}
use Rattle.rr_types.specs.declared.promise.Entry.{Entry}
use Rattle.rr_types.specs.Promises.{IsAscending}
use Rattle.rr_journal.proofs.EntryLemmas.{none_left, parts_ascend}
use Rattle.rr_journal.proofs.entries.Entries.into_vec.Goals as goal

pub loop-entry-preserved : goal.loop-entry-preserved
loop-entry-preserved c =
    let rest = c.pop_first.new.self.entries in
    ap (λ (ys : List Entry). ys ++ values_of rest) c.in_ok-push.ensures.items ∙ append_assoc c.loop-entry.front.items (c.in-Some.entry ∷ []) (values_of rest)
    ∙ ap (λ (z : List (ℕ × Entry)). c.loop-entry.front.items ++ values_of z) (sym c.in-Some.ensures.removal) ∙ c.loop-entry.invariant

pub returns-clause-same : goal.returns-clause-same
returns-clause-same c =
    let front = c.loop-entry.front.items in
    let none = none_left c.loop-entry.beyond.entries c.in_default.ensures.variant.1 in
    sym (append-nil front) ∙ ap (λ (ys : List Entry). front ++ ys) (sym none) ∙ c.loop-entry.invariant
    ∙ ap (λ (ys : List Entry). ys ++ values_of c.self.inside.beyond.entries) c.in_ok-reserve.ensures.items ∙ c.self.view_is

pub returns-clause-ascending : goal.returns-clause-ascending
returns-clause-ascending c =
    let front = c.loop-entry.front.items in
    let none = none_left c.loop-entry.beyond.entries c.in_default.ensures.variant.1 in
    let all =
    sym (append-nil front) ∙ ap (λ (ys : List Entry). front ++ ys) (sym none) ∙ c.loop-entry.invariant
    ∙ ap (λ (ys : List Entry). ys ++ values_of c.self.inside.beyond.entries) c.in_ok-reserve.ensures.items in
    subst (λ (ys : List Entry). IsAscending ys) (sym all) (parts_ascend c.self.inside.front.items c.self.inside.beyond.entries c.self.invariant)
