use Rattle.std.proofs.Common.{ap, sym, subst, ◌∙◌, ◌≡◌, ◌≤◌, ◌<◌, arith, length, refl, ℕ, List}
use Rattle.rr_types.specs.declared.promise.Entry.{Entry}
use Rattle.rr_types.specs.Promises.{set_entry}
use Rattle.rr_journal.specs.Entries.{AreParted}
use Rattle.rr_journal.proofs.EntryLemmas.{entry_of, set_low, put_beyond, pushed}
use Rattle.rr_journal.proofs.entries.Entries.set.Goals.{in-Ok, in-Err}
use Rattle.rr_journal.proofs.entries.Entries.set.Goals as goal

pub returns-then-at-len : goal.returns-then-at-len
returns-then-at-len c =
    let i = c.number-number.result in
    let s = c.args.standing.now in
    let value = c.number-number.ensures.value in
    let low : c.number-number.result < length c.self.inside.front.items = (let t = c.if-at-len.true in let n = c.len.ensures in omega (arith, t, n)) in
    (set_low i s c.in_ok-entry.entry c.self.inside.front.items _ c.self.inside.beyond.entries c.self.invariant low (c.in_ok-entry.ensures.ok ∙ ap (λ (n : ℕ). entry_of n s) (sym value)) refl).same
    ∙ ap (λ (es : List Entry). set_entry i s es) c.self.view_is ∙ ap (λ (n : ℕ). set_entry n s c.args.self.now) value

pub returns-then-at-len-2 : goal.returns-then-at-len-2
returns-then-at-len-2 c =
    let i = c.number-number.result in
    let s = c.args.standing.now in
    let value = c.number-number.ensures.value in
    let high : length c.self.inside.front.items ≤ c.number-number.result = (let t = c.if-at-len.false in let n = c.len.ensures in omega (arith, t, n)) in
    elim c.match-insert.branch [
      | in-Ok w ↦
          rw w.result-is
          ((put_beyond i s c.in_ok-entry.entry c.self.inside.front.items c.self.inside.beyond.entries c.insert.new.self.entries c.self.invariant high (c.in_ok-entry.ensures.ok ∙ ap (λ (n : ℕ). entry_of n s) (sym value)) w.in-Ok.ensures.entries).same
          ∙ ap (λ (es : List Entry). set_entry i s es) c.self.view_is ∙ ap (λ (n : ℕ). set_entry n s c.args.self.now) value)
      | in-Err w ↦ rw w.result-is tt
    ]

pub invariant_of-self-then-at-len-2 : goal.invariant_of-self-then-at-len-2
invariant_of-self-then-at-len-2 c =
    let i = c.number-number.result in
    let s = c.args.standing.now in
    let value = c.number-number.ensures.value in
    let high : length c.self.inside.front.items ≤ c.number-number.result = (let t = c.if-at-len.false in let n = c.len.ensures in omega (arith, t, n)) in
    elim c.match-insert.branch [
      | in-Ok w ↦ (put_beyond i s c.in_ok-entry.entry c.self.inside.front.items c.self.inside.beyond.entries c.insert.new.self.entries c.self.invariant high (c.in_ok-entry.ensures.ok ∙ ap (λ (n : ℕ). entry_of n s) (sym value)) w.in-Ok.ensures.entries).parted
      | in-Err w ↦ subst (λ (z : List (ℕ × Entry)). AreParted c.self.inside.front.items z) (sym w.in-Err.ensures.err) c.self.invariant
    ]

pub close_up-requires : goal.close_up-requires
close_up-requires c =
    let i = c.number-number.result in
    let s = c.args.standing.now in
    let value = c.number-number.ensures.value in
    let next : c.number-number.result ≡ length c.self.inside.front.items = (let t = c.if-at-len.false in let u = c.if-at-len-2.false in let n = c.len.ensures in let m = c.len-2.ensures in omega (arith, t, u, n, m)) in
    (pushed i s c.in_ok-entry.entry c.self.inside.front.items c.push.new.self.items c.self.inside.beyond.entries c.self.invariant next (sym c.contains_key.ensures ∙ c.if-contains_key.false) (c.in_ok-entry.ensures.ok ∙ ap (λ (n : ℕ). entry_of n s) (sym value)) c.in_ok-push.ensures.items).parted

pub invariant_of-self : goal.invariant_of-self
invariant_of-self c =
    let i = c.number-number.result in
    let s = c.args.standing.now in
    let value = c.number-number.ensures.value in
    let low : c.number-number.result < length c.self.inside.front.items = (let t = c.if-at-len.true in let n = c.len.ensures in omega (arith, t, n)) in
    (set_low i s c.in_ok-entry.entry c.self.inside.front.items _ c.self.inside.beyond.entries c.self.invariant low (c.in_ok-entry.ensures.ok ∙ ap (λ (n : ℕ). entry_of n s) (sym value)) refl).parted

pub returns : goal.returns
returns c =
    let i = c.number-number.result in
    let s = c.args.standing.now in
    let value = c.number-number.ensures.value in
    let next : c.number-number.result ≡ length c.self.inside.front.items = (let t = c.if-at-len.false in let u = c.if-at-len-2.false in let n = c.len.ensures in let m = c.len-2.ensures in omega (arith, t, u, n, m)) in
    c.close_up.ensures.same
    ∙ (pushed i s c.in_ok-entry.entry c.self.inside.front.items c.push.new.self.items c.self.inside.beyond.entries c.self.invariant next (sym c.contains_key.ensures ∙ c.if-contains_key.false) (c.in_ok-entry.ensures.ok ∙ ap (λ (n : ℕ). entry_of n s) (sym value)) c.in_ok-push.ensures.items).same
    ∙ ap (λ (es : List Entry). set_entry i s es) c.self.view_is ∙ ap (λ (n : ℕ). set_entry n s c.args.self.now) value
