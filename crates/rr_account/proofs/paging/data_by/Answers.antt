use Rattle.std.proofs.Common.{◌≡◌, ◌<◌, ◌+◌, ◌∷◌, [], List, ℕ, ap, arith, drop, get_or, length, rules, subst, suc, sym, ◌∙◌}
use Rattle.std.proofs.Math.ListN.{drop_of_length-le}
use Rattle.std.proofs.Math.Seq.{drop-cons}
use Rattle.rr_text.specs.declared.event.Event.{Event}
use Rattle.rr_account.proofs.PageLaws.{page_none, page_next, page_end}
use Rattle.rr_account.proofs.paging.data_by.Goals as goal

next_is : (index : ℕ) → suc index ≡ index + 1
next_is index = omega arith

-- the first of the events that are left is that at the index
first_left : (items events : List Event) (index : ℕ) (e : Event) → items ≡ events → index < length items → e ≡ get_or items index e → drop index events ≡ e ∷ drop (index + 1) events
first_left items events index e same within is =
    subst (λ (es : List Event). drop index es ≡ e ∷ drop (index + 1) es) same
    (drop-cons items index e within ∙ ap (λ (x : Event). x ∷ drop (suc index) items) (sym is) ∙ ap (λ (k : ℕ). e ∷ drop k items) (next_is index))

pub loop-event-init : goal.loop-event-init
loop-event-init c = page_none c.args.account.now c.args.from c.args.to c.args.decided.now c.push_head.new.out.items (search rules)

pub loop-event-preserved : goal.loop-event-preserved
loop-event-preserved c =
    page_next c.args.account.now c.args.from c.args.to c.args.decided.now c.loop-event.event-index c.loop-event.at c.loop-event.told _ c.happening-is_told.result.0 c.event-item.result _ c.happening-is_told.result.1 c.loop-event.text.items c.push_within.new.out.items c.loop-event.invariant
    (first_left c.events-event-items.result.now c.args.account.now.schedule.events c.loop-event.event-index c.event-item.result c.events-event-items.ensures.value (search rules) c.event-item.is)
    (search rules)
    (rw c.decided_on-decides.ensures at c.in_ok-push_within.ensures.ok) (search rules) (search rules) (search rules) (search rules)

pub returns-clause-ok : goal.returns-clause-ok
returns-clause-ok c =
    let items = c.events-event-items.result.now in
    let none : drop c.loop-event.event-index items ≡ [] = drop_of_length-le items {i = c.loop-event.event-index} (omega (arith, c.loop-event-test.false)) in
    page_end c.args.account.now c.args.from c.args.to c.args.decided.now c.loop-event.event-index c.loop-event.at c.loop-event.told c.loop-event.text.items _ c.loop-event.invariant c.requires
    (subst (λ (es : List Event). drop c.loop-event.event-index es ≡ []) c.events-event-items.ensures.value none)
    (search rules) (search rules)
