use Rattle.std.proofs.Common.{◌≡◌, ◌<◌, ◌+◌, ◌∷◌, ◌++◌, ◌-◌, [], List, ℕ, ap, arith, drop, get_or, length, length-drop, refl, rules, subst, suc, sym, take, ◌∙◌}
use Rattle.std.proofs.Math.ListN.{drop_of_length-le}
use Rattle.std.proofs.Math.Seq.{drop-cons}
use Rattle.std.proofs.lemmas.List.{take_all}
use Rattle.std.proofs.lemmas.Option.{slice_get_read}
use Rattle.std.specs.Prelude.{codes, decimal}
use Rattle.rr_types.specs.declared.command.Command.{Command}
use Rattle.rr_text.specs.declared.event.Event.{Event}
use Rattle.rr_text.specs.declared.report.ReportLine.{ReportLine}
use Rattle.rr_text.specs.ReportTexts.{line, decided_lines}
use Rattle.rr_account.specs.Texts.{told_lines}
use Rattle.rr_account.proofs.TextLemmas.{so_far_more, so_far_end}
use Rattle.rr_account.proofs.explaining.explanation.Goals as goal

next_is : (index : ℕ) → suc index ≡ index + 1
next_is index = omega arith

-- the first of the events that are left is that at the index
first_left : (items events : List Event) (index : ℕ) (e : Event) → items ≡ events → index < length items → e ≡ get_or items index e → drop index events ≡ e ∷ drop (index + 1) events
first_left items events index e same within is =
    subst (λ (es : List Event). drop index es ≡ e ∷ drop (index + 1) es) same
    (drop-cons items index e within ∙ ap (λ (x : Event). x ∷ drop (suc index) items) (sym is) ∙ ap (λ (k : ℕ). e ∷ drop k items) (next_is index))

-- behind the lines that are left stands the decided list
ended : (lines given : List ReportLine) (decided shown_list : List Command) (count : ℕ) (text longer all : List ℕ) → given ≡ lines → shown_list ≡ decided
    → longer ≡ text ++ told_lines (take (length given - count) (drop count given)) → all ≡ longer ++ line (codes "decided" ∷ decimal (length shown_list) ∷ []) ++ decided_lines 0 shown_list
    → all ≡ text ++ told_lines (drop count lines) ++ line (codes "decided" ∷ decimal (length decided) ∷ []) ++ decided_lines 0 decided
ended lines given decided shown_list count text longer all same same_list grew ends =
    let left : take (length given - count) (drop count given) ≡ drop count given = take_all (length given - count) (drop count given) (omega (arith, length-drop count given)) in
    ends ∙ ap (λ (t : List ℕ). t ++ line (codes "decided" ∷ decimal (length shown_list) ∷ []) ++ decided_lines 0 shown_list) grew
    ∙ ap (λ (ls : List ReportLine). text ++ told_lines ls ++ line (codes "decided" ∷ decimal (length shown_list) ∷ []) ++ decided_lines 0 shown_list) left
    ∙ ap (λ (ls : List ReportLine). text ++ told_lines (drop count ls) ++ line (codes "decided" ∷ decimal (length shown_list) ∷ []) ++ decided_lines 0 shown_list) same
    ∙ ap (λ (commands : List Command). text ++ told_lines (drop count lines) ++ line (codes "decided" ∷ decimal (length commands) ∷ []) ++ decided_lines 0 commands) same_list

pub loop-event-preserved : goal.loop-event-preserved
loop-event-preserved c =
    so_far_more c.args.account.now c.loop-event.event-index c.loop-event.line c.loop-event.told c.in_ok-next.next c.event-item.result c.loop-event.text.items c.push_happening.new.text.items c.loop-event.invariant
    (first_left c.events-event-items.result.now c.args.account.now.schedule.events c.loop-event.event-index c.event-item.result c.events-event-items.ensures.value (search rules) c.event-item.is)
    c.in_ok-next.ensures.range c.in_ok-next.ensures.ok (search rules)
    (slice_get_read c.args.account.now.schedule.events (length c.args.account.now.schedule.events) c.loop-event.event-index c.event-item.result refl (search rules) (search rules))
    c.in_ok-next.ensures.noted c.in_ok-next.ensures.counted

pub returns-clause-ok : goal.returns-clause-ok
returns-clause-ok c =
    let items = c.events-event-items.result.now in
    let none : drop c.loop-event.event-index items ≡ [] = drop_of_length-le items {i = c.loop-event.event-index} (omega (arith, c.loop-event-test.false)) in
    so_far_end c.args.account.now c.loop-event.event-index c.loop-event.line c.loop-event.told c.loop-event.text.items _ c.loop-event.invariant
    (subst (λ (es : List Event). drop c.loop-event.event-index es ≡ []) c.events-event-items.ensures.value none)
    (ended c.args.account.now.report.lines c.lines-lines.result.now c.args.account.now.report.decided c.decided.result.now c.loop-event.told c.loop-event.text.items c.push_report_lines.new.out.items _
    c.lines-lines.ensures c.decided.ensures c.in_ok-push_report_lines.ensures.ok c.in_ok-push_decided_list.ensures.ok)
    (search rules)
