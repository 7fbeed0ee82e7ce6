-- What readers are served after additions that go on behind a list.
use Rattle.std.proofs.Common.{◌≡◌, List, [], ◌∷◌, ◌++◌, refl, ap, sym, ◌∙◌, subst, append_assoc, MatchResult, Result, Ok, Err, OnOk, OnErr}
use Rattle.std.proofs.lemmas.List.{append-nil}
use Rattle.std.specs.List.{fold}
use Rattle.logbook.specs.Pages.{Book}
use Rattle.rr_types.specs.declared.command.Command.{Command}
use Rattle.rr_registry.specs.Kept.{Kept, applied, applied_all, kept_of}
use Rattle.rr_types.specs.Registry.{holding_of}
use Rattle.rr_registry.proofs.KeptLemmas.{bindings-kept_of}
use Rattle.rr_window.specs.Lists.{Beginning, beginning}
use Rattle.rr_types.specs.Commands.{op_name}
use Rattle.rr_window.specs.Changes.{change_between, change_of}
use Rattle.rr_window.specs.Watches.{trace_of, with_trace, kept_traces}
use Rattle.rr_window.proofs.Watching.{kept_more}
use Rattle.rr_window.specs.Windows.{Publishing, Addition, Served, IsServed, IsShown, GoOn, trace_in, with_addition, served_of, commands_of}

pub applied_more : (k : Kept) (cs : List Command) (c : Command) → applied_all k (cs ++ c ∷ []) ≡ applied (applied_all k cs) c
applied_more k [] c = refl
applied_more k (d ∷ cs) c = applied_more (applied k d) cs c

-- additions that go on behind a list lead to what is served of the list with their commands
pub all_after : (b : Book) (list : List Command) (es : List Addition) → GoOn b list es → fold with_addition (served_of b list) es ≡ served_of b (list ++ commands_of es)
all_after b list [] go = ap (served_of b) (sym (append-nil list))
all_after b list (e ∷ es) go =
    let after : applied (kept_of list) e.command ≡ kept_of (list ++ e.command ∷ []) = sym (applied_more (kept_of []) list e.command) in
    let name = op_name e.command.op in
    let change : (trace_in (kept_of list) e).change ≡ change_of list e.command = λ i. change_between name (holding_of (bindings-kept_of list i) name) (holding_of ((ap (λ k. k.bindings) after ∙ bindings-kept_of (list ++ e.command ∷ [])) i) name) in
    let trace : trace_in (kept_of list) e ≡ trace_of b list e.command = λ i. record { beginning = go.0 i; change = change i } in
    let recent : with_trace (kept_traces b list) (trace_in (kept_of list) e) ≡ kept_traces b (list ++ e.command ∷ []) = ap (with_trace (kept_traces b list)) trace ∙ kept_more b list e.command in
    let first : with_addition (served_of b list) e ≡ served_of b (list ++ e.command ∷ []) = λ i. record { kept = after i; beginning = go.0 i; recent = recent i } in
    ap (λ s. fold with_addition s es) first ∙ all_after b (list ++ e.command ∷ []) es go.1 ∙ ap (served_of b) (append_assoc list (e.command ∷ []) (commands_of es))

pub shown_all : {E : Type 0} (b : Book) (s : Served) (es : List Addition) (t : Served) (fs : List Addition) (r : Result (Unit {0}) E) → IsServed b s → GoOn b s.beginning.list es
    → MatchResult r (λ _. (t ≡ fold with_addition s es) × (fs ≡ [])) (λ _. (t ≡ s) × (fs ≡ es)) → IsShown b s es t fs r
shown_all b s es t fs (Ok x) of go h = (h.0 ∙ ap (λ x. fold with_addition x es) of ∙ all_after b s.beginning.list es go, h.1)
shown_all b s es t fs (Err e) of go h = h

commands_more : (es : List Addition) (e : Addition) → commands_of (es ++ e ∷ []) ≡ commands_of es ++ e.command ∷ []
commands_more [] e = refl
commands_more (d ∷ es) e = ap (λ cs. d.command ∷ cs) (commands_more es e)

goes_on : (b : Book) (list : List Command) (es : List Addition) (e : Addition) → GoOn b list es → e.beginning ≡ beginning b ((list ++ commands_of es) ++ e.command ∷ []) → GoOn b list (es ++ e ∷ [])
goes_on b list [] e go is = (is ∙ ap (λ l. beginning b (l ++ e.command ∷ [])) (append-nil list), tt)
goes_on b list (d ∷ es) e go is = (go.0, goes_on b (list ++ d.command ∷ []) es e go.1 (is ∙ ap (λ l. beginning b (l ++ e.command ∷ [])) (sym (append_assoc list (d.command ∷ []) (commands_of es)))))

-- what a publisher keeps when a command is appended, or isn't
pub entered_all : {E : Type 0} (b : Book) (s : Served) (es ws : List Addition) (front : Beginning) (ws' : List Addition) (front' : Beginning) (c : Command) (r : Result (Unit {0}) E)
    → IsServed b s → GoOn b s.beginning.list (es ++ ws) → front ≡ beginning b (s.beginning.list ++ commands_of (es ++ ws))
    → OnOk r (front' ≡ beginning b (front.list ++ c ∷ [])) → OnOk r (ws' ≡ ws ++ record { command = c; beginning = front' } ∷ []) → OnErr r ((ws' ≡ ws) × (front' ≡ front))
    → IsServed b s × GoOn b s.beginning.list (es ++ ws') × (front' ≡ beginning b (s.beginning.list ++ commands_of (es ++ ws'))) × OnOk r (commands_of (es ++ ws') ≡ commands_of (es ++ ws) ++ c ∷ [])
entered_all b s es ws front ws' front' c (Ok x) of go is longer more kept =
    let e : Addition = record { command = c; beginning = front' } in
    let all : es ++ ws' ≡ (es ++ ws) ++ e ∷ [] = ap (λ w. es ++ w) more ∙ sym (append_assoc es ws (e ∷ [])) in
    let at : front' ≡ beginning b ((s.beginning.list ++ commands_of (es ++ ws)) ++ c ∷ []) = longer ∙ ap (λ (f : Beginning). beginning b (f.list ++ c ∷ [])) is in
    let commands : commands_of (es ++ ws') ≡ commands_of (es ++ ws) ++ c ∷ [] = ap commands_of all ∙ commands_more (es ++ ws) e in (
      of,
      subst (GoOn b s.beginning.list) (sym all) (goes_on b s.beginning.list (es ++ ws) e go at),
      at ∙ ap (beginning b) (append_assoc s.beginning.list (commands_of (es ++ ws)) (c ∷ []) ∙ ap (λ cs. s.beginning.list ++ cs) (sym commands)),
      commands,
    )
entered_all b s es ws front ws' front' c (Err e) of go is longer more kept = (of, subst (λ w. GoOn b s.beginning.list (es ++ w)) (sym kept.0) go, kept.1 ∙ is ∙ ap (λ w. beginning b (s.beginning.list ++ commands_of (es ++ w))) (sym kept.0), tt)

abbrev pub publishing : List Command → List Command → Publishing
publishing list cs = record { published = list; appended = cs }

pub appended_one : {E : Type 0} (r : Result (Unit {0}) E) (list cs cs' : List Command) (now : Publishing) (c : Command) → publishing list cs ≡ now → OnOk r (cs' ≡ cs ++ c ∷ [])
    → OnOk r (publishing list cs' ≡ publishing now.published (now.appended ++ c ∷ []))
appended_one (Ok x) list cs cs' now c is more = λ i. publishing (is i).published ((more ∙ ap (λ (p : Publishing). p.appended ++ c ∷ []) is) i)
appended_one (Err e) list cs cs' now c is more = tt
