use Rattle.std.proofs.Common.{◌≡◌, ◌∙◌, ℕ, List, Option, option_map, Bor, sym, ap, map, inl, inr}
use Rattle.clap.specs.Words.{Text, kind_of}
use Rattle.rr_words.specs.Tasks.{Simulate, Viewing, Show, Random, Audit, Run, Shell, Sweep, Draw, Migrate, Replace, cut_words_in, random_words_in, replace_words_in, shell_words_in, task_of, task_in, view_in, Verify, Export}
use Rattle.rr_cli.specs.Ends.{mistaken, by_help, by_version}
use Rattle.rr_cli.proofs.EndLemmas.{kind_cases}
use Rattle.rr_cli.specs.Views.{by_view, by_others, out_of_memory}
use Rattle.rr_cli.proofs.WordLaws.{none_among, no_simulate, no_show, no_random, no_audit, no_run, no_shell, no_sweep, no_draw, no_migrate, no_replace, no_verify, no_export}
use Rattle.rr_cli.proofs.viewing.execute_with_views.Goals as goal

-- the text of a word
abbrev text_of : Option (Bor (List ℕ)) → Option Text
text_of word = option_map (λ s. s.now) word

pub returns-in-Ok-View-clause-ends : goal.returns-in-Ok-View-clause-ends
returns-in-Ok-View-clause-ends g c =
    let w = c.in-Ok-View in
    let task : task_of (map g.S.AsStr.text c.args.words.now) ≡ Viewing (view_in w.view) = sym w.ensures.task ∙ ap task_in w.field-0-is in
    by_view (view_in w.view) w.ensures.faults task c.show_view.ensures.ends

pub returns-clause-ends : goal.returns-clause-ends
returns-clause-ends g c =
    elim (c.in-Err.ensures.faults) [
      | inl memory ↦ let end = c.end_by_words.ensures.memory memory in out_of_memory end.0 end.1
      | inr among ↦ elim (kind_cases (kind_of c.in-Err.error)) [
        | inl memory ↦ let end = c.end_by_words.ensures.memory memory in out_of_memory end.0 end.1
        | inr (inl help) ↦ by_others (λ none view task. none_among (kind_of c.in-Err.error) _ among none) (by_help (kind_of c.in-Err.error) among help (c.end_by_words.ensures.help help))
        | inr (inr (inl version)) ↦ by_others (λ none view task. none_among (kind_of c.in-Err.error) _ among none) (by_version (kind_of c.in-Err.error) among version (c.end_by_words.ensures.version version))
        | inr (inr (inr mistake)) ↦ let end = c.end_by_words.ensures.mistake mistake.0 mistake.1 in by_others (λ none view task. none_among (kind_of c.in-Err.error) _ among none) (mistaken (kind_of c.in-Err.error) among mistake.1 end.0 end.1)
      ]
    ]

pub returns-in-Ok-Simulate-clause-ends : goal.returns-in-Ok-Simulate-clause-ends
returns-in-Ok-Simulate-clause-ends g c =
    let w = c.in-Ok-Simulate in
    let task : task_of (map g.S.AsStr.text c.args.words.now) ≡ Simulate (text_of w.field-0-0) = sym w.ensures.task ∙ ap task_in w.field-0-is in
    by_others (λ none view is. no_simulate (text_of w.field-0-0) view (sym task ∙ is)) c.execute.ensures.ends

pub returns-in-Ok-Show-clause-ends : goal.returns-in-Ok-Show-clause-ends
returns-in-Ok-Show-clause-ends g c =
    let w = c.in-Ok-Show in
    let task : task_of (map g.S.AsStr.text c.args.words.now) ≡ Show (text_of w.field-0-0) w.field-0-1 = sym w.ensures.task ∙ ap task_in w.field-0-is in
    by_others (λ none view is. no_show (text_of w.field-0-0) w.field-0-1 view (sym task ∙ is)) c.execute-in-Ok-Show.ensures.ends

pub returns-in-Ok-Random-clause-ends : goal.returns-in-Ok-Random-clause-ends
returns-in-Ok-Random-clause-ends g c =
    let w = c.in-Ok-Random in
    let task : task_of (map g.S.AsStr.text c.args.words.now) ≡ Random (random_words_in w.field-0-0) = sym w.ensures.task ∙ ap task_in w.field-0-is in
    by_others (λ none view is. no_random (random_words_in w.field-0-0) view (sym task ∙ is)) c.execute-in-Ok-Random.ensures.ends

pub returns-in-Ok-Audit-clause-ends : goal.returns-in-Ok-Audit-clause-ends
returns-in-Ok-Audit-clause-ends g c =
    let w = c.in-Ok-Audit in
    let task : task_of (map g.S.AsStr.text c.args.words.now) ≡ Audit (text_of w.field-0-0) w.field-0-1 = sym w.ensures.task ∙ ap task_in w.field-0-is in
    by_others (λ none view is. no_audit (text_of w.field-0-0) w.field-0-1 view (sym task ∙ is)) c.execute-in-Ok-Audit.ensures.ends

pub returns-in-Ok-Run-clause-ends : goal.returns-in-Ok-Run-clause-ends
returns-in-Ok-Run-clause-ends g c =
    let w = c.in-Ok-Run in
    let task : task_of (map g.S.AsStr.text c.args.words.now) ≡ Run (text_of w.field-0-0) (text_of w.field-0-1) (text_of w.field-0-2) (text_of w.field-0-3) (text_of w.field-0-4) (text_of w.field-0-5) w.field-0-6 = sym w.ensures.task ∙ ap task_in w.field-0-is in
    by_others (λ none view is. no_run (text_of w.field-0-0) (text_of w.field-0-1) (text_of w.field-0-2) (text_of w.field-0-3) (text_of w.field-0-4) (text_of w.field-0-5) w.field-0-6 view (sym task ∙ is)) c.execute-in-Ok-Run.ensures.ends

pub returns-in-Ok-Shell-clause-ends : goal.returns-in-Ok-Shell-clause-ends
returns-in-Ok-Shell-clause-ends g c =
    let w = c.in-Ok-Shell in
    let task : task_of (map g.S.AsStr.text c.args.words.now) ≡ Shell (shell_words_in w.field-0-0) = sym w.ensures.task ∙ ap task_in w.field-0-is in
    by_others (λ none view is. no_shell (shell_words_in w.field-0-0) view (sym task ∙ is)) c.execute-in-Ok-Shell.ensures.ends

pub returns-in-Ok-Sweep-clause-ends : goal.returns-in-Ok-Sweep-clause-ends
returns-in-Ok-Sweep-clause-ends g c =
    let w = c.in-Ok-Sweep in
    let task : task_of (map g.S.AsStr.text c.args.words.now) ≡ Sweep (text_of w.field-0-0) (text_of w.field-0-1) = sym w.ensures.task ∙ ap task_in w.field-0-is in
    by_others (λ none view is. no_sweep (text_of w.field-0-0) (text_of w.field-0-1) view (sym task ∙ is)) c.execute-in-Ok-Sweep.ensures.ends

pub returns-in-Ok-Draw-clause-ends : goal.returns-in-Ok-Draw-clause-ends
returns-in-Ok-Draw-clause-ends g c =
    let w = c.in-Ok-Draw in
    let task : task_of (map g.S.AsStr.text c.args.words.now) ≡ Draw (text_of w.field-0-0) (cut_words_in w.field-0-1) = sym w.ensures.task ∙ ap task_in w.field-0-is in
    by_others (λ none view is. no_draw (text_of w.field-0-0) (cut_words_in w.field-0-1) view (sym task ∙ is)) c.execute-in-Ok-Draw.ensures.ends

pub returns-in-Ok-Migrate-clause-ends : goal.returns-in-Ok-Migrate-clause-ends
returns-in-Ok-Migrate-clause-ends g c =
    let w = c.in-Ok-Migrate in
    let task : task_of (map g.S.AsStr.text c.args.words.now) ≡ Migrate (text_of w.field-0-0) (text_of w.field-0-1) (text_of w.field-0-2) = sym w.ensures.task ∙ ap task_in w.field-0-is in
    by_others (λ none view is. no_migrate (text_of w.field-0-0) (text_of w.field-0-1) (text_of w.field-0-2) view (sym task ∙ is)) c.execute-in-Ok-Migrate.ensures.ends

pub returns-in-Ok-Replace-clause-ends : goal.returns-in-Ok-Replace-clause-ends
returns-in-Ok-Replace-clause-ends g c =
    let w = c.in-Ok-Replace in
    let task : task_of (map g.S.AsStr.text c.args.words.now) ≡ Replace (replace_words_in w.field-0-0) = sym w.ensures.task ∙ ap task_in w.field-0-is in
    by_others (λ none view is. no_replace (replace_words_in w.field-0-0) view (sym task ∙ is)) c.execute-in-Ok-Replace.ensures.ends

pub returns-in-Ok-Verify-clause-ends : goal.returns-in-Ok-Verify-clause-ends
returns-in-Ok-Verify-clause-ends g c =
    let w = c.in-Ok-Verify in
    let task : task_of (map g.S.AsStr.text c.args.words.now) ≡ Verify (text_of w.field-0-0) w.field-0-1 = sym w.ensures.task ∙ ap task_in w.field-0-is in
    by_others (λ none view is. no_verify (text_of w.field-0-0) w.field-0-1 view (sym task ∙ is)) c.execute-in-Ok-Verify.ensures.ends

pub returns-in-Ok-Export-clause-ends : goal.returns-in-Ok-Export-clause-ends
returns-in-Ok-Export-clause-ends g c =
    let w = c.in-Ok-Export in
    let task : task_of (map g.S.AsStr.text c.args.words.now) ≡ Export (text_of w.field-0-0) w.field-0-1 = sym w.ensures.task ∙ ap task_in w.field-0-is in
    by_others (λ none view is. no_export (text_of w.field-0-0) w.field-0-1 view (sym task ∙ is)) c.execute-in-Ok-Export.ensures.ends
