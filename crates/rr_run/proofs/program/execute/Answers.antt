use Rattle.std.proofs.Common.{◌≡◌, ◌∙◌, List, Option, None, Some, [], option_map, refl, Bor, ℕ, sym, ap, subst, map, inl, inr}
use Rattle.clap.specs.Words.{Text, kind_of}
use Rattle.clap.specs.Kinds.{Kinds, IsAmong}
use Rattle.clap.specs.declared.error.kind.ErrorKind.{ErrorKind}
use Rattle.rr_words.specs.declared.tasks.Form.{Form}
use Rattle.rr_words.specs.declared.tasks.Task.TheVariants as read
use Rattle.rr_words.specs.Tasks.{Simulate, Viewing, Show, Random, Audit, Run, Shell, Sweep, Draw, Migrate, Replace, cut_words_in, random_words_in, replace_words_in, shell_words_in, view_in, task_of, task_in, Verify, Export}
use Rattle.rr_cli.specs.Ends.{mistaken, by_help, by_version}
use Rattle.rr_cli.proofs.EndLemmas.{kind_cases}
use Rattle.rr_cli.specs.Views as views
use Rattle.rr_run.specs.Runs.{AsksForThreads, by_script, by_shell, by_replacing, by_others, out_of_memory}
use Rattle.rr_run.specs.Telling.{silent, told, begun}
use Rattle.rr_run.proofs.program.execute.Goals as goal

-- the task that six words and a form make
run_from : (a b c d e f w x y : Option (Bor (List ℕ))) (form : Form) → a ≡ w → b ≡ x → c ≡ y → task_in (read.Run a b c d e f form) ≡ task_in (read.Run w x y d e f form)
run_from a b c d e f w x y form p q r = rw (p, q, r) refl

-- no kind is among none
none_among : (kind : ErrorKind) (kinds : Kinds) → IsAmong kind kinds → kinds ≡ [] → ⊥
none_among kind kinds among none = subst (λ ks. IsAmong kind ks) none among

pub returns-in-Ok-Run-Some-Some-Some-default-default-default-default-clause-ends : goal.returns-in-Ok-Run-Some-Some-Some-default-default-default-default-clause-ends
returns-in-Ok-Run-Some-Some-Some-default-default-default-default-clause-ends g c =
    let w = c.in-Ok-Run-Some-Some-Some-default-default-default-default in
    let task : task_of (map g.S.AsStr.text c.args.words.now) ≡ Run (Some w.nodes.now) (Some w.dir.now) (Some w.script.now) (option_map (λ s. s.now) w.tape) (option_map (λ s. s.now) w.tick) (option_map (λ s. s.now) w.without) w.form = sym w.ensures.task ∙ ap task_in w.field-0-is ∙ run_from _ _ _ _ _ _ _ _ _ _ w.field-0-0-is w.field-0-1-is w.field-0-2-is in
    by_script (record { nodes = w.nodes.now; dir = w.dir.now; script = w.script.now; tape = option_map (λ s. s.now) w.tape; tick = option_map (λ s. s.now) w.tick; without = option_map (λ s. s.now) w.without; form = w.form; is = task }) w.ensures.faults c.run_by_words.ensures.ends

pub returns-in-Err-clause-ends : goal.returns-in-Err-clause-ends
returns-in-Err-clause-ends g c =
    elim (c.in-Err.ensures.faults) [
      | inl memory ↦ let end = c.end_by_words.ensures.memory memory in out_of_memory end.0 end.1
      | inr among ↦ elim (kind_cases (kind_of c.in-Err.error)) [
        | inl memory ↦ let end = c.end_by_words.ensures.memory memory in out_of_memory end.0 end.1
        | inr (inl help) ↦ by_others (λ none. absurd (none_among (kind_of c.in-Err.error) _ among none)) (views.by_others (λ none. absurd (none_among (kind_of c.in-Err.error) _ among none)) (by_help (kind_of c.in-Err.error) among help (c.end_by_words.ensures.help help)))
        | inr (inr (inl version)) ↦ by_others (λ none. absurd (none_among (kind_of c.in-Err.error) _ among none)) (views.by_others (λ none. absurd (none_among (kind_of c.in-Err.error) _ among none)) (by_version (kind_of c.in-Err.error) among version (c.end_by_words.ensures.version version)))
        | inr (inr (inr mistake)) ↦ let end = c.end_by_words.ensures.mistake mistake.0 mistake.1 in by_others (λ none. absurd (none_among (kind_of c.in-Err.error) _ among none)) (views.by_others (λ none. absurd (none_among (kind_of c.in-Err.error) _ among none)) (mistaken (kind_of c.in-Err.error) among mistake.1 end.0 end.1))
      ]
    ]

-- the text of a word
abbrev text_of : Option (Bor (List ℕ)) → Option Text
text_of word = option_map (λ s. s.now) word

-- what isn't a run or a shell with all its words
without_dir : (a c d e f : Option Text) (form : Form) → AsksForThreads (Run a None c d e f form) → ⊥
without_dir None c d e f form asks = asks
without_dir (Some n) c d e f form asks = asks

without_script : (a b d e f : Option Text) (form : Form) → AsksForThreads (Run a b None d e f form) → ⊥
without_script None b d e f form asks = asks
without_script (Some n) None d e f form asks = asks
without_script (Some n) (Some x) d e f form asks = asks

pub returns-in-Ok-Run-None-default-default-default-default-default-default-clause-ends : goal.returns-in-Ok-Run-None-default-default-default-default-default-default-clause-ends
returns-in-Ok-Run-None-default-default-default-default-default-default-clause-ends g c =
    let w = c.in-Ok-Run-None-default-default-default-default-default-default in
    let task : task_of (map g.S.AsStr.text c.args.words.now) ≡ Run None (text_of w.field-0-1) (text_of w.field-0-2) (text_of w.field-0-3) (text_of w.field-0-4) (text_of w.field-0-5) w.field-0-6 = sym w.ensures.task ∙ ap task_in w.field-0-is ∙ run_from _ _ _ _ _ _ _ _ _ _ w.field-0-0-is refl refl in
    by_others (λ none asks. subst (λ t. AsksForThreads t) task asks) c.execute_with_views-in-Ok-Run-None-default-default-default-default-default-default.ensures.ends

pub returns-in-Ok-Run-default-None-default-default-default-default-default-clause-ends : goal.returns-in-Ok-Run-default-None-default-default-default-default-default-clause-ends
returns-in-Ok-Run-default-None-default-default-default-default-default-clause-ends g c =
    let w = c.in-Ok-Run-default-None-default-default-default-default-default in
    let task : task_of (map g.S.AsStr.text c.args.words.now) ≡ Run (text_of w.field-0-0) None (text_of w.field-0-2) (text_of w.field-0-3) (text_of w.field-0-4) (text_of w.field-0-5) w.field-0-6 = sym w.ensures.task ∙ ap task_in w.field-0-is ∙ run_from _ _ _ _ _ _ _ _ _ _ refl w.field-0-1-is refl in
    by_others (λ none asks. without_dir (text_of w.field-0-0) (text_of w.field-0-2) (text_of w.field-0-3) (text_of w.field-0-4) (text_of w.field-0-5) w.field-0-6 (subst (λ t. AsksForThreads t) task asks)) c.execute_with_views-in-Ok-Run-default-None-default-default-default-default-default.ensures.ends

pub returns-in-Ok-Run-default-default-None-default-default-default-default-clause-ends : goal.returns-in-Ok-Run-default-default-None-default-default-default-default-clause-ends
returns-in-Ok-Run-default-default-None-default-default-default-default-clause-ends g c =
    let w = c.in-Ok-Run-default-default-None-default-default-default-default in
    let task : task_of (map g.S.AsStr.text c.args.words.now) ≡ Run (text_of w.field-0-0) (text_of w.field-0-1) None (text_of w.field-0-3) (text_of w.field-0-4) (text_of w.field-0-5) w.field-0-6 = sym w.ensures.task ∙ ap task_in w.field-0-is ∙ run_from _ _ _ _ _ _ _ _ _ _ refl refl w.field-0-2-is in
    by_others (λ none asks. without_script (text_of w.field-0-0) (text_of w.field-0-1) (text_of w.field-0-3) (text_of w.field-0-4) (text_of w.field-0-5) w.field-0-6 (subst (λ t. AsksForThreads t) task asks)) c.execute_with_views.ensures.ends

pub returns-in-Ok-Shell-clause-ends : goal.returns-in-Ok-Shell-clause-ends
returns-in-Ok-Shell-clause-ends g c =
    let w = c.in-Ok-Shell in
    let task : task_of (map g.S.AsStr.text c.args.words.now) ≡ Shell (shell_words_in w.asked) = sym w.ensures.task ∙ ap task_in w.field-0-is in
    by_shell (shell_words_in w.asked) task w.ensures.faults c.shell_by_words.ensures.ends

pub returns-in-Ok-Simulate-clause-ends : goal.returns-in-Ok-Simulate-clause-ends
returns-in-Ok-Simulate-clause-ends g c =
    let w = c.in-Ok-Simulate in
    let task : task_of (map g.S.AsStr.text c.args.words.now) ≡ Simulate (text_of w.field-0-0) = sym w.ensures.task ∙ ap task_in w.field-0-is in
    by_others (λ none asks. subst (λ t. AsksForThreads t) task asks) c.execute_with_views-in-Ok-Simulate.ensures.ends

pub returns-in-Ok-View-clause-ends : goal.returns-in-Ok-View-clause-ends
returns-in-Ok-View-clause-ends g c =
    let w = c.in-Ok-View in
    let task : task_of (map g.S.AsStr.text c.args.words.now) ≡ Viewing (view_in w.field-0-0) = sym w.ensures.task ∙ ap task_in w.field-0-is in
    by_others (λ none asks. subst (λ t. AsksForThreads t) task asks) c.execute_with_views-in-Ok-View.ensures.ends

pub returns-in-Ok-Show-clause-ends : goal.returns-in-Ok-Show-clause-ends
returns-in-Ok-Show-clause-ends g c =
    let w = c.in-Ok-Show in
    let task : task_of (map g.S.AsStr.text c.args.words.now) ≡ Show (text_of w.field-0-0) w.field-0-1 = sym w.ensures.task ∙ ap task_in w.field-0-is in
    by_others (λ none asks. subst (λ t. AsksForThreads t) task asks) c.execute_with_views-in-Ok-Show.ensures.ends

pub returns-in-Ok-Random-clause-ends : goal.returns-in-Ok-Random-clause-ends
returns-in-Ok-Random-clause-ends g c =
    let w = c.in-Ok-Random in
    let task : task_of (map g.S.AsStr.text c.args.words.now) ≡ Random (random_words_in w.field-0-0) = sym w.ensures.task ∙ ap task_in w.field-0-is in
    by_others (λ none asks. subst (λ t. AsksForThreads t) task asks) c.execute_with_views-in-Ok-Random.ensures.ends

pub returns-in-Ok-Audit-clause-ends : goal.returns-in-Ok-Audit-clause-ends
returns-in-Ok-Audit-clause-ends g c =
    let w = c.in-Ok-Audit in
    let task : task_of (map g.S.AsStr.text c.args.words.now) ≡ Audit (text_of w.field-0-0) w.field-0-1 = sym w.ensures.task ∙ ap task_in w.field-0-is in
    by_others (λ none asks. subst (λ t. AsksForThreads t) task asks) c.execute_with_views-in-Ok-Audit.ensures.ends

pub returns-in-Ok-Sweep-clause-ends : goal.returns-in-Ok-Sweep-clause-ends
returns-in-Ok-Sweep-clause-ends g c =
    let w = c.in-Ok-Sweep in
    let task : task_of (map g.S.AsStr.text c.args.words.now) ≡ Sweep (text_of w.field-0-0) (text_of w.field-0-1) = sym w.ensures.task ∙ ap task_in w.field-0-is in
    by_others (λ none asks. subst (λ t. AsksForThreads t) task asks) c.execute_with_views-in-Ok-Sweep.ensures.ends

pub returns-in-Ok-Draw-clause-ends : goal.returns-in-Ok-Draw-clause-ends
returns-in-Ok-Draw-clause-ends g c =
    let w = c.in-Ok-Draw in
    let task : task_of (map g.S.AsStr.text c.args.words.now) ≡ Draw (text_of w.field-0-0) (cut_words_in w.field-0-1) = sym w.ensures.task ∙ ap task_in w.field-0-is in
    by_others (λ none asks. subst (λ t. AsksForThreads t) task asks) c.execute_with_views-in-Ok-Draw.ensures.ends

pub returns-in-Ok-Migrate-clause-ends : goal.returns-in-Ok-Migrate-clause-ends
returns-in-Ok-Migrate-clause-ends g c =
    let w = c.in-Ok-Migrate in
    let task : task_of (map g.S.AsStr.text c.args.words.now) ≡ Migrate (text_of w.field-0-0) (text_of w.field-0-1) (text_of w.field-0-2) = sym w.ensures.task ∙ ap task_in w.field-0-is in
    by_others (λ none asks. subst (λ t. AsksForThreads t) task asks) c.execute_with_views-in-Ok-Migrate.ensures.ends

pub returns-in-Ok-Replace-clause-ends : goal.returns-in-Ok-Replace-clause-ends
returns-in-Ok-Replace-clause-ends g c =
    let w = c.in-Ok-Replace in
    let task : task_of (map g.S.AsStr.text c.args.words.now) ≡ Replace (replace_words_in w.asked) = sym w.ensures.task ∙ ap task_in w.field-0-is in
    by_replacing (replace_words_in w.asked) task w.ensures.faults refl c.replace_by_words.ensures.ends

pub returns-in-Ok-Verify-clause-ends : goal.returns-in-Ok-Verify-clause-ends
returns-in-Ok-Verify-clause-ends g c =
    let w = c.in-Ok-Verify in
    let task : task_of (map g.S.AsStr.text c.args.words.now) ≡ Verify (text_of w.field-0-0) w.field-0-1 = sym w.ensures.task ∙ ap task_in w.field-0-is in
    by_others (λ none asks. subst (λ t. AsksForThreads t) task asks) c.execute_with_views-in-Ok-Verify.ensures.ends

pub returns-in-Ok-Export-clause-ends : goal.returns-in-Ok-Export-clause-ends
returns-in-Ok-Export-clause-ends g c =
    let w = c.in-Ok-Export in
    let task : task_of (map g.S.AsStr.text c.args.words.now) ≡ Export (text_of w.field-0-0) w.field-0-1 = sym w.ensures.task ∙ ap task_in w.field-0-is in
    by_others (λ none asks. subst (λ t. AsksForThreads t) task asks) c.execute_with_views-in-Ok-Export.ensures.ends

pub returns-in-Ok-Run-Some-Some-Some-default-default-default-default-clause-quiet : goal.returns-in-Ok-Run-Some-Some-Some-default-default-default-default-clause-quiet
returns-in-Ok-Run-Some-Some-Some-default-default-default-default-clause-quiet g c =
    let w = c.in-Ok-Run-Some-Some-Some-default-default-default-default in
    let task : task_of (map g.S.AsStr.text c.args.words.now) ≡ Run (Some w.nodes.now) (Some w.dir.now) (Some w.script.now) (option_map (λ s. s.now) w.tape) (option_map (λ s. s.now) w.tick) (option_map (λ s. s.now) w.without) w.form = sym w.ensures.task ∙ ap task_in w.field-0-is ∙ run_from _ _ _ _ _ _ _ _ _ _ w.field-0-0-is w.field-0-1-is w.field-0-2-is in
    λ ended. told (record { nodes = w.nodes.now; dir = w.dir.now; script = w.script.now; tape = option_map (λ s. s.now) w.tape; tick = option_map (λ s. s.now) w.tick; without = option_map (λ s. s.now) w.without; form = w.form; is = task }) w.ensures.faults (c.run_by_words.ensures.quiet ended)

pub returns-in-Err-clause-quiet : goal.returns-in-Err-clause-quiet
returns-in-Err-clause-quiet g c = λ ended. silent (c.end_by_words.ensures.quiet ended)

pub returns-in-Ok-Run-None-default-default-default-default-default-default-clause-quiet : goal.returns-in-Ok-Run-None-default-default-default-default-default-default-clause-quiet
returns-in-Ok-Run-None-default-default-default-default-default-default-clause-quiet g c = λ ended. silent (c.execute_with_views-in-Ok-Run-None-default-default-default-default-default-default.ensures.quiet ended)

pub returns-in-Ok-Run-default-None-default-default-default-default-default-clause-quiet : goal.returns-in-Ok-Run-default-None-default-default-default-default-default-clause-quiet
returns-in-Ok-Run-default-None-default-default-default-default-default-clause-quiet g c = λ ended. silent (c.execute_with_views-in-Ok-Run-default-None-default-default-default-default-default.ensures.quiet ended)

pub returns-in-Ok-Run-default-default-None-default-default-default-default-clause-quiet : goal.returns-in-Ok-Run-default-default-None-default-default-default-default-clause-quiet
returns-in-Ok-Run-default-default-None-default-default-default-default-clause-quiet g c = λ ended. silent (c.execute_with_views.ensures.quiet ended)

pub returns-in-Ok-Shell-clause-quiet : goal.returns-in-Ok-Shell-clause-quiet
returns-in-Ok-Shell-clause-quiet g c =
    let w = c.in-Ok-Shell in
    let task : task_of (map g.S.AsStr.text c.args.words.now) ≡ Shell (shell_words_in w.asked) = sym w.ensures.task ∙ ap task_in w.field-0-is in
    λ ended. begun (shell_words_in w.asked) task w.ensures.faults (c.shell_by_words.ensures.quiet ended)

pub returns-in-Ok-Simulate-clause-quiet : goal.returns-in-Ok-Simulate-clause-quiet
returns-in-Ok-Simulate-clause-quiet g c = λ ended. silent (c.execute_with_views-in-Ok-Simulate.ensures.quiet ended)

pub returns-in-Ok-View-clause-quiet : goal.returns-in-Ok-View-clause-quiet
returns-in-Ok-View-clause-quiet g c = λ ended. silent (c.execute_with_views-in-Ok-View.ensures.quiet ended)

pub returns-in-Ok-Show-clause-quiet : goal.returns-in-Ok-Show-clause-quiet
returns-in-Ok-Show-clause-quiet g c = λ ended. silent (c.execute_with_views-in-Ok-Show.ensures.quiet ended)

pub returns-in-Ok-Random-clause-quiet : goal.returns-in-Ok-Random-clause-quiet
returns-in-Ok-Random-clause-quiet g c = λ ended. silent (c.execute_with_views-in-Ok-Random.ensures.quiet ended)

pub returns-in-Ok-Audit-clause-quiet : goal.returns-in-Ok-Audit-clause-quiet
returns-in-Ok-Audit-clause-quiet g c = λ ended. silent (c.execute_with_views-in-Ok-Audit.ensures.quiet ended)

pub returns-in-Ok-Sweep-clause-quiet : goal.returns-in-Ok-Sweep-clause-quiet
returns-in-Ok-Sweep-clause-quiet g c = λ ended. silent (c.execute_with_views-in-Ok-Sweep.ensures.quiet ended)

pub returns-in-Ok-Draw-clause-quiet : goal.returns-in-Ok-Draw-clause-quiet
returns-in-Ok-Draw-clause-quiet g c = λ ended. silent (c.execute_with_views-in-Ok-Draw.ensures.quiet ended)

pub returns-in-Ok-Migrate-clause-quiet : goal.returns-in-Ok-Migrate-clause-quiet
returns-in-Ok-Migrate-clause-quiet g c = λ ended. silent (c.execute_with_views-in-Ok-Migrate.ensures.quiet ended)

pub returns-in-Ok-Replace-clause-quiet : goal.returns-in-Ok-Replace-clause-quiet
returns-in-Ok-Replace-clause-quiet g c = λ ended. silent (c.replace_by_words.ensures.quiet ended)

pub returns-in-Ok-Verify-clause-quiet : goal.returns-in-Ok-Verify-clause-quiet
returns-in-Ok-Verify-clause-quiet g c = λ ended. silent (c.execute_with_views-in-Ok-Verify.ensures.quiet ended)

pub returns-in-Ok-Export-clause-quiet : goal.returns-in-Ok-Export-clause-quiet
returns-in-Ok-Export-clause-quiet g c = λ ended. silent (c.execute_with_views-in-Ok-Export.ensures.quiet ended)
