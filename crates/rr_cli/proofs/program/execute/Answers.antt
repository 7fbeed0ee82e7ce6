use Rattle.std.proofs.Common.{◌≡◌, ◌∙◌, ℕ, List, Option, option_map, Bor, refl, sym, ap, map, None, Some, inl, inr}
use Rattle.clap.specs.Words.{Text, kind_of}
use Rattle.rr_words.specs.declared.tasks.Task.TheVariants as read
use Rattle.rr_words.specs.Tasks.{Simulate, Viewing, Show, Random, Audit, Run, Shell, Sweep, Draw, Migrate, Replace, cut_words_in, random_words_in, replace_words_in, shell_words_in, view_in, task_of, task_in, Verify, Export}
use Rattle.rr_cli.specs.Ends.{mistaken, by_help, by_version, out_of_memory, by_standard_input, by_file, by_folder, without_folder, by_numbers, by_migration, by_tape_in_standard_input, by_tape_in_a_file, by_sweep_of_standard_input, by_sweep_of_a_file, by_picture_of_standard_input, by_picture_of_a_file, without_seed, without_views, without_threads, without_shell, without_nodes, by_verification, by_export}
use Rattle.rr_cli.proofs.EndLemmas.{kind_cases}
use Rattle.rr_cli.proofs.program.execute.Goals as goal

pub returns-in-Ok-Simulate-None-clause-ends : goal.returns-in-Ok-Simulate-None-clause-ends
returns-in-Ok-Simulate-None-clause-ends g c =
    let w = c.in-Ok-Simulate-None in
    let task : task_of (map g.S.AsStr.text c.args.words.now) ≡ Simulate None = sym w.ensures.task ∙ ap task_in w.field-0-is ∙ ap (λ file. task_in (read.Simulate file)) w.field-0-0-is in
    by_standard_input w.ensures.faults task c.simulate_input.ensures.ends

pub returns-in-Ok-Simulate-Some-clause-ends : goal.returns-in-Ok-Simulate-Some-clause-ends
returns-in-Ok-Simulate-Some-clause-ends g c =
    let w = c.in-Ok-Simulate-Some in
    let task : task_of (map g.S.AsStr.text c.args.words.now) ≡ Simulate (Some w.path.now) = sym w.ensures.task ∙ ap task_in w.field-0-is ∙ ap (λ file. task_in (read.Simulate file)) w.field-0-0-is in
    by_file w.path.now w.ensures.faults task c.simulate_file.ensures.ends

pub returns-in-Ok-Show-Some-default-clause-ends : goal.returns-in-Ok-Show-Some-default-clause-ends
returns-in-Ok-Show-Some-default-clause-ends g c =
    let w = c.in-Ok-Show-Some-default in
    let task : task_of (map g.S.AsStr.text c.args.words.now) ≡ Show (Some w.folder.now) w.form = sym w.ensures.task ∙ ap task_in w.field-0-is ∙ ap (λ folder. task_in (read.Show folder w.form)) w.field-0-0-is in
    by_folder w.folder.now w.form w.ensures.faults task c.show_folder.ensures.ends

pub returns-in-Ok-Show-None-default-clause-ends : goal.returns-in-Ok-Show-None-default-clause-ends
returns-in-Ok-Show-None-default-clause-ends g c =
    let w = c.in-Ok-Show-None-default in
    let task : task_of (map g.S.AsStr.text c.args.words.now) ≡ Show None w.field-0-1 = sym w.ensures.task ∙ ap task_in w.field-0-is ∙ ap (λ folder. task_in (read.Show folder w.field-0-1)) w.field-0-0-is in
    without_folder w.field-0-1 w.ensures.faults task c.end_without_folder.ensures refl

pub returns-in-Ok-Audit-None-default-clause-ends : goal.returns-in-Ok-Audit-None-default-clause-ends
returns-in-Ok-Audit-None-default-clause-ends g c =
    let w = c.in-Ok-Audit-None-default in
    let task : task_of (map g.S.AsStr.text c.args.words.now) ≡ Audit None w.form = sym w.ensures.task ∙ ap task_in w.field-0-is ∙ ap (λ file. task_in (read.Audit file w.form)) w.field-0-0-is in
    by_tape_in_standard_input w.form w.ensures.faults task c.audit_input.ensures.ends

pub returns-in-Ok-Audit-Some-default-clause-ends : goal.returns-in-Ok-Audit-Some-default-clause-ends
returns-in-Ok-Audit-Some-default-clause-ends g c =
    let w = c.in-Ok-Audit-Some-default in
    let task : task_of (map g.S.AsStr.text c.args.words.now) ≡ Audit (Some w.path.now) w.form = sym w.ensures.task ∙ ap task_in w.field-0-is ∙ ap (λ file. task_in (read.Audit file w.form)) w.field-0-0-is in
    by_tape_in_a_file w.path.now w.form w.ensures.faults task c.audit_file.ensures.ends

pub returns-clause-ends : goal.returns-clause-ends
returns-clause-ends g c =
    elim (c.in-Err.ensures.faults) [
      | inl memory ↦ let end = c.end_by_words.ensures.memory memory in out_of_memory end.0 end.1
      | inr among ↦ elim (kind_cases (kind_of c.in-Err.error)) [
        | inl memory ↦ let end = c.end_by_words.ensures.memory memory in out_of_memory end.0 end.1
        | inr (inl help) ↦ by_help (kind_of c.in-Err.error) among help (c.end_by_words.ensures.help help)
        | inr (inr (inl version)) ↦ by_version (kind_of c.in-Err.error) among version (c.end_by_words.ensures.version version)
        | inr (inr (inr mistake)) ↦ let end = c.end_by_words.ensures.mistake mistake.0 mistake.1 in mistaken (kind_of c.in-Err.error) among mistake.1 end.0 end.1
      ]
    ]

pub returns-in-Ok-Random-clause-ends : goal.returns-in-Ok-Random-clause-ends
returns-in-Ok-Random-clause-ends g c =
    let w = c.in-Ok-Random in
    let task : task_of (map g.S.AsStr.text c.args.words.now) ≡ Random (random_words_in w.words) = sym w.ensures.task ∙ ap task_in w.field-0-is in
    by_numbers (random_words_in w.words) w.ensures.faults task c.random_by_words.ensures.ends

-- the text of a word
abbrev text_of : Option (Bor (List ℕ)) → Option Text
text_of word = option_map (λ s. s.now) word

pub returns-in-Ok-Migrate-clause-ends : goal.returns-in-Ok-Migrate-clause-ends
returns-in-Ok-Migrate-clause-ends g c =
    let w = c.in-Ok-Migrate in
    let task : task_of (map g.S.AsStr.text c.args.words.now) ≡ Migrate (text_of w.folder) (text_of w.node) (text_of w.nodes) = sym w.ensures.task ∙ ap task_in w.field-0-is in
    by_migration (text_of w.folder) (text_of w.node) (text_of w.nodes) w.ensures.faults task c.migrate_by_words.ensures.ends

pub returns-in-Ok-View-clause-ends : goal.returns-in-Ok-View-clause-ends
returns-in-Ok-View-clause-ends g c =
    let w = c.in-Ok-View in
    let task : task_of (map g.S.AsStr.text c.args.words.now) ≡ Viewing (view_in w.field-0-0) = sym w.ensures.task ∙ ap task_in w.field-0-is in
    without_views (view_in w.field-0-0) w.ensures.faults task c.end_without_views.ensures refl

pub returns-in-Ok-Run-clause-ends : goal.returns-in-Ok-Run-clause-ends
returns-in-Ok-Run-clause-ends g c =
    let w = c.in-Ok-Run in
    let task : task_of (map g.S.AsStr.text c.args.words.now) ≡ Run (text_of w.field-0-0) (text_of w.field-0-1) (text_of w.field-0-2) (text_of w.field-0-3) (text_of w.field-0-4) (text_of w.field-0-5) w.field-0-6 = sym w.ensures.task ∙ ap task_in w.field-0-is in
    without_threads (text_of w.field-0-0) (text_of w.field-0-1) (text_of w.field-0-2) (text_of w.field-0-3) (text_of w.field-0-4) (text_of w.field-0-5) w.field-0-6 w.ensures.faults task c.end_without_threads.ensures refl

pub returns-in-Ok-Shell-clause-ends : goal.returns-in-Ok-Shell-clause-ends
returns-in-Ok-Shell-clause-ends g c =
    let w = c.in-Ok-Shell in
    let task : task_of (map g.S.AsStr.text c.args.words.now) ≡ Shell (shell_words_in w.field-0-0) = sym w.ensures.task ∙ ap task_in w.field-0-is in
    without_shell (shell_words_in w.field-0-0) w.ensures.faults task c.end_without_shell.ensures refl

pub returns-in-Ok-Replace-clause-ends : goal.returns-in-Ok-Replace-clause-ends
returns-in-Ok-Replace-clause-ends g c =
    let w = c.in-Ok-Replace in
    let task : task_of (map g.S.AsStr.text c.args.words.now) ≡ Replace (replace_words_in w.field-0-0) = sym w.ensures.task ∙ ap task_in w.field-0-is in
    without_nodes (replace_words_in w.field-0-0) w.ensures.faults task c.end_without_nodes.ensures refl

-- the task that a file and a seed make
swept_from : (a b x y : Option (Bor (List ℕ))) → a ≡ x → b ≡ y → task_in (read.Sweep a b) ≡ task_in (read.Sweep x y)
swept_from a b x y p q = rw (p, q) refl

pub returns-in-Ok-Sweep-None-Some-clause-ends : goal.returns-in-Ok-Sweep-None-Some-clause-ends
returns-in-Ok-Sweep-None-Some-clause-ends g c =
    let w = c.in-Ok-Sweep-None-Some in
    let task : task_of (map g.S.AsStr.text c.args.words.now) ≡ Sweep None (Some w.seed.now) = sym w.ensures.task ∙ ap task_in w.field-0-is ∙ swept_from _ _ _ _ w.field-0-0-is w.field-0-1-is in
    by_sweep_of_standard_input w.seed.now w.ensures.faults task c.sweep_by_word.ensures.ends

pub returns-in-Ok-Sweep-Some-Some-clause-ends : goal.returns-in-Ok-Sweep-Some-Some-clause-ends
returns-in-Ok-Sweep-Some-Some-clause-ends g c =
    let w = c.in-Ok-Sweep-Some-Some in
    let task : task_of (map g.S.AsStr.text c.args.words.now) ≡ Sweep (Some w.path.now) (Some w.seed.now) = sym w.ensures.task ∙ ap task_in w.field-0-is ∙ swept_from _ _ _ _ w.field-0-0-is w.field-0-1-is in
    by_sweep_of_a_file w.path.now w.seed.now w.ensures.faults task c.sweep_file.ensures.ends

pub returns-in-Ok-Sweep-default-None-clause-ends : goal.returns-in-Ok-Sweep-default-None-clause-ends
returns-in-Ok-Sweep-default-None-clause-ends g c =
    let w = c.in-Ok-Sweep-default-None in
    let task : task_of (map g.S.AsStr.text c.args.words.now) ≡ Sweep (text_of w.field-0-0) None = sym w.ensures.task ∙ ap task_in w.field-0-is ∙ swept_from _ _ _ _ refl w.field-0-1-is in
    without_seed (text_of w.field-0-0) w.ensures.faults task c.end_without_seed.ensures refl

pub returns-in-Ok-Draw-None-default-clause-ends : goal.returns-in-Ok-Draw-None-default-clause-ends
returns-in-Ok-Draw-None-default-clause-ends g c =
    let w = c.in-Ok-Draw-None-default in
    let task : task_of (map g.S.AsStr.text c.args.words.now) ≡ Draw None (cut_words_in w.cut) = sym w.ensures.task ∙ ap task_in w.field-0-is ∙ ap (λ file. task_in (read.Draw file w.cut)) w.field-0-0-is in
    by_picture_of_standard_input (cut_words_in w.cut) w.ensures.faults task c.picture_input.ensures.ends

pub returns-in-Ok-Draw-Some-default-clause-ends : goal.returns-in-Ok-Draw-Some-default-clause-ends
returns-in-Ok-Draw-Some-default-clause-ends g c =
    let w = c.in-Ok-Draw-Some-default in
    let task : task_of (map g.S.AsStr.text c.args.words.now) ≡ Draw (Some w.path.now) (cut_words_in w.cut) = sym w.ensures.task ∙ ap task_in w.field-0-is ∙ ap (λ file. task_in (read.Draw file w.cut)) w.field-0-0-is in
    by_picture_of_a_file w.path.now (cut_words_in w.cut) w.ensures.faults task c.picture_file.ensures.ends

pub returns-in-Ok-Verify-clause-ends : goal.returns-in-Ok-Verify-clause-ends
returns-in-Ok-Verify-clause-ends g c =
    let w = c.in-Ok-Verify in
    let task : task_of (map g.S.AsStr.text c.args.words.now) ≡ Verify (text_of w.dir) w.form = sym w.ensures.task ∙ ap task_in w.field-0-is in
    by_verification (text_of w.dir) w.form w.ensures.faults task c.verify_by_word.ensures.ends

pub returns-in-Ok-Export-clause-ends : goal.returns-in-Ok-Export-clause-ends
returns-in-Ok-Export-clause-ends g c =
    let w = c.in-Ok-Export in
    let task : task_of (map g.S.AsStr.text c.args.words.now) ≡ Export (text_of w.dir) w.what = sym w.ensures.task ∙ ap task_in w.field-0-is in
    by_export (text_of w.dir) w.what w.ensures.faults task c.export_by_word.ensures.ends
