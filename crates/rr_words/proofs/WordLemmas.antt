-- What was read of words, and what they ask for.
use Rattle.std.proofs.Common.{◌≡◌, ◌∙◌, true, refl, ap, subst, sym, List, [], Option, None, Some, Result, Ok, Err, option_map}
use Rattle.std.specs.Prelude.{Box, IsErrAnd}
use Rattle.std.specs.Box.{box_value}
use Rattle.std.specs.Option.{option_map_or}
use Rattle.clap.specs.Words.{App, Row, Text, HasMatchesOf, is_simple, is_simple_and_free, subcommand_of, subcommand_rows_of}
use Rattle.clap.specs.Simple.{subcommand_rows}
use Rattle.clap.specs.Faults.{fault_of}
use Rattle.clap.specs.Kinds.{Kinds, HasKind, FailsBy}
use Rattle.clap.specs.declared.error.Error.{Error}
use Rattle.clap.specs.declared.parser.matches.ArgMatches.{ArgMatches}
use Rattle.clap.specs.declared.parser.matches.ArgMatches.TheViews.{out-ArgMatches, out-SubCommand}
use Rattle.clap.specs.declared.parser.matches.SubCommand.{SubCommand}
use Rattle.clap.proofs.OnLiterals.{clap_on_literals}
use Rattle.rr_words.specs.Lines.{and_also, asking_line, with_arg, with_version, audit_line, check_line, draw_line, export_line, migrate_line, numbers_line, random_line, replace_line, rr_line, rr_settings, run_line, schedule_lines, shell_line, show_line, sim_line, stats_line, sweep_line, told_line, verify_line}
use Rattle.rr_words.specs.Tasks.{Simulate, faults_of, found_in, task_by, task_of}

is_simple_line : is_simple rr_line ≡ true
unfolding clap_on_literals rr_line schedule_lines and_also with_arg with_version rr_settings told_line sim_line stats_line check_line show_line numbers_line random_line audit_line run_line asking_line shell_line sweep_line draw_line migrate_line replace_line verify_line export_line
is_simple_line = refl

is_free_line : is_simple_and_free rr_line ≡ true
unfolding clap_on_literals rr_line schedule_lines and_also with_arg with_version rr_settings told_line sim_line stats_line check_line show_line numbers_line random_line audit_line run_line asking_line shell_line sweep_line draw_line migrate_line replace_line verify_line export_line
is_free_line = refl

-- what a parse by this command line found, or failed by
pub found_by : (app : App) (words : List Text) (m : ArgMatches) → app ≡ rr_line → HasMatchesOf app words m → subcommand_rows_of m ≡ found_in words
unfolding found_in
found_by app words m is has = (has (ap is_simple is ∙ is_simple_line)).1 ∙ ap (λ (a : App). subcommand_of a words) is

pub lacks_faults : (app : App) (words : List Text) → app ≡ rr_line → (is_simple_and_free app ≡ true → fault_of app words ≡ []) → faults_of words ≡ []
unfolding faults_of
lacks_faults app words is lacks = subst (λ (a : App). fault_of a words ≡ []) is (lacks (ap is_simple_and_free is ∙ is_free_line))

pub has_fault : (app : App) (words : List Text) (e : Error) → app ≡ rr_line → (is_simple_and_free app ≡ true → HasKind (fault_of app words) e) → HasKind (faults_of words) e
unfolding faults_of
has_fault app words e is has = subst (λ (a : App). HasKind (fault_of a words) e) is (has (ap is_simple_and_free is ∙ is_free_line))

-- the name beside the rows of a subcommand is its name
named : {Z : Type 0} (sub : Option (Box SubCommand Z)) → option_map (λ (p : Text × List Row). p.0) (subcommand_rows sub) ≡ option_map (λ b. (out-SubCommand (box_value b)).name.now) sub
named None = refl
named (Some b) = refl

-- a subcommand of this name, with these rows
asked : (found : Option (Text × List Row)) (name : Text) (rows : List Row) → Some name ≡ option_map (λ (p : Text × List Row). p.0) found → Some rows ≡ option_map (λ (p : Text × List Row). p.1) found
    → task_by (name, rows) ≡ option_map_or task_by found (Simulate None)
asked None name rows e f = absurd cc
asked (Some (text, own)) name rows e f =
    let same : name ≡ text = cc in
    let all : rows ≡ own = cc in
    rw (same, all) refl

-- the words ask for what the subcommand of this name asks for with these rows
pub asks_by : (words : List Text) (m : ArgMatches) (name : Text) (rows : List Row) → subcommand_rows_of m ≡ found_in words
    → Some name ≡ option_map (λ b. (out-SubCommand (box_value b)).name.now) (out-ArgMatches m).subcommand
    → Some rows ≡ option_map (λ (p : Text × List Row). p.1) (subcommand_rows (out-ArgMatches m).subcommand)
    → task_by (name, rows) ≡ task_of words
unfolding task_of
asks_by words m name rows found named_so with_rows =
    asked (found_in words) name rows
    (named_so ∙ sym (named (out-ArgMatches m).subcommand) ∙ ap (λ (f : Option (Text × List Row)). option_map (λ (p : Text × List Row). p.0) f) found)
    (with_rows ∙ ap (λ (f : Option (Text × List Row)). option_map (λ (p : Text × List Row). p.1) f) found)

-- the words name no subcommand
without : (found : Option (Text × List Row)) → None ≡ option_map (λ (p : Text × List Row). p.1) found → Simulate None ≡ option_map_or task_by found (Simulate None)
without None is = refl
without (Some p) is = absurd cc

pub asks_for_none : (words : List Text) (m : ArgMatches) → subcommand_rows_of m ≡ found_in words → None ≡ option_map (λ (p : Text × List Row). p.1) (subcommand_rows (out-ArgMatches m).subcommand)
    → Simulate None ≡ task_of words
unfolding task_of
asks_for_none words m found none = without (found_in words) (none ∙ ap (λ (f : Option (Text × List Row)). option_map (λ (p : Text × List Row). p.1) f) found)

-- an error of one of these kinds
pub refused_by : {T : Type 0} (kinds : Kinds) (r : Result T Error) (e : Error) → IsErrAnd r (λ f. f ≡ e) → HasKind kinds e → FailsBy kinds r
refused_by kinds (Ok x) e is has = absurd is
refused_by kinds (Err f) e is has = subst (λ g. HasKind kinds g) (sym is) has
