-- The command line of rr. Its parts are folded: a proof that needs what one says unfolds it.
use Rattle.std.specs.Prelude.{◌≡◌, ℕ, Bool, true, false, Some, codes}
use Rattle.clap.specs.Words.{App, Text, app_of, new_app, new_rule, rule_of, with_rule, with_subcommand}
use Rattle.clap.specs.Walk.{Rule}
use Rattle.clap.specs.Simple.{on_top}
use Rattle.clap.specs.declared.builder.arg.Arg.{Arg}
use Rattle.clap.specs.declared.builder.command.Command.{Command}
use Rattle.clap.specs.declared.builder.command.Command.TheViews.{out-Command}
use Rattle.clap.specs.declared.builder.action.ArgAction.TheVariants.{Append, SetTrue}
use Rattle.clap.specs.declared.builder.value_parser.ValueParser.TheVariants.{Unsigned}

-- an argument of this rule, which is of one command alone
pub record IsArg (rule : Rule) (arg : Arg) : Type 0 where
  pub reads : rule_of arg ≡ rule
  pub local : arg.global ≡ false

-- a command of this line, whose arguments are of it alone
pub record IsLine (line : App) (command : Command) : Type 0 where
  pub reads : app_of command ≡ line
  pub local : (out-Command command).has_globals ≡ false

-- a word, which has to be there or may be left out
abbrev pub word_rule : Text → Bool → Rule
word_rule id wanted = record (new_rule id) { required = wanted }

-- an option of this name
abbrev pub named_rule : Text → Text → Rule
named_rule id long = record (new_rule id) { long = Some long }

-- an option that may be left out, with a number in a range
abbrev pub optional_number_rule : Text → Text → ℕ → ℕ → Rule
optional_number_rule id long least most = record (named_rule id long) { parser = Some (Unsigned least most) }

-- an option that has to be there, with a number in a range
abbrev pub number_rule : Text → Text → ℕ → ℕ → Rule
number_rule id long least most = record (optional_number_rule id long least most) { required = true }

-- an option with a text, which has to be there or may be left out
abbrev pub option_rule : Text → Text → Bool → Rule
option_rule id long wanted = record (named_rule id long) { required = wanted }

-- an option without a text, which may be left out
abbrev pub flag_rule : Text → Text → Rule
flag_rule id long = record (named_rule id long) { action = Some SetTrue }

-- an option with a text, of one letter too, which may be left out or given more than once
abbrev pub lines_rule : Text → Text → ℕ → Rule
lines_rule id long letter = record (record (named_rule id long) { short = Some letter }) { action = Some Append }

-- the option for the milliseconds between two ticks of a node, from 10 to 10000, which may be left out
abbrev pub tick_rule : Rule
tick_rule = optional_number_rule (codes "TICK") (codes "tick") 10 10000

-- the option for nodes that are left down, which may be left out
abbrev pub without_rule : Rule
without_rule = option_rule (codes "WITHOUT") (codes "without") false

-- one argument more
unfoldable pub with_arg : App → Rule → App
with_arg line rule = with_rule line rule

-- the subcommand sim, with a FILE that may be left out, and the options for reasons and for JSON
unfoldable pub told_line : App
told_line =
    with_arg (with_arg (with_arg (new_app (codes "sim"))
    (word_rule (codes "FILE") false))
    (flag_rule (codes "EXPLAIN") (codes "explain")))
    (flag_rule (codes "JSON") (codes "json"))

-- the same with the options for a finish, and for its events alone
unfoldable pub sim_line : App
sim_line = with_arg (with_arg told_line (flag_rule (codes "FINISH") (codes "finish"))) (flag_rule (codes "ALONE") (codes "schedule-only"))

-- the subcommand stats, with a FILE that may be left out, and the options for JSON and for a tape
unfoldable pub stats_line : App
stats_line =
    with_arg (with_arg (with_arg (new_app (codes "stats"))
    (word_rule (codes "FILE") false))
    (flag_rule (codes "JSON") (codes "json")))
    (flag_rule (codes "TAPE") (codes "tape"))

-- the subcommand check, with a FILE and a REPORT
unfoldable pub check_line : App
check_line = with_arg (with_arg (new_app (codes "check")) (word_rule (codes "FILE") true)) (word_rule (codes "REPORT") true)

-- the subcommand show, with a DIR and the option for JSON
unfoldable pub show_line : App
show_line = with_arg (with_arg (new_app (codes "show")) (word_rule (codes "DIR") true)) (flag_rule (codes "JSON") (codes "json"))

-- the subcommand random, with a seed, a number of steps and a number of nodes
unfoldable pub numbers_line : App
numbers_line =
    with_arg (with_arg (with_arg (new_app (codes "random"))
    (number_rule (codes "SEED") (codes "seed") 0 18446744073709551615))
    (number_rule (codes "STEPS") (codes "steps") 0 999930))
    (number_rule (codes "NODES") (codes "nodes") 1 7)

-- the same with the option for lively schedules, the number of their faults, which may be left out, and the options for a
-- finish, for the schedule alone and for JSON
unfoldable pub random_line : App
random_line =
    with_arg (with_arg (with_arg (with_arg (with_arg numbers_line
    (flag_rule (codes "LIVELY") (codes "lively")))
    (optional_number_rule (codes "FAULTS") (codes "faults") 0 1000))
    (flag_rule (codes "FINISH") (codes "finish")))
    (flag_rule (codes "ALONE") (codes "schedule-only")))
    (flag_rule (codes "JSON") (codes "json"))

-- the subcommand audit, with a FILE that may be left out, and the options for reasons and for JSON
unfoldable pub audit_line : App
audit_line =
    with_arg (with_arg (with_arg (new_app (codes "audit"))
    (word_rule (codes "FILE") false))
    (flag_rule (codes "EXPLAIN") (codes "explain")))
    (flag_rule (codes "JSON") (codes "json"))

-- the subcommand run, with a number of nodes, the folder of their folders, the file of a script, the file for a tape, the time
-- between ticks and the nodes that are left down, which may be left out, and the option for JSON
unfoldable pub run_line : App
run_line =
    with_arg
    (with_arg
    (with_arg
    (with_arg
    (with_arg (with_arg (with_arg (new_app (codes "run"))
    (number_rule (codes "NODES") (codes "nodes") 1 7))
    (option_rule (codes "DIR") (codes "dir") true))
    (option_rule (codes "SCRIPT") (codes "script") true))
    (option_rule (codes "TAPE") (codes "tape") false))
    tick_rule)
    without_rule)
    (flag_rule (codes "JSON") (codes "json"))

-- the subcommand shell, with a number of nodes, the folder of their folders, the number of a client and lines, all of which
-- may be left out
unfoldable pub asking_line : App
asking_line =
    with_arg
    (with_arg (with_arg (with_arg (new_app (codes "shell"))
    (optional_number_rule (codes "NODES") (codes "nodes") 1 7))
    (option_rule (codes "DIR") (codes "dir") false))
    (optional_number_rule (codes "CLIENT") (codes "client") 0 4294967295))
    (lines_rule (codes "LINE") (codes "command") 99)

-- the same with the options for the time between ticks, for nodes that are left down, for an end at the first line that isn't
-- answered as asked, and for JSON
unfoldable pub shell_line : App
shell_line =
    with_arg (with_arg (with_arg (with_arg asking_line
    tick_rule)
    without_rule)
    (flag_rule (codes "STRICT") (codes "strict")))
    (flag_rule (codes "JSON") (codes "json"))

-- the subcommand sweep, with a FILE that may be left out, and a seed
unfoldable pub sweep_line : App
sweep_line = with_arg (with_arg (new_app (codes "sweep")) (word_rule (codes "FILE") false)) (number_rule (codes "SEED") (codes "seed") 0 18446744073709551615)

-- the subcommand draw, with a FILE, the first line and the last one, a node and an instance, and the options for requests, for a
-- tape and for a page, all of which may be left out
unfoldable pub draw_line : App
draw_line =
    with_arg
    (with_arg
    (with_arg
    (with_arg
    (with_arg
    (with_arg (with_arg (with_arg (new_app (codes "draw"))
    (word_rule (codes "FILE") false))
    (optional_number_rule (codes "FROM") (codes "from") 1 4294967295))
    (optional_number_rule (codes "TO") (codes "to") 1 4294967295))
    (optional_number_rule (codes "NODE") (codes "node") 0 6))
    (optional_number_rule (codes "INSTANCE") (codes "instance") 0 1048575))
    (flag_rule (codes "REQUESTS") (codes "requests")))
    (flag_rule (codes "TAPE") (codes "tape")))
    (flag_rule (codes "HTML") (codes "html"))

-- the subcommand migrate, with a DIR, the number of a node and a number of nodes
unfoldable pub migrate_line : App
migrate_line =
    with_arg (with_arg (with_arg (new_app (codes "migrate"))
    (word_rule (codes "DIR") true))
    (number_rule (codes "NODE") (codes "node") 0 6))
    (number_rule (codes "NODES") (codes "nodes") 1 7)

-- the subcommand replace, with a DIR, the number of a node, the nodes that are left down and the time between ticks, which may be left out, and
-- the option for telling alone
unfoldable pub replace_line : App
replace_line =
    with_arg (with_arg (with_arg (with_arg (with_arg (new_app (codes "replace"))
    (word_rule (codes "DIR") true))
    (number_rule (codes "NODE") (codes "node") 0 6))
    without_rule)
    tick_rule)
    (flag_rule (codes "DRY") (codes "dry-run"))

-- the subcommand verify, with a DIR and the option for JSON
unfoldable pub verify_line : App
verify_line = with_arg (with_arg (new_app (codes "verify")) (word_rule (codes "DIR") true)) (flag_rule (codes "JSON") (codes "json"))

-- the subcommand export, with a DIR and the options for the decided list and for JSON
unfoldable pub export_line : App
export_line =
    with_arg (with_arg (with_arg (new_app (codes "export"))
    (word_rule (codes "DIR") true))
    (flag_rule (codes "LIST") (codes "list")))
    (flag_rule (codes "JSON") (codes "json"))

-- a command with a version
unfoldable pub with_version : App → App
with_version = on_top (λ s. record s { has_version = true })

-- a command with a version, which needs a subcommand
unfoldable pub rr_settings : App → App
rr_settings line = on_top (λ s. record s { arg_required_else_help = true; subcommand_required = true }) (with_version line)

-- one subcommand more
unfoldable pub and_also : App → App → App
and_also above below = with_subcommand above below.top

-- the command line of rr with the subcommands on schedules
unfoldable pub schedule_lines : App
schedule_lines =
    and_also (and_also (and_also (and_also (and_also (and_also (rr_settings (new_app (codes "rr")))
    sim_line) stats_line) check_line) random_line) sweep_line) draw_line

-- the command line of rr
unfoldable pub rr_line : App
rr_line =
    and_also (and_also (and_also (and_also (and_also (and_also (and_also (and_also schedule_lines
    run_line) shell_line) audit_line) show_line) verify_line) export_line) migrate_line) replace_line
