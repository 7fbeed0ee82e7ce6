-- Arguments and commands that are changed a part at a time, and what is read of them.
use Rattle.std.proofs.Common.{◌≡◌, ◌∙◌, ap, ℕ, List, Option, Some, true, Bool}
use Rattle.std.specs.Borrow.{Bor}
use Rattle.clap.specs.Words.{App}
use Rattle.clap.specs.Walk.{Rule, rule_of}
use Rattle.clap.specs.Simple.{app_of_fields, on_top}
use Rattle.clap.specs.declared.builder.arg.Arg.{Arg}
use Rattle.clap.specs.declared.builder.action.ArgAction.{ArgAction}
use Rattle.clap.specs.declared.builder.value_parser.ValueParser.{ValueParser}
use Rattle.clap.specs.declared.builder.command.Command.{Command}
use Rattle.clap.specs.declared.builder.command.Command.TheOpen.{Command-F}
use Rattle.clap.specs.declared.builder.command.Command.TheViews.{out-Command}
use Rattle.rr_words.specs.Lines.{IsArg, IsLine}

abbrev has_globals : Command-F Command → Bool
has_globals f = f.has_globals

-- the help of an argument isn't read
pub helped : {rule : Rule} {old new : Arg} {text : Option (Bor (List ℕ))} → IsArg rule old → new ≡ record old { help = text } → IsArg rule new
helped is by = record { reads = ap rule_of by ∙ is.reads; local = ap (λ (a : Arg). a.global) by ∙ is.local }

pub named : {rule : Rule} {old new : Arg} {name : Bor (List ℕ)} → IsArg rule old → new ≡ record old { long = Some name } → IsArg (record rule { long = Some name.now }) new
named {rule} {old} {new} {name} is by = record { reads = ap rule_of by ∙ ap (λ (r : Rule). record r { long = Some name.now }) is.reads; local = ap (λ (a : Arg). a.global) by ∙ is.local }

pub wanted : {rule : Rule} {old new : Arg} {yes : Bool} → IsArg rule old → new ≡ record old { required = yes } → IsArg (record rule { required = yes }) new
wanted {rule} {old} {new} {yes} is by = record { reads = ap rule_of by ∙ ap (λ (r : Rule). record r { required = yes }) is.reads; local = ap (λ (a : Arg). a.global) by ∙ is.local }

pub acting : {rule : Rule} {old new : Arg} {action : ArgAction} → IsArg rule old → new ≡ record old { action = Some action } → IsArg (record rule { action = Some action }) new
acting {rule} {old} {new} {action} is by = record { reads = ap rule_of by ∙ ap (λ (r : Rule). record r { action = Some action }) is.reads; local = ap (λ (a : Arg). a.global) by ∙ is.local }

pub lettered : {rule : Rule} {old new : Arg} {letter : ℕ} → IsArg rule old → new ≡ record old { short = Some letter } → IsArg (record rule { short = Some letter }) new
lettered {rule} {old} {new} {letter} is by = record { reads = ap rule_of by ∙ ap (λ (r : Rule). record r { short = Some letter }) is.reads; local = ap (λ (a : Arg). a.global) by ∙ is.local }

pub parsed : {rule : Rule} {old new : Arg} {parser : ValueParser} → IsArg rule old → new ≡ record old { value_parser = new.value_parser } → new.value_parser ≡ Some parser → IsArg (record rule { parser = Some parser }) new
parsed {rule} {old} {new} {parser} is by given = record { reads = ap rule_of by ∙ ap (λ (p : Option ValueParser). record (rule_of old) { parser = p }) given ∙ ap (λ (r : Rule). record r { parser = Some parser }) is.reads; local = ap (λ (a : Arg). a.global) by ∙ is.local }

-- what a command is about isn't read, nor what its long help ends with
pub about : {line : App} {old new : Command} {text : Option (Bor (List ℕ))} → IsLine line old → out-Command new ≡ record (out-Command old) { about = text } → IsLine line new
about is by = record { reads = ap app_of_fields by ∙ is.reads; local = ap has_globals by ∙ is.local }

pub ended : {line : App} {old new : Command} {text : Option (Bor (List ℕ))} → IsLine line old → out-Command new ≡ record (out-Command old) { after_long_help = text } → IsLine line new
ended is by = record { reads = ap app_of_fields by ∙ is.reads; local = ap has_globals by ∙ is.local }

pub versioned : {line : App} {old new : Command} {text : Bor (List ℕ)} → IsLine line old → out-Command new ≡ record (out-Command old) { version = Some text } → IsLine (on_top (λ s. record s { has_version = true }) line) new
versioned is by = record { reads = ap app_of_fields by ∙ ap (on_top (λ s. record s { has_version = true })) is.reads; local = ap has_globals by ∙ is.local }

pub helping : {line : App} {old new : Command} {yes : Bool} → IsLine line old → out-Command new ≡ record (out-Command old) { arg_required_else_help = yes } → IsLine (on_top (λ s. record s { arg_required_else_help = yes }) line) new
helping {line} {old} {new} {yes} is by = record { reads = ap app_of_fields by ∙ ap (on_top (λ s. record s { arg_required_else_help = yes })) is.reads; local = ap has_globals by ∙ is.local }

pub commanding : {line : App} {old new : Command} {yes : Bool} → IsLine line old → out-Command new ≡ record (out-Command old) { subcommand_required = yes } → IsLine (on_top (λ s. record s { subcommand_required = yes }) line) new
commanding {line} {old} {new} {yes} is by = record { reads = ap app_of_fields by ∙ ap (on_top (λ s. record s { subcommand_required = yes })) is.reads; local = ap has_globals by ∙ is.local }
