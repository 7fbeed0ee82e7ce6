-- Command lines that are built by parts.
use Rattle.std.proofs.Common.{Result, ◌≡◌, ◌∙◌, ap, ap₂, ◌||◌}
use Rattle.clap.specs.Words.{AddsArg, AddsSubcommand, App, app_of, with_rule, with_subcommand}
use Rattle.clap.specs.Walk.{Rule}
use Rattle.clap.specs.declared.builder.arg.Arg.{Arg}
use Rattle.clap.specs.declared.builder.command.Command.{Command}
use Rattle.std.specs.Prelude.{IfOk}
use Rattle.std.proofs.lemmas.Result.{IfOk-weaker}
use Rattle.std.specs.declared.alloc.AllocError.{AllocError}
use Rattle.rr_words.specs.Lines.{IsArg, IsLine, and_also, with_arg}

-- one argument more
pub adds_arg : {line : App} {rule : Rule} {old new : Command} {arg : Arg} → IsLine line old → AddsArg old arg new → IsArg rule arg → IsLine (with_arg line rule) new
unfolding with_arg
adds_arg before added is = record {
  reads = added.shape is.local ∙ ap₂ with_rule before.reads is.reads;
  local = added.globals ∙ ap₂ (λ a b. a || b) before.local is.local;
}

pub last_arg : {line : App} {rule : Rule} {old : Command} {arg : Arg} (r : Result Command AllocError) → IsLine line old → IfOk r (AddsArg old arg) → IsArg rule arg → IfOk r (IsLine (with_arg line rule))
last_arg r before added is = IfOk-weaker r _ _ (λ new adds. adds_arg before adds is) added

-- one subcommand more
pub adds_line : {above line : App} {old new sub : Command} → app_of old ≡ above → AddsSubcommand old sub new → IsLine line sub → app_of new ≡ and_also above line
unfolding and_also
adds_line before added is = added.shape is.local ∙ ap₂ with_subcommand before (ap (λ (a : App). a.top) is.reads)
