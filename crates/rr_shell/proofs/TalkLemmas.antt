-- What is said to a line that was read.
use Rattle.std.proofs.Common.{◌≡◌, ◌∙◌, ℕ, Bool, Option, None, Some, Ok, ap}
use Rattle.std.specs.Prelude.{Vec}
use Rattle.std.specs.declared.alloc.Global.{Global}
use Rattle.rr_shell.specs.declared.hearing.Heard.TheVariants as heard
use Rattle.rr_shell.specs.declared.shell_line.ShellLine.{ShellLine}
use Rattle.rr_shell.specs.declared.saying.Said.{Said}
use Rattle.rr_shell.specs.Lines.{shell_line_at}
use Rattle.rr_shell.specs.Deeds.{Deed}
use Rattle.rr_shell.specs.Talks.{IsSaidToRequest, IsSaidTo, line_of, granted}

pub said_to_line : (Did : Deed → Type 0) (json : Bool) (n p : ℕ) (line : Vec ℕ Global) (asks : ShellLine) (said : Option Said) → shell_line_at n (line_of line) ≡ Ok asks → IsSaidToRequest Did json n p asks said → IsSaidTo Did json n p (heard.Line line) said
said_to_line Did json n p line asks None read is = read ∙ ap (λ (l : ShellLine). Ok l) is
said_to_line Did json n p line asks (Some said) read is = granted line asks said.node said.text.items said.trouble said.watched read is
