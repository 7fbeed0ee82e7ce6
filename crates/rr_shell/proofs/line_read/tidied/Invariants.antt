use Rattle.std.proofs.Common.{◌≡◌, drop}
use Rattle.rr_shell.specs.Lines.{tidied, tidied_on}
use Rattle.rr_shell.proofs.line_read.tidied.Given as goal

-- what is read, and what is left, make the whole
abbrev pub invariant-loop-byte : goal.invariant-loop-byte
invariant-loop-byte l = tidied_on l.read.items l.seen (drop l.byte-index l.line) ≡ tidied l.line
