-- What is printed and what is left make the whole.
use Rattle.std.proofs.Common.{◌≡◌, ◌++◌, drop}
use Rattle.std.specs.List.{flat_map}
use Rattle.rr_explain.specs.ShellWords.{help_line}
use Rattle.rr_explain.proofs.shell_word.push_help_lines.Given as goal

abbrev pub invariant-loop-word : goal.invariant-loop-word
invariant-loop-word l = l.out.items ++ flat_map help_line (drop l.word-index l.words) ≡ l.fn.out.items ++ flat_map help_line l.words
