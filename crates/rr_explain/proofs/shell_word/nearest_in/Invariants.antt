use Rattle.std.proofs.Common.{◌≡◌, drop}
use Rattle.rr_explain.specs.ShellWords.{nearest_of}
use Rattle.rr_explain.proofs.shell_word.nearest_in.Given as goal

-- none of the words before is it
abbrev pub invariant-loop-word : goal.invariant-loop-word
invariant-loop-word l = nearest_of l.text (drop l.word-index l.words) ≡ nearest_of l.text l.words
