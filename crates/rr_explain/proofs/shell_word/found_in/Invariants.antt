use Rattle.std.proofs.Common.{◌≡◌, drop}
use Rattle.rr_types.specs.Commands.{find_by}
use Rattle.rr_explain.specs.ShellWords.{word_text}
use Rattle.rr_explain.proofs.shell_word.found_in.Given as goal

-- none of the words before is it
abbrev pub invariant-loop-word : goal.invariant-loop-word
invariant-loop-word l = find_by word_text l.text (drop l.word-index l.words) ≡ find_by word_text l.text l.words
