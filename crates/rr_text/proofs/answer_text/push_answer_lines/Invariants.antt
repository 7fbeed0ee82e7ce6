use Rattle.std.proofs.Common.{◌≡◌, ◌++◌, drop}
use Rattle.std.specs.List.{flat_map}
use Rattle.rr_text.specs.AnswerTexts.{answer_line}
use Rattle.rr_text.proofs.answer_text.push_answer_lines.Given as goal

-- what is printed and what is left make the whole
abbrev pub invariant-loop-answer : goal.invariant-loop-answer
invariant-loop-answer l = l.out.items ++ flat_map answer_line (drop l.answer-index l.answers) ≡ l.fn.out.items ++ flat_map answer_line l.answers
