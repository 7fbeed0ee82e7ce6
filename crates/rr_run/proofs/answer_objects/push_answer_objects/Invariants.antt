-- What is printed and what is left make the whole.
use Rattle.std.proofs.Common.{◌≡◌, ◌++◌, drop}
use Rattle.std.specs.List.{flat_map}
use Rattle.rr_run.specs.AnswerObjects.{answer_object}
use Rattle.rr_run.proofs.answer_objects.push_answer_objects.Given as goal

abbrev pub invariant-loop-answer : goal.invariant-loop-answer
invariant-loop-answer l = l.out.items ++ flat_map answer_object (drop l.answer-index l.answers) ≡ l.fn.out.items ++ flat_map answer_object l.answers
