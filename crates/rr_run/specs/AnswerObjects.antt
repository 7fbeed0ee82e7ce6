-- The answers to a script as JSON: an object each.
use Rattle.std.specs.Prelude.{ℕ, List, ◌++◌, codes}
use Rattle.std.specs.List.{flat_map}
use Rattle.rr_text.specs.declared.report.ReportLine.TheVariants as lines
use Rattle.rr_text.specs.declared.answer.Answer.{Answer}
use Rattle.rr_text.specs.declared.answer.Answer.TheVariants.{Acknowledged, Unacknowledged, Free, Bound, Unseen}
use Rattle.rr_text.specs.AnswerTexts.{answer_text}
use Rattle.rr_words.specs.declared.tasks.Form.{Form}
use Rattle.rr_words.specs.declared.tasks.Form.TheVariants.{Plain, Json}
use Rattle.rr_json.specs.Json.{text_member, words_member, number_member, object_line}
use Rattle.rr_json.specs.Objects.{line_object}

-- the members of a look: the node, and the name
abbrev pub look_members : ℕ → List ℕ → List ℕ
look_members p name = number_member (codes "node") p ++ text_member (codes "name") name

-- an answer: an acknowledgement as a report has it, a request without one, or what a look saw
abbrev pub answer_object : Answer → List ℕ
answer_object (Acknowledged p q r) = line_object (lines.Ack p q r)
answer_object (Unacknowledged p q) =
    object_line (codes "none") (number_member (codes "node") p ++ number_member (codes "client") q.client ++ number_member (codes "request") q.seq)
answer_object (Free p name) = object_line (codes "free") (look_members p name)
answer_object (Bound p name owner value) =
    object_line (codes "bound") (look_members p name ++ number_member (codes "owner") owner ++ words_member (codes "value") value)
answer_object (Unseen p name) = object_line (codes "unseen") (look_members p name)

-- answers, an object each, in their order
abbrev pub answer_objects : List Answer → List ℕ
answer_objects answers = flat_map answer_object answers

-- answers in this form
abbrev pub answers_in : Form → List Answer → List ℕ
answers_in Plain answers = answer_text answers
answers_in Json answers = answer_objects answers
