-- What the lines of a script are answered that nobody asks.
use Rattle.std.specs.Prelude.{ℕ, if◌then◌else◌, Option, None, Some}
use Rattle.rr_types.specs.Nodes.{has_member}
use Rattle.rr_text.specs.Scripted.{line_node}
use Rattle.rr_text.specs.declared.answer.Answer.{Answer}
use Rattle.rr_text.specs.declared.answer.Answer.TheVariants.{Unacknowledged, Unseen}
use Rattle.rr_text.specs.declared.script_line.ScriptLine.{ScriptLine}
use Rattle.rr_text.specs.declared.script_line.ScriptLine.TheVariants.{Submit, Look}

-- a node that is down acknowledges no submit, and a look at it sees nothing
abbrev pub unasked : ScriptLine → Answer
unasked (Submit p c) = Unacknowledged p c.request
unasked (Look p name) = Unseen p name

-- what a line is answered before any is asked, where these nodes are left out: a line of one of them as by a node that is down
abbrev pub first_answer : ℕ → ScriptLine → Option Answer
first_answer without line = if has_member without (line_node line) then Some (unasked line) else None
