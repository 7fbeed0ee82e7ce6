-- Request numbers of a script that are decided as other commands.
use Rattle.std.specs.Prelude.{ℕ, Bool, true, false, ◌&&◌, not, nat_lt, List, [], ◌∷◌, slice_get, Option, None, Some}
use Rattle.rr_types.specs.Registry.{is_same_request}
use Rattle.rr_types.specs.Commands.{is_same_op}
use Rattle.rr_types.specs.declared.command.Command.{Command}
use Rattle.rr_text.specs.declared.script_line.ScriptLine.{ScriptLine}
use Rattle.rr_text.specs.declared.script_line.ScriptLine.TheVariants.{Submit, Look}
use Rattle.rr_threads.specs.declared.reused.Reused.{Reused}

-- whether a line submits a command whose request number another command has
abbrev pub is_reused_by : Option ScriptLine → Command → Bool
is_reused_by (Some (Submit p c)) other = is_same_request c.request other.request && not (is_same_op c.op other.op)
is_reused_by line other = false

-- whether the submit at its place in a script has the request number of its command, which is another
abbrev pub is_reused : List ScriptLine → Reused → Bool
is_reused lines r = is_reused_by (slice_get lines r.place) r.command

-- whether each is so, at places that ascend from behind this one on
abbrev pub follow : List ScriptLine → Reused → List Reused → Bool
follow lines last [] = true
follow lines last (r ∷ rs) = nat_lt last.place r.place && is_reused lines r && follow lines r rs

-- whether each is so, at places that ascend
abbrev pub are_reused : List ScriptLine → List Reused → Bool
are_reused lines [] = true
are_reused lines (r ∷ rs) = is_reused lines r && follow lines r rs
