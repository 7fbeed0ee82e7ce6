-- The text of a script.
use Rattle.std.specs.Prelude.{ℕ, List, [], ◌∷◌, ◌++◌, codes, decimal}
use Rattle.std.specs.List.{flat_map}
use Rattle.rr_types.specs.declared.input.Input.TheVariants as input
use Rattle.rr_text.specs.Events.{told_at}
use Rattle.rr_text.specs.Words.{spaced}
use Rattle.rr_text.specs.ScheduleTexts.{event_words}
use Rattle.rr_text.specs.declared.script_line.ScriptLine.{ScriptLine}
use Rattle.rr_text.specs.declared.script_line.ScriptLine.TheVariants.{Submit, Look}

-- a line of a script as words: a submit as a schedule has it, or the node and the name of a look
abbrev pub script_words : ScriptLine → List (List ℕ)
script_words (Submit p c) = event_words (told_at p (input.Submit c))
script_words (Look p name) = codes "look" ∷ decimal p ∷ name ∷ []

-- a line of a script: its words, divided by one space, and a line feed
abbrev pub script_line : ScriptLine → List ℕ
script_line l = spaced (script_words l) ++ 10 ∷ []

-- the text of a script: its lines
abbrev pub script_text : List ScriptLine → List ℕ
script_text lines = flat_map script_line lines
