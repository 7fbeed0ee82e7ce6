-- Reading the words of a script from left to right: what each reader of the code gives.
use Rattle.std.specs.Prelude.{ℕ, if◌then◌else◌, List, codes, Option, None, Some}
use Rattle.std.specs.Str.{bytes_eq}
use Rattle.rr_text.specs.Reading.{◌>>=◌, cut_at, name_at, first_node_at, submitted_at}
use Rattle.rr_text.specs.declared.script_line.ScriptLine.{ScriptLine}
use Rattle.rr_text.specs.declared.script_line.ScriptLine.TheVariants.{Submit, Look}

-- a submit to one of n nodes
abbrev pub submit_at : ℕ → List ℕ → Option ScriptLine
submit_at n text = first_node_at n text >>= λ p. submitted_at p.1 >>= λ c. Some (Submit p.0 c)

-- a look at one of n nodes
abbrev pub look_at : ℕ → List ℕ → Option ScriptLine
look_at n text = first_node_at n text >>= λ p. name_at p.1 >>= λ name. Some (Look p.0 name)

-- a line of this first word, from the text behind it
abbrev pub script_line_from : ℕ → List ℕ × List ℕ → Option ScriptLine
script_line_from n w = if bytes_eq w.0 (codes "submit") then submit_at n w.1 else (if bytes_eq w.0 (codes "look") then look_at n w.1 else None)

-- a line that asks one of n nodes
abbrev pub script_line_at : ℕ → List ℕ → Option ScriptLine
script_line_at n text = cut_at 32 text >>= script_line_from n
