-- A script: how many nodes there are, what is asked of them, and what may stand in it.
use Rattle.std.specs.Prelude.{ℕ, ◌<◌, ◌≤◌, List}
use Rattle.std.specs.List.{AllByRecursion}
use Rattle.rr_types.specs.Names.{IsName}
use Rattle.rr_types.specs.Limits.{max_nodes}
use Rattle.rr_text.specs.Words.{IsCommand}
use Rattle.rr_text.specs.declared.script_line.ScriptLine.{ScriptLine}
use Rattle.rr_text.specs.declared.script_line.ScriptLine.TheVariants.{Submit, Look}

-- a script: how many nodes there are, and what is asked of them
pub record Scripted : Type 0 where
  pub nodes : ℕ
  pub lines : List ScriptLine

-- the node that a line asks
abbrev pub line_node : ScriptLine → ℕ
line_node (Submit p c) = p
line_node (Look p name) = p

-- a line that asks one of n nodes
abbrev pub IsScriptLine : ℕ → ScriptLine → Type 0
IsScriptLine n (Submit p c) = (p < n) × IsCommand c
IsScriptLine n (Look p name) = (p < n) × IsName name

-- a script for 1 to 7 nodes, whose lines ask these
pub record IsScript (s : Scripted) : Type 0 where
  pub some : 1 ≤ s.nodes
  pub few : s.nodes ≤ max_nodes
  pub each : AllByRecursion (IsScriptLine s.nodes) s.lines
