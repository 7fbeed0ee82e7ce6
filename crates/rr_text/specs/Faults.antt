-- Why bytes are no script.
use Rattle.std.specs.Prelude.{◌≡◌, ℕ, ◌+◌, ◌<◌, List, ◌++◌, length}
use Rattle.std.specs.List.{AllByRecursion}
use Rattle.rr_types.specs.declared.refusal.Refusal.{Refusal}
use Rattle.rr_types.specs.declared.refusal.Refusal.TheVariants.{OutOfMemory, BadEvent}
use Rattle.rr_text.specs.Lines.{HasNoLine}
use Rattle.rr_text.specs.declared.script_line.ScriptLine.{ScriptLine}
use Rattle.rr_text.specs.Scripted.{IsScriptLine}
use Rattle.rr_text.specs.ScriptTexts.{script_line, script_text}

-- the line of this number, from 1, is the first that has no place in a script for n nodes: lines stand before it, there are
-- bytes at it, and they don't begin with a line
pub record HasNoPlace (n : ℕ) (bytes : List ℕ) (number : ℕ) : Type 0 where
  pub before : List ScriptLine
  pub rest : List ℕ
  pub each : AllByRecursion (IsScriptLine n) before
  pub split : bytes ≡ script_text before ++ rest
  pub counted : number ≡ length before + 1
  pub some : 0 < length rest
  pub fault : HasNoLine (IsScriptLine n) script_line rest

-- why bytes are no script for n nodes, memory aside
abbrev pub IsScriptFault : ℕ → List ℕ → Refusal → Type 0
IsScriptFault n bytes OutOfMemory = Unit {0}
IsScriptFault n bytes (BadEvent number) = HasNoPlace n bytes number
IsScriptFault n bytes _ = ⊥
