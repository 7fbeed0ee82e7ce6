use Rattle.std.proofs.Common.{◌≡◌, ◌≤◌, ◌++◌, ℕ, map, take, drop}
use Rattle.std.specs.List.{AllByRecursion}
use Rattle.rr_text.specs.declared.script_line.ScriptLine.TheVariants.{Submit}
use Rattle.rr_text.specs.Scripted.{IsScriptLine}
use Rattle.rr_folders.specs.Exports.{claims_behind, export_of}
use Rattle.rr_folders.proofs.exporting.claims.Given as goal

-- the lines so far and the claims that are left
abbrev pub invariant-loop-place : goal.invariant-loop-place
invariant-loop-place l =
    (l.lines.items ++ map (λ c. Submit 0 c) (claims_behind (take l.place l.names) (drop l.place l.names)) ≡ export_of l.names)
    × ((n : ℕ) → 1 ≤ n → AllByRecursion (IsScriptLine n) l.lines.items)
