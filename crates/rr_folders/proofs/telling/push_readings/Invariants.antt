use Rattle.std.proofs.Common.{◌≡◌, ◌++◌, drop}
use Rattle.rr_folders.specs.Texts.{reading_lines}
use Rattle.rr_folders.proofs.telling.push_readings.Given as goal

-- what is printed and what is left make the whole
abbrev pub invariant-loop-place : goal.invariant-loop-place
invariant-loop-place l = l.out.items ++ reading_lines l.form l.place (drop l.place l.readings) ≡ l.fn.out.items ++ reading_lines l.form 0 l.readings
