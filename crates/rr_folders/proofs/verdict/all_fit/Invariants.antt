use Rattle.std.proofs.Common.{◌≡◌, length, drop}
use Rattle.rr_folders.specs.Agreement.{all_fit_from}
use Rattle.rr_folders.proofs.verdict.all_fit.Given as goal

-- what is left tells what all do
abbrev pub invariant-loop-place : goal.invariant-loop-place
invariant-loop-place l = all_fit_from (length l.readings) l.place (drop l.place l.readings) ≡ all_fit_from (length l.readings) 0 l.readings
