use Rattle.std.proofs.Common.{◌≡◌, ◌++◌, drop, map}
use Rattle.std.specs.List.{flat_map}
use Rattle.rr_account.specs.Counts.{refusals_by, said_in}
use Rattle.rr_account.proofs.statistics.rows_of.Given as goal

-- what is said so far and what is left to say are the whole
abbrev pub invariant-loop-refusal : goal.invariant-loop-refusal
invariant-loop-refusal l = map said_in l.rows.items ++ flat_map (refusals_by l.lines) (drop l.refusal-index l.refusals) ≡ flat_map (refusals_by l.lines) l.refusals
