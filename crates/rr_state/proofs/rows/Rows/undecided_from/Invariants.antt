use Rattle.std.proofs.Common.{◌≡◌, ◌≤◌, ◌-◌, ℕ, drop}
use Rattle.rr_model.specs.NodeState.{lowest_undecided}
use Rattle.rr_state.proofs.rows.Rows.undecided_from.Given as goal

-- the open instances from here on are the lowest from a number on that isn't above what is looked for
abbrev pub invariant-loop-instance : goal.invariant-loop-instance
invariant-loop-instance l = (i : ℕ) × (i ≤ l.from) × (drop l.instance-index l.instances ≡ lowest_undecided (8 - l.instance-index) i l.self)
