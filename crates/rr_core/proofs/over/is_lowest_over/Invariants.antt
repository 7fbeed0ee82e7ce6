use Rattle.std.proofs.Common.{◌≡◌, ◌≤◌, ◌-◌, eqb}
use Rattle.std.specs.List.{list_any}
use Rattle.rr_model.specs.NodeState.{lowest_undecided}
use Rattle.rr_core.specs.Steps.{put_rows}
use Rattle.rr_core.proofs.over.is_lowest_over.Given as goal

abbrev pub invariant-loop-turn : goal.invariant-loop-turn
invariant-loop-turn l = (list_any (λ j. eqb j l.instance) (lowest_undecided (l.count - l._turn) l.from (put_rows l.changed l.base.rows)) ≡ list_any (λ j. eqb j l.instance) (lowest_undecided l.count 0 (put_rows l.changed l.base.rows))) × (l.from ≤ 1048576)
