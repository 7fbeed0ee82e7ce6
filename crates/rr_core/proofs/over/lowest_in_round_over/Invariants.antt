use Rattle.std.proofs.Common.{◌≡◌, ◌≤◌, ◌-◌, nat_lt, find, option_map}
use Rattle.rr_types.specs.Standings.{round_of}
use Rattle.rr_model.specs.NodeState.{lowest_undecided, row_of}
use Rattle.rr_core.specs.Steps.{put_rows}
use Rattle.rr_core.proofs.over.lowest_in_round_over.Given as goal

abbrev pub invariant-loop-turn : goal.invariant-loop-turn
invariant-loop-turn l = (find (λ i. nat_lt 0 (round_of (option_map (λ r. r.standing) (row_of (put_rows l.changed l.base.rows) i)))) (lowest_undecided (l.count - l._turn) l.from (put_rows l.changed l.base.rows)) ≡ find (λ i. nat_lt 0 (round_of (option_map (λ r. r.standing) (row_of (put_rows l.changed l.base.rows) i)))) (lowest_undecided l.count 0 (put_rows l.changed l.base.rows))) × (l.from ≤ 1048576)
