use Rattle.std.proofs.Common.{◌≡◌, ◌++◌, length}
use Rattle.rr_registry.specs.Numbered.{numbered, AscendFrom}
use Rattle.rr_registry.proofs.numbered.close_up.Given as goal

-- a place that moves keeps its number
abbrev pub invariant-loop-low : goal.invariant-loop-low
invariant-loop-low g l =
    record {
      same : numbered 0 l.low.items ++ l.high.entries ≡ numbered 0 l.fn.low.items ++ l.fn.high.entries;
      from : AscendFrom (length l.low.items) l.high.entries;
    }

abbrev pub decreases-loop-low : goal.decreases-loop-low
decreases-loop-low g l = length l.high.entries
