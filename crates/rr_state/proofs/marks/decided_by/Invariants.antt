use Rattle.std.proofs.Common.{◌≡◌, ◌<◌, None, drop, option_map, IfSome}
use Rattle.rr_state.specs.Marked.{decided_by}
use Rattle.rr_state.proofs.marks.decided_by.Given as goal

-- what is left leads to what all the facts decide
abbrev pub invariant-loop-fact : goal.invariant-loop-fact
invariant-loop-fact l =
    record {
      left : decided_by (option_map (λ v. v.now) l.decided) l.number (drop l.fact-index l.facts) ≡ decided_by None l.number l.facts;
      range : IfSome l.decided (λ v. l.number < 1048576);
    }
