use Rattle.std.proofs.Common.{◌≡◌, ℕ, drop}
use Rattle.rr_types.specs.Promises.{take_on_all}
use Rattle.rr_state.specs.Listed.{AllInRound}
use Rattle.rr_state.specs.Marked.{tree_in, has_mark_place, AreMarks, facts_from}
use Rattle.rr_state.proofs.marks.Marks.take_on_all.Given as goal

-- what is left leads to what all the facts lead to
abbrev pub invariant-loop-fact : goal.invariant-loop-fact
invariant-loop-fact l =
    record {
      left : take_on_all (tree_in l.self) (facts_from l.fn.self.prefix (drop l.fact-index l.facts)) ≡ take_on_all (tree_in l.fn.self) (facts_from l.fn.self.prefix l.facts);
      marks : AreMarks l.self;
      rounds : AllInRound (tree_in l.self) (facts_from l.fn.self.prefix (drop l.fact-index l.facts));
      moved : l.self.moved ≡ l.fn.self.moved;
      prefix : l.self.prefix ≡ l.fn.self.prefix;
      places : (i : ℕ) → has_mark_place l.self i ≡ has_mark_place l.fn.self i;
    }
