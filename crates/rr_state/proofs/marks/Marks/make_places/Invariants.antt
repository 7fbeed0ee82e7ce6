use Rattle.std.proofs.Common.{◌≡◌, ℕ, IsTrue, take}
use Rattle.std.specs.List.{All}
use Rattle.rr_model.specs.NodeState.{Row}
use Rattle.rr_state.specs.Marked.{tree_in, has_mark_place, AreMarks}
use Rattle.rr_state.proofs.marks.Marks.make_places.Given as goal

-- the rows so far have their places
abbrev pub invariant-loop-row : goal.invariant-loop-row
invariant-loop-row l =
    record {
      value : tree_in l.self ≡ tree_in l.fn.self;
      marks : AreMarks l.fn.self → AreMarks l.self;
      moved : l.self.moved ≡ l.fn.self.moved;
      prefix : l.self.prefix ≡ l.fn.self.prefix;
      made : All (λ (r : Row). IsTrue (has_mark_place l.self r.instance)) (take l.row-index l.rows);
      stay : (i : ℕ) → IsTrue (has_mark_place l.fn.self i) → IsTrue (has_mark_place l.self i);
    }
