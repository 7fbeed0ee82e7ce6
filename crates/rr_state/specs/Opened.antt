-- The open instances of the rows, and what holds of rows, window of open instances and marks together.
use Rattle.std.specs.Prelude.{◌≡◌, ℕ, false, List, None}
use Rattle.rr_types.specs.Limits.{open_count}
use Rattle.rr_model.specs.NodeState.{Row, row_of, lowest_undecided}
use Rattle.rr_state.specs.Rowed.{AscendFrom, AreInstances}
use Rattle.rr_state.specs.Marked.{has_mark_place, AreMarks, HaveMoved, IsCounted}
use Rattle.rr_state.specs.declared.marks.Marks.{Marks}

-- the open instances: the eight lowest undecided ones
unfoldable pub open_in : List Row → List ℕ
open_in rows = lowest_undecided open_count 0 rows

-- each instance that has a row can be marked without memory
abbrev pub ArePlaced : List Row → Marks → Type 0
ArePlaced rows marks = (i : ℕ) → has_mark_place marks i ≡ false → row_of rows i ≡ None

-- the window shows the open instances of the rows, which ascend, and the marks are in order
pub record IsListed (rows : List Row) (window : List ℕ) (marks : Marks) : Type 0 where
  pub shown : window ≡ open_in rows
  pub ascend : AscendFrom 0 rows
  pub instances : AreInstances rows
  pub in_order : AreMarks marks
  pub moved : HaveMoved rows marks
  pub counted : IsCounted rows marks
  pub placed : ArePlaced rows marks
