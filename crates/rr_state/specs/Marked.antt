-- How the promise of the marked facts is kept: decided entries that moved to the rows, and a tree of the others.
use Rattle.std.specs.Prelude.{◌≡◌, ℕ, zero, suc, ◌+◌, ◌<◌, ◌≤◌, Bool, true, false, ◌==◌, ◌||◌, nat_lt, if◌then◌else◌, is_some, List, [], ◌∷◌, ◌++◌, length, slice_get, Option, None, Some}
use Rattle.std.specs.Map.{values_of}
use Rattle.std.specs.Ordering.{nat_cmp}
use Rattle.rr_types.specs.declared.command.Command.{Command}
use Rattle.rr_types.specs.declared.fact.Fact.{Fact}
use Rattle.rr_types.specs.declared.fact.Fact.TheVariants.{Enter, Propose, Adopt, Decide}
use Rattle.rr_types.specs.Facts.{instance_of, decision_of}
use Rattle.rr_types.specs.declared.promise.Entry.{Entry}
use Rattle.rr_types.specs.declared.promise.Standing.TheVariants.{Decided}
use Rattle.rr_types.specs.Promises.{AscendsFrom, standing_in, decided_from}
use Rattle.rr_types.specs.Limits.{instance_count}
use Rattle.rr_model.specs.NodeState.{Row}
use Rattle.rr_registry.specs.Places.{filled, has_place}
use Rattle.rr_state.specs.Listed.{decision_at}
use Rattle.rr_state.specs.declared.marks.Marks.{Marks}

-- the entries of a table, which has each at its instance
abbrev pub entries_in : List (ℕ × Entry) → List Entry
entries_in es = values_of es

-- each entry stands at its instance
abbrev pub AreEntered : List (ℕ × Entry) → Type 0
AreEntered [] = Unit {0}
AreEntered (e ∷ es) = (e.0 ≡ e.1.instance) × AreEntered es

-- an entry of what an instance has decided, before others; nothing if it hasn't
abbrev pub with_decision : ℕ → Option Command → List Entry → List Entry
with_decision i None es = es
with_decision i (Some v) es = record { instance = i; standing = Decided v } ∷ es

-- the entries of what so many instances from i on have decided by the rows
abbrev pub decided_entries : List Row → ℕ → ℕ → List Entry
decided_entries rows i zero = []
decided_entries rows i (suc count) = with_decision i (decision_at rows i) (decided_entries rows (i + 1) count)

-- the entries of the tree
abbrev pub tree_in : Marks → List Entry
tree_in m = entries_in (filled m.entries.entries)

-- the promise that the marks make beside these rows
abbrev pub marked_in : List Row → Marks → List Entry
marked_in rows m = decided_entries rows 0 m.moved ++ tree_in m

-- whether an instance can be marked without memory
abbrev pub has_mark_place : Marks → ℕ → Bool
has_mark_place m i = nat_lt i m.moved || has_place nat_cmp m.entries.entries i

-- those that have moved are of the prefix; the tree's entries are at their instances and ascend behind them; none is at
-- 1,048,576 or above
pub record AreMarks (m : Marks) : Type 0 where
  pub moved : m.moved ≤ m.prefix
  pub small : m.moved ≤ instance_count
  pub entered : AreEntered (filled m.entries.entries)
  pub behind : AscendsFrom m.moved (tree_in m)
  pub instances : (i : ℕ) → instance_count ≤ i → standing_in (tree_in m) i ≡ None

-- those that have moved have decided by the rows
abbrev pub HaveMoved : List Row → Marks → Type 0
HaveMoved rows m = (i : ℕ) → i < m.moved → is_some (decision_at rows i) ≡ true

-- the tree's first entry is that of the instance behind those that have moved. It belongs to the prefix and has decided v, as its
-- row has
pub record IsNext (rows : List Row) (m : Marks) (v : Command) : Type 0 where
  pub first : slice_get m.entries.entries 0 ≡ Some (m.moved, Some (record { instance = m.moved; standing = Decided v }))
  pub below : m.moved < m.prefix
  pub row : decision_at rows m.moved ≡ Some v

-- the count is that of the decided prefix
pub record IsCounted (rows : List Row) (m : Marks) : Type 0 where
  pub count : m.prefix ≡ length (decided_from 0 (marked_in rows m))
  pub small : m.prefix ≤ instance_count

-- each place below the count is of the decided prefix
abbrev pub IsBegun : List Row → Marks → Type 0
IsBegun rows m = (i : ℕ) → i < m.prefix → is_some (decision_of (standing_in (marked_in rows m) i)) ≡ true

-- the command that an instance has decided after a fact about it, and after those of some facts that are about it
abbrev pub decision_after : Option Command → Fact → Option Command
decision_after d (Enter i e) = None
decision_after d (Propose i r v) = d
decision_after d (Adopt i r v) = d
decision_after d (Decide i v) = Some v

abbrev pub decided_by : Option Command → ℕ → List Fact → Option Command
decided_by d i [] = d
decided_by d i (f ∷ fs) = decided_by (if instance_of f == i then decision_after d f else d) i fs

-- the facts about instances from i on
abbrev pub facts_from : ℕ → List Fact → List Fact
facts_from i [] = []
facts_from i (f ∷ fs) = if nat_lt (instance_of f) i then facts_from i fs else f ∷ facts_from i fs

-- each instance that the entries name has a place
abbrev pub HaveMarkPlaces : Marks → List Entry → Type 0
HaveMarkPlaces m entries = (i : ℕ) → has_mark_place m i ≡ false → standing_in entries i ≡ None
