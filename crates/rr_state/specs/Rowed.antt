-- A table of rows by their instances, with the requests that they have decided, and the end of the decided instances.
use Rattle.std.specs.Prelude.{◌≡◌, ℕ, ◌+◌, ◌-◌, ◌<◌, ◌≤◌, Bool, true, false, List, [], ◌∷◌, Option, None, Some, is_some, not, IsTrue, ◌==◌}
use Rattle.std.specs.Option.{option_map_or}
use Rattle.std.specs.List.{list_any}
use Rattle.std.specs.BTreeMap.{is_at}
use Rattle.std.specs.Map.{lookup}
use Rattle.rr_types.specs.declared.command.RequestNo.{RequestNo}
use Rattle.rr_types.specs.declared.command.Command.{Command}
use Rattle.rr_types.specs.Registry.{is_same_request}
use Rattle.rr_types.specs.Limits.{instance_count}
use Rattle.rr_registry.specs.Kept.{request_cmp}
use Rattle.rr_model.specs.NodeState.{Row, row_of, put_row, decided_command}
use Rattle.rr_registry.specs.Places.{has_place}
use Rattle.rr_state.specs.Listed.{decision_at, KeepsDecisions}

-- the rows of a table, which has each at its instance
abbrev pub rows_in : List (ℕ × Row) → List Row
rows_in [] = []
rows_in (e ∷ es) = e.1 ∷ rows_in es

-- each row stands at its instance
abbrev pub AreKeyed : List (ℕ × Row) → Type 0
AreKeyed [] = Unit {0}
AreKeyed (e ∷ es) = (e.0 ≡ e.1.instance) × AreKeyed es

-- the rows ascend from an instance on
abbrev pub AscendFrom : ℕ → List Row → Type 0
AscendFrom low [] = Unit {0}
AscendFrom low (r ∷ rs) = (low ≤ r.instance) × AscendFrom (r.instance + 1) rs

-- no row lies above the last instance
abbrev pub AreInstances : List Row → Type 0
AreInstances rows = (i : ℕ) → instance_count ≤ i → row_of rows i ≡ None

-- whether a row has decided a command with this request number
abbrev pub has_decided : RequestNo → Row → Bool
has_decided q r = option_map_or (λ v. is_same_request v.request q) (decided_command r) false

-- whether a table of requests has this one
abbrev pub is_held : List (RequestNo × Unit {0}) → RequestNo → Bool
is_held requests q = is_some (lookup (is_at (request_cmp q)) requests)

-- the requests are decided, and each decision that is in the table
abbrev pub AreDecided : List Row → List (RequestNo × Unit {0}) → Type 0
AreDecided rows requests = (q : RequestNo) → is_held requests q ≡ true → list_any (has_decided q) rows ≡ true

-- each decision's request is in the table
abbrev pub HoldsDecided : List Row → List (RequestNo × Unit {0}) → Type 0
HoldsDecided rows requests = (i : ℕ) (v : Command) → decision_at rows i ≡ Some v → is_held requests v.request ≡ true

-- the instance below end has decided, if end isn't 0
abbrev pub IsReached : List Row → ℕ → Type 0
IsReached rows end = 0 < end → is_some (decision_at rows (end - 1)) ≡ true

-- each instance that has decided lies below end
abbrev pub IsAbove : List Row → ℕ → Type 0
IsAbove rows end = (i : ℕ) (v : Command) → decision_at rows i ≡ Some v → i < end

-- whether the request that a row has decided has a place, if it has decided one
abbrev pub has_request_place : List (RequestNo × Option (Unit {0})) → Row → Bool
has_request_place places r = option_map_or (λ v. has_place request_cmp places v.request) (decided_command r) true

-- each request that the rows have decided has a place
abbrev pub HavePlaces : List (RequestNo × Option (Unit {0})) → List Row → Type 0
HavePlaces places rows = (i : ℕ) (v : Command) → decision_at rows i ≡ Some v → IsTrue (has_place request_cmp places v.request)

-- what some of these instances have decided has come into the table: their requests, and its end
pub record IsNoted (rows : List Row) (instances : List ℕ) (before after : List (RequestNo × Unit {0})) (end higher : ℕ) : Type 0 where
  pub decided : AreDecided rows before → AreDecided rows after
  pub grown : (q : RequestNo) → is_held before q ≡ true → is_held after q ≡ true
  pub held : (i : ℕ) (v : Command) → list_any (λ j. j == i) instances ≡ true → decision_at rows i ≡ Some v → (is_held after v.request ≡ true) × (i < higher)
  pub risen : end ≤ higher
  pub reached : IsReached rows end → IsReached rows higher

-- whether an instance hasn't decided
abbrev pub is_undecided : List Row → ℕ → Bool
is_undecided rows i = not (is_some (decision_at rows i))

-- each row lies below a number
abbrev pub LieBelow : ℕ → List Row → Type 0
LieBelow named rows = (i : ℕ) → named ≤ i → row_of rows i ≡ None

-- a table of rows with the requests that they have decided, and the end of the decided instances
pub record IsTable (entries : List (ℕ × Row)) (requests : List (RequestNo × Unit {0})) (end : ℕ) : Type 0 where
  pub keyed : AreKeyed entries
  pub ascend : AscendFrom 0 (rows_in entries)
  pub instances : AreInstances (rows_in entries)
  pub decided : AreDecided (rows_in entries) requests
  pub holds : HoldsDecided (rows_in entries) requests
  pub reached : IsReached (rows_in entries) end
  pub above : IsAbove (rows_in entries) end

-- rows put one after another, each of which keeps what has decided before it
abbrev pub EachKeeps : List Row → List Row → Type 0
EachKeeps rows [] = Unit {0}
EachKeeps rows (c ∷ cs) = KeepsDecisions rows (put_row c rows) × EachKeeps (put_row c rows) cs
