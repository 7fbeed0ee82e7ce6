-- What a step has changed of a node, the node with that, and what a step may change.
use Rattle.std.specs.Prelude.{◌≡◌, ℕ, ◌-◌, Bool, true, false, IsTrue, not, List, [], ◌∷◌, ◌++◌, length, take, filter, All, Option, None, Some, option_map}
use Rattle.std.specs.List.{list_any}
use Rattle.rr_types.specs.declared.command.RequestNo.{RequestNo}
use Rattle.rr_types.specs.declared.command.Command.{Command}
use Rattle.rr_types.specs.declared.fact.Fact.{Fact}
use Rattle.rr_types.specs.declared.promise.Standing.{Standing}
use Rattle.rr_types.specs.declared.fact.Fact.TheVariants.{Enter, Propose, Adopt, Decide}
use Rattle.rr_types.specs.Facts.{decision_of}
use Rattle.rr_types.specs.Registry.{is_same_request, has_request}
use Rattle.rr_types.specs.Limits.{open_count}
use Rattle.rr_model.specs.NodeState.{NodeState, Row, Watch, Owed, row_of, put_row, lowest_undecided}
use Rattle.rr_model.specs.NodeDue.{due}
use Rattle.rr_state.specs.Owing.{IsOwn}
use Rattle.rr_state.specs.Rowed.{has_decided}
use Rattle.rr_core.specs.Places.{first_free}

-- a node within a step: what it was before, and what it is by now
pub record Stepped : Type 0 where
  pub base : NodeState
  pub state : NodeState

-- what it is changed so
abbrev pub stepped : (NodeState → NodeState) → Stepped → Stepped
stepped f s = record { base = s.base; state = f s.state }

-- what a step has changed: rows, the newest first; staged facts; the request numbers that decisions took out of the
-- pool, and commands pooled; the suspects and the watches; requests that wait; messages owed; whether the pool is known to
-- have no command for an instance that no fact names, and the pool but the command that was pooled last; whether nothing
-- is known to be due
pub record Changed : Type 0 where
  pub rows : List Row
  pub staged : List Fact
  pub taken : List RequestNo
  pub pooled : List Command
  pub suspects : ℕ
  pub watches : List Watch
  pub waiting : List RequestNo
  pub owed : List Owed
  pub spent : Bool
  pub front : Bool
  pub settled : Bool

-- rows with changed ones, of which the newest stands first
abbrev pub put_rows : List Row → List Row → List Row
put_rows [] rows = rows
put_rows (r ∷ rs) rows = put_row r (put_rows rs rows)

-- commands but those with one of these request numbers
abbrev pub without_requests : List RequestNo → List Command → List Command
without_requests taken cs = filter (λ c. not (list_any (λ q. is_same_request q c.request) taken)) cs

-- a node with what a step has changed
abbrev pub combined : NodeState → Changed → NodeState
combined s c = record s {
  rows = put_rows c.rows s.rows;
  staged = s.staged ++ c.staged;
  pool = without_requests c.taken (s.pool ++ c.pooled);
  suspects = c.suspects;
  watches = c.watches;
  waiting = s.waiting ++ c.waiting;
  owed = s.owed ++ c.owed;
}

-- a standing that takes the place of another leaves a decision alone
abbrev pub KeepsStanding : Option Standing → Option Standing → Type 0
KeepsStanding before after = (v : Command) → decision_of before ≡ Some v → decision_of after ≡ Some v

-- a changed row leaves a decision of its instance alone
abbrev pub KeepsDecision : List Row → Row → Type 0
KeepsDecision rows r = KeepsStanding (option_map (λ o. o.standing) (row_of rows r.instance)) (Some r.standing)

-- each changed row does, of which the newest stands first
abbrev pub KeepDecisions : List Row → List Row → Type 0
KeepDecisions [] rows = Unit {0}
KeepDecisions (r ∷ rs) rows = KeepsDecision (put_rows rs rows) r × KeepDecisions rs rows

-- no command has a request number of those before it
abbrev pub AreNew : List Command → List Command → Type 0
AreNew before [] = Unit {0}
AreNew before (c ∷ cs) = (has_request before c.request ≡ false) × AreNew (before ++ c ∷ []) cs

-- none of these requests is one of those before it
abbrev pub AreNewRequests : List RequestNo → List RequestNo → Type 0
AreNewRequests before [] = Unit {0}
AreNewRequests before (q ∷ qs) = (list_any (λ w. is_same_request w q) before ≡ false) × AreNewRequests (before ++ q ∷ []) qs

-- a decision's request number is decided
abbrev pub IsDecidedFact : Fact → List Row → Type 0
IsDecidedFact (Enter i e) rows = Unit {0}
IsDecidedFact (Propose i r v) rows = Unit {0}
IsDecidedFact (Adopt i r v) rows = Unit {0}
IsDecidedFact (Decide i v) rows = list_any (has_decided v.request) rows ≡ true

-- the pool has no command for an instance that no fact names
pub record IsSpent (rows : List Row) (pool : List Command) : Type 0 where
  pub none : (i : ℕ) → row_of rows i ≡ None → first_free rows (lowest_undecided open_count 0 rows) i pool ≡ None

-- the same of commands but the last of those that a step has pooled
abbrev pub IsFrontSpent : List Row → List RequestNo → List Command → List Command → Type 0
IsFrontSpent rows taken pool pooled = IsSpent rows (without_requests taken (pool ++ take (length pooled - 1) pooled))

-- nothing is due at a node of these parts
pub record NothingIsDue (nodes node : ℕ) (rows : List Row) (pool : List Command) (suspects : ℕ) : Type 0 where
  pub none : (s : NodeState) → s.nodes ≡ nodes → s.node ≡ node → s.rows ≡ rows → s.pool ≡ pool → s.suspects ≡ suspects → due s ≡ None

-- what a step may change: decisions stay, what is taken out of the pool is decided, what comes into the pool and
-- waits is new, and what is owed is the node's own, and free where no fact backs it
pub record IsFitting (s : NodeState) (c : Changed) : Type 0 where
  pub keep : KeepDecisions c.rows s.rows
  pub taken : (q : RequestNo) → list_any (λ p. is_same_request p q) c.taken ≡ true → list_any (has_decided q) (put_rows c.rows s.rows) ≡ true
  pub pooled : AreNew s.pool c.pooled
  pub waiting : AreNewRequests s.waiting c.waiting
  pub own : All (IsOwn s.node) c.owed
  pub spent : IsTrue c.spent → IsSpent (put_rows c.rows s.rows) (without_requests c.taken (s.pool ++ c.pooled))
  pub front : IsTrue c.front → IsFrontSpent (put_rows c.rows s.rows) c.taken s.pool c.pooled
  pub settled : IsTrue c.settled → NothingIsDue s.nodes s.node (put_rows c.rows s.rows) (without_requests c.taken (s.pool ++ c.pooled)) c.suspects
