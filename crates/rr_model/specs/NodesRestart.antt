-- What nodes that restart as often as is needed can go on to: fill gaps, and serve a client's request.
use Rattle.std.specs.Prelude.{◌≡◌, ℕ, ◌+◌, ◌≤◌, ◌<◌, Bool, true, false, List, [], length, ◌⊎◌, Option, None, Some}
use Rattle.std.specs.List.{Contains}
use Rattle.rr_types.specs.declared.command.Command.{Command}
use Rattle.rr_types.specs.declared.fact.Fact.{Fact}
use Rattle.rr_types.specs.declared.promise.Standing.TheVariants.{Decided, Open}
use Rattle.rr_types.specs.Facts.{standing_of}
use Rattle.rr_types.specs.Limits.{instance_count, last_round}
use Rattle.rr_types.specs.Promises.{promise_of, all_fit}
use Rattle.rr_types.specs.Rounds.{OpenAt, majority_of}
use Rattle.rr_types.specs.Standings.{is_undecided}
use Rattle.rr_model.specs.Lawful.{count_below}
use Rattle.rr_model.specs.NodeState.{NodeState, decided_prefix}
use Rattle.rr_model.specs.NodeStep.{next_acknowledged}
use Rattle.rr_model.specs.NodesGoOn.{Cluster, CanGoOn, restarted, IsFreeAt}

-- the command is new to the nodes of the set, restarted over these facts: each would take it for any instance
abbrev pub IsNewTo : ℕ → (ℕ → Bool) → (ℕ → List Fact) → Command → Type 0
IsNewTo n set facts d = (q : ℕ) → q < n → set q ≡ true → (i : ℕ) → IsFreeAt n q i d (facts q)

-- the node has marked just these facts
abbrev pub HasMarked : List Fact → NodeState → Type 0
HasMarked facts s = (s.marked ≡ promise_of facts) × (s.marked_end ≡ length facts)

-- whether it is the given command, if there is one
abbrev pub IsGiven : Option Command → Command → Type 0
IsGiven None d = ⊥
IsGiven (Some c) d = d ≡ c

-- the nodes of the set, restarted over the first facts, can go on and restart over the second: as often as is needed they go on,
-- and all restart over what each has marked. From one restart to the next at most a single command is submitted. It is the given
-- one, or new to them
pub data CanRestartOver (n : ℕ) (set : ℕ → Bool) (given : Option Command) (facts : ℕ → List Fact) : (ℕ → List Fact) → Type 0 where
  AsTheyAre : CanRestartOver n set given facts facts
  OnceMore : (before after : ℕ → List Fact) (d : Command) (end : Cluster) → CanRestartOver n set given facts before
      → IsGiven given d ⊎ IsNewTo n set before d → CanGoOn n set d (restarted n before) end
      → ((q : ℕ) → q < n → set q ≡ true → HasMarked (after q) (end.state q))
      → CanRestartOver n set given facts after

-- node q's facts fit, and leave no instance below the end open in a round above the bound
pub record HasRoom (n bound end q : ℕ) (facts : List Fact) : Type 0 where
  pub fit : all_fit n q [] facts ≡ true
  pub rounds : (i : ℕ) (o : OpenAt) → i < end → standing_of i facts ≡ Some (Open o) → o.round ≤ bound

-- no two nodes of the set have decided an instance differently
abbrev pub AreAgreed : ℕ → (ℕ → Bool) → (ℕ → List Fact) → Type 0
AreAgreed n set facts =
    (i q k : ℕ) (v w : Command) → q < n → set q ≡ true → k < n → set k ≡ true → standing_of i (facts q) ≡ Some (Decided v)
    → standing_of i (facts k) ≡ Some (Decided w) → v ≡ w

-- the nodes of the set can go on and restart, until each has decided all instances below the end, and as any of them had
pub record CanFillGaps (n : ℕ) (set : ℕ → Bool) (facts : ℕ → List Fact) (end : ℕ) : Type 0 where
  pub kept : ℕ → List Fact
  pub restarts : CanRestartOver n set None facts kept
  pub fit : (q : ℕ) → q < n → set q ≡ true → all_fit n q [] (kept q) ≡ true
  pub are_decided : (q : ℕ) → q < n → set q ≡ true → (i : ℕ) → i < end → is_undecided (standing_of i (kept q)) ≡ false
  pub are_kept : (k q i : ℕ) (v : Command) → k < n → set k ≡ true → q < n → set q ≡ true → i < end
      → standing_of i (facts k) ≡ Some (Decided v) → standing_of i (kept q) ≡ Some (Decided v)

-- whatever the nodes of a majority keep, behind a restart they can decide each instance below any end, where their rounds
-- below it leave room for n more
abbrev pub GapsCanBeFilled : Type 0
GapsCanBeFilled =
    (n : ℕ) (set : ℕ → Bool) (facts : ℕ → List Fact) (bound end : ℕ) → majority_of n ≤ count_below set n
    → end ≤ instance_count → 1 ≤ bound → bound + n ≤ last_round
    → ((q : ℕ) → q < n → set q ≡ true → HasRoom n bound end q (facts q)) → AreAgreed n set facts
    → CanFillGaps n set facts end

-- the nodes of the set can go on and restart so, and then go on, with the client's command alone, until the decided prefix of each
-- has this command, which has the client's request number, and each acknowledges the client's request next
pub record CanAcknowledge (n : ℕ) (set : ℕ → Bool) (facts : ℕ → List Fact) (c v : Command) : Type 0 where
  pub kept : ℕ → List Fact
  pub restarts : CanRestartOver n set None facts kept
  pub end : Cluster
  pub goes_on : CanGoOn n set c (restarted n kept) end
  pub is_listed : (q : ℕ) → q < n → set q ≡ true → Contains (decided_prefix (end.state q)) v
  pub is_due : (q : ℕ) → q < n → set q ≡ true → next_acknowledged (end.state q) ≡ Some c.request

-- where one of them has decided the client's request, be it for an instance with gaps below it, each can acknowledge it
abbrev pub DecidedCanBeAcknowledged : Type 0
DecidedCanBeAcknowledged =
    (n : ℕ) (set : ℕ → Bool) (facts : ℕ → List Fact) (bound i : ℕ) → majority_of n ≤ count_below set n → i < instance_count
    → 1 ≤ bound → bound + n ≤ last_round → ((q : ℕ) → q < n → set q ≡ true → HasRoom n bound (i + 1) q (facts q))
    → AreAgreed n set facts → (k : ℕ) (c v : Command) → k < n → set k ≡ true → standing_of i (facts k) ≡ Some (Decided v)
    → v.request ≡ c.request → CanAcknowledge n set facts c v

-- the nodes of the set can go on and restart so, with the client's command among those that are submitted, until each has a command
-- with the client's request number in its decided prefix, and acknowledges that request next
pub record CanServeNow (n : ℕ) (set : ℕ → Bool) (facts : ℕ → List Fact) (c : Command) : Type 0 where
  pub kept : ℕ → List Fact
  pub restarts : CanRestartOver n set (Some c) facts kept
  pub end : Cluster
  pub goes_on : CanGoOn n set c (restarted n kept) end
  pub command : Command
  pub request : command.request ≡ c.request
  pub is_listed : (q : ℕ) → q < n → set q ≡ true → Contains (decided_prefix (end.state q)) command
  pub is_due : (q : ℕ) → q < n → set q ≡ true → next_acknowledged (end.state q) ≡ Some c.request

-- whatever the nodes of a majority of two or more keep, and whatever a client submits, behind a restart they can serve it, where
-- none has a fact of an instance from some end on, and their rounds leave room for n more
abbrev pub RequestsCanBeServed : Type 0
RequestsCanBeServed =
    (n : ℕ) (set : ℕ → Bool) (facts : ℕ → List Fact) (bound end : ℕ) (c : Command) → 1 < n
    → majority_of n ≤ count_below set n → end < instance_count → 1 ≤ bound → bound + n ≤ last_round
    → ((q : ℕ) → q < n → set q ≡ true → HasRoom n bound end q (facts q))
    → ((q : ℕ) → q < n → set q ≡ true → (i : ℕ) → end ≤ i → standing_of i (facts q) ≡ None) → AreAgreed n set facts
    → CanServeNow n set facts c
