-- What restarted nodes can go on to by events among them: decide an instance, end a round, or learn a decision.
use Rattle.std.specs.Prelude.{◌≡◌, ℕ, ◌+◌, ◌≤◌, ◌<◌, Bool, true, false, List, [], ◌++◌, ◌⊎◌, None, Some}
use Rattle.std.specs.List.{Contains}
use Rattle.rr_types.specs.declared.command.Command.{Command}
use Rattle.rr_types.specs.declared.fact.Fact.{Fact}
use Rattle.rr_types.specs.declared.message.Message.{Message}
use Rattle.rr_types.specs.declared.promise.Standing.TheVariants.{Decided, Open}
use Rattle.rr_types.specs.Facts.{standing_of}
use Rattle.rr_types.specs.Limits.{instance_count, last_round}
use Rattle.rr_types.specs.Promises.{standing_in, all_fit}
use Rattle.rr_types.specs.Rounds.{OpenAt, coordinator_of, majority_of}
use Rattle.rr_types.specs.Standings.{is_undecided}
use Rattle.rr_model.specs.Lawful.{count_below}
use Rattle.rr_model.specs.World.{with_at}
use Rattle.rr_model.specs.NodeState.{NodeState, is_decided_request}
use Rattle.rr_model.specs.NodeParts.{is_estimate_beside}
use Rattle.rr_types.specs.declared.input.Input.{Input}
use Rattle.rr_types.specs.declared.input.Input.TheVariants.{Submit, Advance, Hear}
use Rattle.rr_model.specs.NodeStep.{input_refusal, next_acknowledged}
use Rattle.rr_model.specs.NodeLaws.{StateEvent, Told, Grouped, PutBack, Marked, Left, Answered, after_event}
use Rattle.rr_model.specs.NodeReached.{opened_over}
use Rattle.rr_model.specs.NodeInWorld.{sent_by_event}

-- nodes by their numbers, each in its state, and the messages that they have sent
pub record Cluster : Type 0 where
  pub state : ℕ → NodeState
  pub sent : List Message

-- what a node may be told: the one command, a message that was sent, or that its round takes too long
abbrev pub MayBeTold : List Message → Command → Input Message → Type 0
MayBeTold sent c (Submit d) = d ≡ c
MayBeTold sent c (Hear m) = Contains sent m
MayBeTold sent c Advance = Unit {0}
MayBeTold sent c _ = ⊥

-- what may happen at a node in this state. It is told nothing that it refuses
abbrev pub MayHappenAt : List Message → Command → NodeState → StateEvent → Type 0
MayHappenAt sent c s (Told input) = MayBeTold sent c input × (input_refusal input s ≡ None)
MayHappenAt sent c s Grouped = Unit {0}
MayHappenAt sent c s PutBack = ⊥
MayHappenAt sent c s Marked = Unit {0}
MayHappenAt sent c s Left = Unit {0}
MayHappenAt sent c s Answered = Unit {0}

-- the nodes after an event at node p
abbrev pub after_at : ℕ → StateEvent → Cluster → Cluster
after_at p e g = record { state = with_at g.state p (after_event (g.state p) e); sent = g.sent ++ sent_by_event (g.state p) e }

-- by events at nodes of the set alone these nodes can go on to those
pub data CanGoOn (n : ℕ) (set : ℕ → Bool) (c : Command) (g : Cluster) : Cluster → Type 0 where
  NotAtAll : CanGoOn n set c g g
  ByOneMore : (h : Cluster) (p : ℕ) (e : StateEvent) → CanGoOn n set c g h → p < n → set p ≡ true
      → MayHappenAt h.sent c (h.state p) e → CanGoOn n set c g (after_at p e h)

-- each node has restarted over its facts, and whatever was on the wire is lost
abbrev pub restarted : ℕ → (ℕ → List Fact) → Cluster
restarted n facts = record { state = λ q. opened_over n q (facts q); sent = [] }

-- the facts leave instance i open, in a round up to this one
abbrev pub IsOpenUpTo : ℕ → ℕ → List Fact → Type 0
IsOpenUpTo bound i facts = (o : OpenAt) × (standing_of i facts ≡ Some (Open o)) × (o.round ≤ bound)

-- node q of n, restarted over these facts, would take the command for instance i: none with its request number is decided there,
-- and the command is the estimate of no other open instance
abbrev pub IsFreeAt : ℕ → ℕ → ℕ → Command → List Fact → Type 0
IsFreeAt n q i c facts = (is_decided_request (opened_over n q facts) c.request ≡ false) × (is_estimate_beside (opened_over n q facts) i c ≡ false)

-- node q of n may go on with instance i: its facts fit, and decide each instance below i. They leave i open, in a round up to this
-- one, or say nothing of it, and the command is free for it
pub record IsReadyFor (n bound i : ℕ) (c : Command) (q : ℕ) (facts : List Fact) : Type 0 where
  pub fit : all_fit n q [] facts ≡ true
  pub below : (j : ℕ) → j < i → is_undecided (standing_of j facts) ≡ false
  pub here : IsOpenUpTo bound i facts ⊎ ((standing_of i facts ≡ None) × IsFreeAt n q i c facts)

-- the nodes of the set, restarted over their facts, can go on until each has decided instance i and marked it. If none had a fact
-- of it, it is the client's command, and each node that it was submitted to acknowledges it next
pub record CanDecideNext (n : ℕ) (set : ℕ → Bool) (facts : ℕ → List Fact) (c : Command) (i : ℕ) : Type 0 where
  pub end : Cluster
  pub goes_on : CanGoOn n set c (restarted n facts) end
  pub command : Command
  pub is_decided : (q : ℕ) → q < n → set q ≡ true → standing_in (end.state q).marked i ≡ Some (Decided command)
  pub is_new : ((q : ℕ) → q < n → set q ≡ true → standing_of i (facts q) ≡ None) → command ≡ c
  pub is_due : command ≡ c → (q : ℕ) → q < n → set q ≡ true → next_acknowledged (end.state q) ≡ Some c.request

-- whatever the nodes of a majority keep, behind a restart they can decide the lowest instance that none of them has decided,
-- where their rounds of it leave room for n more
abbrev pub NodesCanGoOn : Type 0
NodesCanGoOn =
    (n : ℕ) (set : ℕ → Bool) (facts : ℕ → List Fact) (c : Command) (i bound : ℕ) → majority_of n ≤ count_below set n
    → i < instance_count → 1 ≤ bound → bound + n ≤ last_round
    → ((q : ℕ) → q < n → set q ≡ true → IsReadyFor n bound i c q (facts q)) → CanDecideNext n set facts c i

-- node q of n stands in round r of instance i: its facts fit, and decide each instance below i. They leave i in that round, in
-- which the node has neither adopted nor proposed
pub record StandsIn (n r i q : ℕ) (facts : List Fact) : Type 0 where
  pub fit : all_fit n q [] facts ≡ true
  pub below : (j : ℕ) → j < i → is_undecided (standing_of j facts) ≡ false
  pub present : OpenAt
  pub here : standing_of i facts ≡ Some (Open present)
  pub round : present.round ≡ r
  pub stamp : present.stamp < r
  pub none : present.proposal ≡ None

-- where the nodes of a majority stand in one round, which one of them coordinates, they can decide in it, be it the last one:
-- behind a restart each says again what its facts back
abbrev pub RoundsCanEnd : Type 0
RoundsCanEnd =
    (n : ℕ) (set : ℕ → Bool) (facts : ℕ → List Fact) (c : Command) (i r : ℕ) → majority_of n ≤ count_below set n
    → i < instance_count → r ≤ last_round → set (coordinator_of r n) ≡ true
    → ((q : ℕ) → q < n → set q ≡ true → StandsIn n r i q (facts q)) → CanDecideNext n set facts c i

-- the nodes of the set, restarted over their facts, can go on until each has decided this command for instance i and marked it
pub record CanLearn (n : ℕ) (set : ℕ → Bool) (facts : ℕ → List Fact) (c : Command) (i : ℕ) (v : Command) : Type 0 where
  pub end : Cluster
  pub goes_on : CanGoOn n set c (restarted n facts) end
  pub is_decided : (q : ℕ) → q < n → set q ≡ true → standing_in (end.state q).marked i ≡ Some (Decided v)

-- a node has decided instance i and each below it: the others of the set, of however many nodes, can decide so too
abbrev pub DecisionsCanBeLearned : Type 0
DecisionsCanBeLearned =
    (n : ℕ) (set : ℕ → Bool) (facts : ℕ → List Fact) (c : Command) (i bound : ℕ) → i < instance_count → 1 ≤ bound
    → bound + n ≤ last_round → (k : ℕ) → k < n → set k ≡ true → all_fit n k [] (facts k) ≡ true
    → ((j : ℕ) → j < i → is_undecided (standing_of j (facts k)) ≡ false) → (v : Command)
    → standing_of i (facts k) ≡ Some (Decided v)
    → ((q : ℕ) → q < n → set q ≡ true → (q ≡ k → ⊥) → IsReadyFor n bound i c q (facts q)) → CanLearn n set facts c i v
