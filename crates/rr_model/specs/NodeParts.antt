-- The parts of a node's step: owing messages, pooling commands, staging facts; entering, proposing, deciding and restating.
use Rattle.std.specs.Prelude.{ℕ, Bool, false, ◌&&◌, ◌||◌, not, ◌==◌, nat_lt, if◌then◌else◌, List, [], ◌∷◌, ◌++◌, filter, map, Option, None, Some, option_map, find}
use Rattle.std.specs.Option.{option_map_or}
use Rattle.std.specs.List.{list_any}
use Rattle.rr_types.specs.declared.command.Command.{Command}
use Rattle.rr_types.specs.declared.fact.Fact.{Fact}
use Rattle.rr_types.specs.declared.fact.Fact.TheVariants.{Enter, Propose, Adopt, Decide}
use Rattle.rr_types.specs.declared.message.Body.{Body}
use Rattle.rr_types.specs.declared.message.Body.TheVariants as say
use Rattle.rr_types.specs.declared.promise.Standing.{Standing}
use Rattle.rr_types.specs.declared.promise.Standing.TheVariants.{Decided, Open}
use Rattle.rr_types.specs.Commands.{is_same_command}
use Rattle.rr_types.specs.Registry.{is_same_request, has_request}
use Rattle.rr_types.specs.Facts.{after_fact, instance_of}
use Rattle.rr_types.specs.Standings.{round_of, stamp_of, estimate_of}
use Rattle.rr_types.specs.Rounds.{Estimated, coordinator_of}
use Rattle.rr_model.specs.NodeState.{NodeState, Row, Tally, Backing, Owed, no_votes, ◌▷◌, next_number, everyone, others, row_of, put_row, standing_at, open_instances, is_decided_request}

-- the messages with this body to these nodes, backed by this fact or free
abbrev pub messages_to : ℕ → Body → Option ℕ → List ℕ → List Owed
messages_to from body backing to = map (λ q. record { message = record { from = from; to = q; body = body }; backing = backing }) to

-- the node owes a body to these nodes
unfoldable pub owe : Body → Option ℕ → List ℕ → NodeState → NodeState
owe body backing to s = record s { owed = s.owed ++ messages_to s.node body backing to }

-- pool add: the command goes last where its number is neither in the pool nor decided
unfoldable pub pool_add : Command → NodeState → NodeState
pool_add c s = if has_request s.pool c.request || is_decided_request s c.request then s else record s { pool = s.pool ++ c ∷ [] }

-- the fact is about an instance: the standing after it, and its number k where later messages are backed by it
abbrev pub backing_after : ℕ → Fact → Backing → Backing
backing_after k (Enter i e) b = record { entered = k; proposed = 0; adopted = 0; decided = 0 }
backing_after k (Propose i r v) b = record b { proposed = k }
backing_after k (Adopt i r v) b = record b { adopted = k }
backing_after k (Decide i v) b = record b { decided = k }

-- tallies begin anew at an Enter and vanish at a Decide
abbrev pub tally_after : Fact → Tally → Tally
tally_after (Enter i e) t = no_votes
tally_after (Propose i r v) t = t
tally_after (Adopt i r v) t = t
tally_after (Decide i v) t = no_votes

-- the row of an instance that no fact named before
abbrev pub fresh_row : ℕ → Standing → Row
fresh_row i standing = record { instance = i; standing = standing; backing = record { entered = 0; proposed = 0; adopted = 0; decided = 0 }; tally = no_votes }

-- the row after a fact with number k about its instance, which then stands so
abbrev pub row_after : ℕ → Fact → Standing → Row → Row
row_after k f standing r = record { instance = r.instance; standing = standing; backing = backing_after k f r.backing; tally = tally_after f r.tally }

-- the rows after a fact with number k
abbrev pub rows_after : ℕ → Fact → List Row → List Row
rows_after k f rows = stands (row_of rows (instance_of f)) (after_fact (option_map (λ r. r.standing) (row_of rows (instance_of f))) f)
  where
    stands : Option Row → Option Standing → List Row
    stands row None = rows
    stands None (Some standing) = put_row (row_after k f standing (fresh_row (instance_of f) standing)) rows
    stands (Some row) (Some standing) = put_row (row_after k f standing row) rows

-- a Decide takes its request number out of the pool
abbrev pub pool_after : Fact → List Command → List Command
pool_after (Enter i e) pool = pool
pool_after (Propose i r v) pool = pool
pool_after (Adopt i r v) pool = pool
pool_after (Decide i v) pool = filter (λ c. not (is_same_request c.request v.request)) pool

-- the fact is staged last
unfoldable pub stage : Fact → NodeState → NodeState
stage f s = record s { rows = rows_after (next_number s) f s.rows; staged = s.staged ++ f ∷ []; pool = pool_after f s.pool }

-- whether a command is the estimate of an open instance other than i
abbrev pub is_estimate_beside : NodeState → ℕ → Command → Bool
is_estimate_beside s i c = list_any (λ j. not (j == i) && option_map_or (λ v. is_same_command v c) (estimate_of (standing_at s j)) false) (open_instances s)

-- the first pool command that is no estimate of an open instance other than i
unfoldable pub free_command : NodeState → ℕ → Option Command
free_command s i = find (λ c. not (is_estimate_beside s i c)) s.pool

-- the number of the fact that backs an instance's messages
abbrev pub backing_at : (Backing → ℕ) → NodeState → ℕ → ℕ
backing_at which s i = option_map_or (λ r. which r.backing) (row_of s.rows i) 0

-- a node that leaves a round of another coordinator in which it has not adopted owes that coordinator a refusal
abbrev pub leave_round : ℕ → NodeState → NodeState
leave_round i s =
    let r = round_of (standing_at s i) in
    if nat_lt (stamp_of (standing_at s i)) r && not (coordinator_of r s.nodes == s.node)
    then owe (say.Nack i r) None (coordinator_of r s.nodes ∷ []) s else s

-- Enter is staged with this estimate, and the estimate is owed to the round's coordinator
abbrev pub enter_with : ℕ → Estimated → NodeState → NodeState
enter_with i e s = stage (Enter i e) s ▷ owe (say.Estimate i e) (Some (next_number s)) (coordinator_of e.round s.nodes ∷ [])

-- the estimate with which instance i enters round r: its own, or with stamp 0 the first free pool command, or the one heard
abbrev pub entering_estimate : ℕ → ℕ → Option Command → NodeState → Option Estimated
entering_estimate i r heard s = own (estimate_of (standing_at s i)) (free_command s i)
  where
    own : Option Command → Option Command → Option Estimated
    own (Some v) pooled = Some (record { round = r; stamp = stamp_of (standing_at s i); command = v })
    own None (Some v) = Some (record { round = r; stamp = 0; command = v })
    own None None = option_map (λ v. record { round = r; stamp = 0; command = v }) heard

-- instance i enters round r; where the node has no command for it, nothing happens
unfoldable pub enter : ℕ → ℕ → Option Command → NodeState → NodeState
enter i r heard s = option_map_or (λ e. leave_round i s ▷ enter_with i e) (entering_estimate i r heard s) s

-- the restatement of an open instance with a round: the estimate, or the acknowledgement where the node has
-- adopted in the round, to the coordinator; then the proposal that the node made in it, to everyone
unfoldable pub restate : ℕ → NodeState → NodeState
restate i s = standing (standing_at s i)
  where
    proposing : ℕ → Option Command → NodeState → NodeState
    proposing r None t = t
    proposing r (Some v) t = owe (say.Proposal i r v) (Some (backing_at (λ b. b.proposed) s i)) (everyone s) t

    standing : Option Standing → NodeState
    standing None = s
    standing (Some (Decided v)) = s
    standing (Some (Open o)) =
        (if nat_lt o.stamp o.round
        then owe (say.Estimate i (record { round = o.round; stamp = o.stamp; command = o.estimate }))
        (Some (backing_at (λ b. b.entered) s i)) (coordinator_of o.round s.nodes ∷ []) s
        else owe (say.Ack i o.round) (Some (backing_at (λ b. b.adopted) s i)) (coordinator_of o.round s.nodes ∷ []) s)
        ▷ proposing o.round o.proposal

-- the restatement of these instances, in order
abbrev pub restate_all : List ℕ → NodeState → NodeState
restate_all [] s = s
restate_all (i ∷ is) s = restate i s ▷ restate_all is

-- Decide is staged, and the decision is owed to each other node
unfoldable pub conclude : ℕ → Command → NodeState → NodeState
conclude i v s = stage (Decide i v) s ▷ owe (say.Decision i v) (Some (next_number s)) (others s)

-- Propose is staged, and the proposal is owed to every node, itself included
unfoldable pub propose : ℕ → ℕ → Command → NodeState → NodeState
propose i r v s = stage (Propose i r v) s ▷ owe (say.Proposal i r v) (Some (next_number s)) (everyone s)
