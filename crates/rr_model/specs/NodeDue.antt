-- What a node does of its own accord: what is due for each instance, what a coordinator picks, and how a node settles.
use Rattle.std.specs.Prelude.{ℕ, zero, suc, ◌+◌, ◌^◌, Bool, ◌&&◌, ◌==◌, nat_lt, nat_le, if◌then◌else◌, List, [], ◌∷◌, length, Option, None, Some, is_some, option_map}
use Rattle.std.specs.Option.{option_map_or}
use Rattle.rr_types.specs.declared.command.Command.{Command}
use Rattle.rr_types.specs.declared.promise.Standing.{Standing}
use Rattle.rr_types.specs.declared.promise.Standing.TheVariants.{Decided, Open}
use Rattle.rr_types.specs.Standings.{round_of}
use Rattle.rr_types.specs.Rounds.{coordinator_of, majority_of}
use Rattle.rr_types.specs.Nodes.{has_member}
use Rattle.rr_types.specs.Limits.{last_round}
use Rattle.rr_model.specs.NodeState.{NodeState, Row, Vote, Tally, row_of, standing_at, open_instances, size_of}
use Rattle.rr_types.specs.Nodes.{joined}
use Rattle.rr_model.specs.NodeParts.{free_command, enter, propose, conclude}

-- what a node does of its own accord for an instance
pub data Due : Type 0 where
  -- enter round 1 with a command of the pool
  Begin : ℕ → Due
  -- propose this command in the present round
  Offer : ℕ → ℕ → Command → Due
  -- decide on this command
  Conclude : ℕ → Command → Due
  -- enter the next round
  MoveOn : ℕ → Due

-- the better of two votes: the larger stamp, and of equal stamps the lower node, which stands first
abbrev pub better : Vote → Option Vote → Vote
better v None = v
better v (Some w) = if nat_lt v.stamp w.stamp then w else v

-- the vote of largest stamp, of those the lowest node's
abbrev pub best_vote : List Vote → Option Vote
best_vote [] = None
best_vote (v ∷ vs) = Some (better v (best_vote vs))

-- pick: where estimates of a majority of n are kept, the command of largest stamp, of those the lowest node's
abbrev pub pick : ℕ → Tally → Option Command
pick n tally = if nat_le (majority_of n) (length tally.estimates) then option_map (λ v. v.command) (best_vote tally.estimates) else None

-- whether the set has a majority of the nodes
abbrev pub is_majority : NodeState → ℕ → Bool
is_majority s set = nat_le (majority_of s.nodes) (size_of s set)

-- in a round that this node coordinates, by the proposal that it made in it:
-- none: propose once estimates of a majority are there; made: decide by acknowledgements of a majority, and move
-- on once a majority has answered otherwise, unless the round is the last
abbrev pub due_of_coordinator : NodeState → ℕ → Tally → ℕ → Option Command → Option Due
due_of_coordinator s i tally r None = option_map (λ v. Offer i r v) (pick s.nodes tally)
due_of_coordinator s i tally r (Some v) =
    if is_majority s tally.acks then Some (Conclude i v)
    else (if is_majority s (joined tally.acks tally.nacks) && nat_lt r last_round then Some (MoveOn i) else None)

-- in a round of another coordinator: move on where that node is suspected, unless the round is the last
abbrev pub due_of_participant : NodeState → ℕ → ℕ → Option Due
due_of_participant s i r = if has_member s.suspects (coordinator_of r s.nodes) && nat_lt r last_round then Some (MoveOn i) else None

-- what is due for a row: nothing once it has decided
abbrev pub due_of_row : NodeState → ℕ → Tally → Standing → Option Due
due_of_row s i tally (Decided v) = None
due_of_row s i tally (Open o) =
    if coordinator_of o.round s.nodes == s.node
    then due_of_coordinator s i tally o.round o.proposal
    else due_of_participant s i o.round

-- what is due for instance i: an instance that has no round enters the first one where the pool has a command for it
abbrev pub due_at : NodeState → ℕ → Option Due
due_at s i = by_row (row_of s.rows i)
  where
    by_row : Option Row → Option Due
    by_row None = if is_some (free_command s i) then Some (Begin i) else None
    by_row (Some row) = due_of_row s i row.tally row.standing

-- the first of these instances for which something is due
abbrev pub first_due : NodeState → List ℕ → Option Due
first_due s [] = None
first_due s (i ∷ is) = option_map_or Some (due_at s i) (first_due s is)

-- what is due: the lowest open instance to which anything applies
unfoldable pub due : NodeState → Option Due
due s = first_due s (open_instances s)

-- the node does what is due
unfoldable pub carry_out : Due → NodeState → NodeState
carry_out (Begin i) s = enter i 1 None s
carry_out (Offer i r v) s = propose i r v s
carry_out (Conclude i v) s = conclude i v s
carry_out (MoveOn i) s = enter i (round_of (standing_at s i) + 1) None s

-- the node does what is due, at most this often
unfoldable pub settle_within : ℕ → NodeState → NodeState
settle_within zero s = s
settle_within (suc turns) s = option_map_or (λ d. settle_within turns (carry_out d s)) (due s) s

-- until nothing is due. 2 ^ 54 turns are always enough: each of the 2 ^ 20 instances has 2 ^ 31 rounds at most, a round takes
-- two turns at most, and few come beside these
unfoldable pub settle : NodeState → NodeState
settle s = settle_within (2 ^ 54) s
