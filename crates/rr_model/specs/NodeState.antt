-- What a node that is up knows: rows, facts, pool, suspects, watches, waiting requests, owed messages; and what is read off these.
use Rattle.std.specs.Prelude.{ℕ, zero, suc, ◌+◌, Bool, false, ◌&&◌, not, ◌==◌, nat_lt, if◌then◌else◌, List, [], ◌∷◌, length, filter, Option, None, Some, option_map}
use Rattle.std.specs.Option.{option_map_or}
use Rattle.std.specs.List.{list_any, range_with_len}
use Rattle.rr_types.specs.declared.command.RequestNo.{RequestNo}
use Rattle.rr_types.specs.declared.command.Command.{Command}
use Rattle.rr_types.specs.declared.fact.Fact.{Fact}
use Rattle.rr_types.specs.declared.message.Message.{Message}
use Rattle.rr_types.specs.declared.promise.Standing.{Standing}
use Rattle.rr_types.specs.declared.promise.Entry.{Entry}
use Rattle.rr_types.specs.Registry.{is_same_request}
use Rattle.rr_types.specs.Standings.{is_undecided}
use Rattle.rr_types.specs.Facts.{decision_of}
use Rattle.rr_types.specs.Nodes.{has_member}
use Rattle.rr_types.specs.Limits.{instance_count, open_count}
use Rattle.rr_types.specs.Promises.{decided_from}

-- an estimate that the coordinator of a round has heard: from whom, with its stamp
pub record Vote : Type 0 where
  pub sender : ℕ
  pub stamp : ℕ
  pub command : Command

-- what a coordinator has heard in its present round: the first estimate of each sender, ascending by
-- senders, and the sets of those who sent an acknowledgement and a refusal
pub record Tally : Type 0 where
  pub estimates : List Vote
  pub acks : ℕ
  pub nacks : ℕ

-- nothing heard yet
abbrev pub no_votes : Tally
no_votes = record { estimates = []; acks = 0; nacks = 0 }

-- the numbers of an instance's facts that back messages: its Enter, Propose and Adopt of the present round, its Decide
pub record Backing : Type 0 where
  pub entered : ℕ
  pub proposed : ℕ
  pub adopted : ℕ
  pub decided : ℕ

-- an instance that the facts name, staged ones included: where it stands, what backs it, what was heard of its round
pub record Row : Type 0 where
  pub instance : ℕ
  pub standing : Standing
  pub backing : Backing
  pub tally : Tally

-- a message that the node owes, and the number of the fact that backs it; None: it is free
pub record Owed : Type 0 where
  pub message : Message
  pub backing : Option ℕ

-- what the heartbeat detector knows of a node: ticks since its last beat, and how many of them are borne
pub record Watch : Type 0 where
  pub ticks : ℕ
  pub time_out : ℕ

-- a node that is up
pub record NodeState : Type 0 where
  -- how many nodes there are, and which this one is
  pub nodes : ℕ
  pub node : ℕ
  -- the instances that the facts name, staged ones included, ascending
  pub rows : List Row
  -- the promise of the marked facts, and their number
  pub marked : List Entry
  pub marked_end : ℕ
  -- the facts of the group that is being flushed, and those staged behind it
  pub running : Option (List Fact)
  pub staged : List Fact
  -- commands that wait for an instance, in order of arrival, one a request number
  pub pool : List Command
  -- the nodes that the completeness reduction suspects
  pub suspects : ℕ
  -- the heartbeat detector: what it knows of each node, by their numbers
  pub watches : List Watch
  -- request numbers that wait for their acknowledgement, in order, each once
  pub waiting : List RequestNo
  -- messages that the node owes, in order
  pub owed : List Owed

infixl 5 ◌▷◌
-- x, then f: a later part of a rule sees what an earlier one did
abbrev pub ◌▷◌ : {A B : Type 0} → A → (A → B) → B
x ▷ f = f x

-- the number of the next fact
abbrev pub next_number : NodeState → ℕ
next_number s = s.marked_end + option_map_or length s.running 0 + length s.staged

-- all nodes, and all but this one, ascending
abbrev pub everyone : NodeState → List ℕ
everyone s = range_with_len 0 s.nodes

abbrev pub others : NodeState → List ℕ
others s = filter (λ q. not (q == s.node)) (everyone s)

-- how many nodes a set has
abbrev pub size_of : NodeState → ℕ → ℕ
size_of s set = length (filter (λ q. has_member set q) (everyone s))

-- the row of instance i
abbrev pub row_of : List Row → ℕ → Option Row
row_of [] i = None
row_of (r ∷ rs) i = if r.instance == i then Some r else row_of rs i

-- the rows with this one for its instance, ascending
abbrev pub put_row : Row → List Row → List Row
put_row row [] = row ∷ []
put_row row (r ∷ rs) = if nat_lt row.instance r.instance then row ∷ r ∷ rs else (if row.instance == r.instance then row ∷ rs else r ∷ put_row row rs)

-- where instance i stands by all facts
abbrev pub standing_at : NodeState → ℕ → Option Standing
standing_at s i = option_map (λ r. r.standing) (row_of s.rows i)

-- whether a row's instance has decided
abbrev pub is_decided : Row → Bool
is_decided r = not (is_undecided (Some r.standing))

-- the lowest undecided instance from i on; the rows ascend
abbrev pub undecided_from : ℕ → List Row → ℕ
undecided_from i [] = i
undecided_from i (r ∷ rs) = if nat_lt r.instance i then undecided_from i rs else (if r.instance == i && is_decided r then undecided_from (i + 1) rs else i)

-- the lowest undecided instance; 1,048,576 where all are decided
abbrev pub first_undecided : NodeState → ℕ
first_undecided s = undecided_from 0 s.rows

-- the count lowest undecided instances from i on, ascending
abbrev pub lowest_undecided : ℕ → ℕ → List Row → List ℕ
lowest_undecided zero i rows = []
lowest_undecided (suc count) i rows =
    if nat_lt (undecided_from i rows) instance_count
    then undecided_from i rows ∷ lowest_undecided count (undecided_from i rows + 1) rows
    else []

-- the open instances: the eight lowest undecided ones
unfoldable pub open_instances : NodeState → List ℕ
open_instances s = lowest_undecided open_count 0 s.rows

-- whether instance i is open
abbrev pub is_open : NodeState → ℕ → Bool
is_open s i = list_any (λ j. j == i) (open_instances s)

-- the command that the facts have decided for an instance of the row
abbrev pub decided_command : Row → Option Command
decided_command r = decision_of (Some r.standing)

-- whether some instance has decided a command with this request number
abbrev pub is_decided_request : NodeState → RequestNo → Bool
is_decided_request s q = list_any (λ r. option_map_or (λ v. is_same_request v.request q) (decided_command r) false) s.rows

-- the decided prefix: the commands that the marked facts decide without a gap from instance 0 on
abbrev pub decided_prefix : NodeState → List Command
decided_prefix s = decided_from 0 s.marked
