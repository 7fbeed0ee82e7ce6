-- The node's step: what each input does, which are refused, groups and marks, what leaves, what is acknowledged, and the start.
use Rattle.std.specs.Prelude.{ℕ, ◌+◌, ◌-◌, ◌^◌, Bool, true, ◌&&◌, ◌||◌, not, ◌==◌, nat_lt, nat_le, if◌then◌else◌, List, [], ◌∷◌, ◌++◌, length, map, take, drop, find, replicate, Option, None, Some, is_some, option_map}
use Rattle.std.specs.Option.{option_map_or}
use Rattle.std.specs.List.{list_any}
use Rattle.rr_types.specs.declared.command.RequestNo.{RequestNo}
use Rattle.rr_types.specs.declared.command.Command.{Command}
use Rattle.rr_types.specs.declared.fact.Fact.TheVariants.{Adopt}
use Rattle.rr_types.specs.declared.input.Input.{Input}
use Rattle.rr_types.specs.declared.input.Input.TheVariants.{Submit, Hear, Suspect, Tick, Advance}
use Rattle.rr_types.specs.declared.message.Message.{Message}
use Rattle.rr_types.specs.declared.message.Body.{Body}
use Rattle.rr_types.specs.declared.message.Body.TheVariants.{Estimate, Proposal, Ack, Decision, Request, Nack, Beat, Suspects, Ask}
use Rattle.rr_types.specs.declared.promise.Entry.{Entry}
use Rattle.rr_types.specs.declared.refusal.Refusal.{Refusal}
use Rattle.rr_types.specs.declared.refusal.Refusal.TheVariants.{ListFull, RoundsOut, TooLarge}
use Rattle.rr_types.specs.Groups.{Grouped}
use Rattle.rr_types.specs.Standings.{is_undecided, round_of, stamp_of, proposal_of}
use Rattle.rr_types.specs.Facts.{decision_of}
use Rattle.rr_types.specs.Promises.{take_on_all}
use Rattle.rr_types.specs.Rounds.{Estimated, coordinator_of}
use Rattle.rr_types.specs.Nodes.{with_member}
use Rattle.rr_types.specs.Registry.{is_same_request, has_request}
use Rattle.rr_types.specs.Limits.{instance_count, last_round, max_group}
use Rattle.rr_model.specs.NodeState.{NodeState, Row, Vote, Tally, Owed, no_votes, ◌▷◌, next_number, everyone, others, row_of, put_row, standing_at, is_decided, open_instances, is_open, first_undecided, is_decided_request, decided_prefix}
use Rattle.rr_model.specs.NodeDetector.{new_watch, all_ticked, heard_beat, late_nodes, reduced}
use Rattle.rr_model.specs.NodeParts.{owe, pool_add, stage, backing_at, enter, restate_all, conclude}
use Rattle.rr_model.specs.NodeDue.{settle}

-- whether the request waits for its acknowledgement
abbrev pub is_waiting : NodeState → RequestNo → Bool
is_waiting s q = list_any (λ w. is_same_request w q) s.waiting

-- the request waits, once
unfoldable pub wait_for : RequestNo → NodeState → NodeState
wait_for q s = if is_waiting s q then s else record s { waiting = s.waiting ++ q ∷ [] }

-- submit: a request that the decided prefix holds or that waits already only waits; another waits, is pooled and
-- sent to each other node
unfoldable pub submitted : Command → NodeState → NodeState
submitted c s =
    if has_request (decided_prefix s) c.request || is_waiting s c.request then wait_for c.request s
    else (wait_for c.request s ▷ pool_add c ▷ owe (Request c) None (others s))

-- whether all instances are decided here
abbrev pub is_list_full : NodeState → Bool
is_list_full s = nat_le instance_count (first_undecided s)

-- whether the first undecided instance has a round, or a later one is decided
abbrev pub is_behind : NodeState → Bool
is_behind s = nat_lt 0 (round_of (standing_at s (first_undecided s))) || list_any (λ r. nat_lt (first_undecided s) r.instance && is_decided r) s.rows

-- the node asks these nodes what the first undecided instance has decided
abbrev pub ask : List ℕ → NodeState → NodeState
ask to s = owe (Ask (first_undecided s)) None to s

-- tick: the detector ticks; a beat, the detector's suspects, the restatement of the open instances, and where the
-- node is behind a question
unfoldable pub ticked_on : NodeState → NodeState
ticked_on s =
    (let t = record s { watches = all_ticked s.watches } in
    t ▷ owe Beat None (others t) ▷ owe (Suspects (late_nodes t.node t.watches)) None (everyone t)
    ▷ restate_all (open_instances t) ▷ (λ u. if not (is_list_full u) && is_behind u then ask (others u) u else u))

-- the lowest open instance that has a round
abbrev pub lowest_in_round : NodeState → Option ℕ
lowest_in_round s = find (λ i. nat_lt 0 (round_of (standing_at s i))) (open_instances s)

-- advance: the lowest open instance that has a round enters the next one
unfoldable pub advanced : NodeState → NodeState
advanced s = option_map_or (λ i. enter i (round_of (standing_at s i) + 1) None s) (lowest_in_round s) s

-- the tally with a vote, in its place by senders; the first estimate of a sender is kept
abbrev pub with_vote : Vote → List Vote → List Vote
with_vote v [] = v ∷ []
with_vote v (w ∷ ws) = if nat_lt v.sender w.sender then v ∷ w ∷ ws else (if v.sender == w.sender then w ∷ ws else w ∷ with_vote v ws)

-- the tally of instance i changed so
abbrev pub change_tally : ℕ → (Tally → Tally) → NodeState → NodeState
change_tally i change s = option_map_or (λ (row : Row). record s { rows = put_row (record row { tally = change row.tally }) s.rows }) (row_of s.rows i) s

-- the coordinator keeps an estimate of q
unfoldable pub count_estimate : ℕ → ℕ → Estimated → NodeState → NodeState
count_estimate i q e s =
    change_tally i
    (λ (t : Tally). record t {
      estimates = with_vote (record { sender = q; stamp = e.stamp; command = e.command }) t.estimates;
    })
    s

-- q joins the acknowledgements, or the refusals
unfoldable pub count_ack : ℕ → ℕ → NodeState → NodeState
count_ack i q s = change_tally i (λ (t : Tally). record t { acks = with_member t.acks q }) s

unfoldable pub count_nack : ℕ → ℕ → NodeState → NodeState
count_nack i q s = change_tally i (λ (t : Tally). record t { nacks = with_member t.nacks q }) s

-- where r lies above the round, the instance enters r
abbrev pub catch_up : ℕ → ℕ → Command → NodeState → NodeState
catch_up i r v s = if nat_lt (round_of (standing_at s i)) r then enter i r (Some v) s else s

-- an acknowledgement of round r is owed to q, backed by the Adopt
abbrev pub acknowledge : ℕ → ℕ → ℕ → NodeState → NodeState
acknowledge i r q s = owe (Ack i r) (Some (backing_at (λ b. b.adopted) s i)) (q ∷ []) s

-- a proposal of the present round r: adopt it once; an acknowledgement is owed each time
unfoldable pub take_proposal : ℕ → ℕ → Command → ℕ → NodeState → NodeState
take_proposal i r v q s =
    if round_of (standing_at s i) == r
    then ((if nat_lt (stamp_of (standing_at s i)) r then stage (Adopt i r v) s else s) ▷ acknowledge i r q)
    else s

-- an estimate of the present round r is kept
abbrev pub take_estimate : ℕ → ℕ → Estimated → NodeState → NodeState
take_estimate i q e s = if round_of (standing_at s i) == e.round then count_estimate i q e s else s

-- whether the node has made a proposal in round r of instance i, which is the present one
abbrev pub has_proposed : ℕ → ℕ → NodeState → Bool
has_proposed i r s = round_of (standing_at s i) == r && is_some (proposal_of (standing_at s i))

-- a node that has decided instance i owes q the decision
abbrev pub answer : ℕ → ℕ → NodeState → NodeState
answer i q s = option_map_or (λ v. owe (Decision i v) (Some (backing_at (λ b. b.decided) s i)) (q ∷ []) s) (decision_of (standing_at s i)) s

-- what is said of an undecided instance that isn't open is answered with a question; of an open one it is taken
abbrev pub if_open : ℕ → ℕ → (NodeState → NodeState) → NodeState → NodeState
if_open i q change s = if is_open s i then change s else ask (q ∷ []) s

-- a message body from q
unfoldable pub heard_body : ℕ → Body → NodeState → NodeState
heard_body q (Estimate i e) s =
    if is_undecided (standing_at s i)
    then if_open i q
    (λ t. if coordinator_of e.round t.nodes == t.node
    then t ▷ pool_add e.command ▷ catch_up i e.round e.command ▷ take_estimate i q e
    else t)
    s
    else answer i q s
heard_body q (Proposal i r v) s =
    if is_undecided (standing_at s i)
    then if_open i q (λ t. if coordinator_of r t.nodes == q then t ▷ pool_add v ▷ catch_up i r v ▷ take_proposal i r v q else t) s
    else s
heard_body q (Ack i r) s = if is_open s i && has_proposed i r s then count_ack i q s else s
heard_body q (Decision i v) s = if is_undecided (standing_at s i) then conclude i v s else s
heard_body q (Request c) s = pool_add c s
heard_body q (Nack i r) s = if is_open s i && has_proposed i r s then count_nack i q s else s
heard_body q Beat s = record s { watches = heard_beat q s.watches }
heard_body q (Suspects set) s = record s { suspects = reduced s.suspects q set }
heard_body q (Ask i) s = answer i q s

-- a message; one for another node is dropped
abbrev pub heard : Message → NodeState → NodeState
heard m s = if m.to == s.node then heard_body m.from m.body s else s

-- what an input does at once
unfoldable pub taken_in : Input Message → NodeState → NodeState
taken_in (Submit c) s = submitted c s
taken_in (Suspect set) s = record s { suspects = set }
taken_in Tick s = ticked_on s
taken_in Advance s = advanced s
taken_in (Hear m) s = heard m s

-- the node's step: what the input does, and then all that is due
unfoldable pub node_step : Input Message → NodeState → NodeState
node_step input s = settle (taken_in input s)

-- why a submit is refused: a new request, with all instances decided here
abbrev pub submit_refusal : Command → NodeState → Option Refusal
submit_refusal c s = if is_list_full s && not (is_decided_request s c.request) && not (is_waiting s c.request) then Some ListFull else None

-- why an advance is refused: the instance is in the last round
abbrev pub advance_refusal : NodeState → Option Refusal
advance_refusal s = option_map_or (λ i. if round_of (standing_at s i) == last_round then Some RoundsOut else None) (lowest_in_round s) None

-- why an input is refused for what it is
abbrev pub input_refusal : Input Message → NodeState → Option Refusal
input_refusal (Submit c) s = submit_refusal c s
input_refusal (Suspect set) s = None
input_refusal Tick s = None
input_refusal Advance s = advance_refusal s
input_refusal (Hear m) s = None

-- why an input is refused, memory aside: for what it is, or where it would bring the next fact number past 2^64 - 1
unfoldable pub refusal_of : Input Message → NodeState → Option Refusal
refusal_of input s = first (input_refusal input s)
  where
    first : Option Refusal → Option Refusal
    first None = if nat_lt (next_number (node_step input s)) (2 ^ 64) then None else Some TooLarge
    first (Some refusal) = Some refusal

-- the oldest staged facts, at most 64, become the running group
unfoldable pub group_taken : NodeState → NodeState
group_taken s = record s { running = Some (take max_group s.staged); staged = drop max_group s.staged }

-- the group that runs: its facts, and the number of the first
abbrev pub running_group : NodeState → Option Grouped
running_group s = option_map (λ facts. record { serial = s.marked_end; facts = facts }) s.running

-- the running group is staged again, as before it was taken
unfoldable pub group_put_back : NodeState → NodeState
group_put_back s = record s { running = None; staged = option_map_or (λ facts. facts) s.running [] ++ s.staged }

-- the running group is marked: its facts are promised for good
unfoldable pub marked_running : NodeState → NodeState
marked_running s =
    option_map_or
    (λ facts. record s { running = None; marked = take_on_all s.marked facts; marked_end = s.marked_end + length facts })
    s.running s

-- whether a message may leave: it is free, or the fact that backs it is marked
abbrev pub may_leave : ℕ → Owed → Bool
may_leave marked_end o = option_map_or (λ k. nat_lt k marked_end) o.backing true

-- the oldest owed message that may leave
abbrev pub next_leaving : NodeState → Option Message
next_leaving s = option_map (λ o. o.message) (find (may_leave s.marked_end) s.owed)

-- the owed messages without the oldest that may leave
abbrev pub without_first_leaving : ℕ → List Owed → List Owed
without_first_leaving marked_end [] = []
without_first_leaving marked_end (o ∷ os) = if may_leave marked_end o then os else o ∷ without_first_leaving marked_end os

-- after the oldest message that may leave has left
abbrev pub message_left : NodeState → NodeState
message_left s = record s { owed = without_first_leaving s.marked_end s.owed }

-- the oldest waiting request that the decided prefix holds
abbrev pub next_acknowledged : NodeState → Option RequestNo
next_acknowledged s = find (λ q. has_request (decided_prefix s) q) s.waiting

-- the waiting requests without the oldest that a list of commands holds
abbrev pub without_first_held : List Command → List RequestNo → List RequestNo
without_first_held held [] = []
without_first_held held (q ∷ qs) = if has_request held q then qs else q ∷ without_first_held held qs

-- after that request is acknowledged
abbrev pub acknowledged : NodeState → NodeState
acknowledged s = record s { waiting = without_first_held (decided_prefix s) s.waiting }

-- the row of a promised entry: a fact from before the opening counts as the last one below its end
abbrev pub promised_row : ℕ → Entry → Row
promised_row next e = record {
  instance = e.instance;
  standing = e.standing;
  backing = (let k = next - 1 in record { entered = k; proposed = k; adopted = k; decided = k });
  tally = no_votes;
}

-- a node that knows its facts and nothing else
abbrev pub restored : ℕ → ℕ → List Entry → ℕ → NodeState
restored n p promise next = record {
  nodes = n;
  node = p;
  rows = map (promised_row next) promise;
  marked = promise;
  marked_end = next;
  running = None;
  staged = [];
  pool = [];
  suspects = 0;
  watches = replicate n new_watch;
  waiting = [];
  owed = [];
}

-- a node after its opening: it owes the restatement of its open instances
unfoldable pub started : ℕ → ℕ → List Entry → ℕ → NodeState
started n p promise next = (let s = restored n p promise next in restate_all (open_instances s) s)
