-- What a shell asks a node, and what it takes from what is told.
use Rattle.std.specs.Prelude.{ℕ, Bool, false, if◌then◌else◌, List, Option, None, Some, is_some}
use Rattle.rr_types.specs.declared.command.RequestNo.{RequestNo}
use Rattle.rr_types.specs.declared.summary.NodeSummary.{NodeSummary}
use Rattle.rr_types.specs.Registry.{is_same_request}
use Rattle.rr_text.specs.declared.answer.Answer.{Answer}
use Rattle.rr_text.specs.declared.answer.Answer.TheVariants.{Acknowledged, Unacknowledged, Unseen}
use Rattle.rr_shell.specs.declared.listing.Listing.{Listing}
use Rattle.rr_shell.specs.declared.outcome.Outcome.{Outcome}
use Rattle.rr_shell.specs.declared.outcome.Outcome.TheVariants.{Answered, ListFull, Used, Nothing, Whole}
use Rattle.rr_shell.specs.Listings.{is_listing_at}
use Rattle.rr_shell.specs.Talks.{is_sight_at}
use Rattle.rr_run.specs.declared.asking.Question.{Question}
use Rattle.rr_run.specs.declared.asking.Question.TheVariants as asks
use Rattle.rr_run.specs.declared.asking.Told.{Told}
use Rattle.rr_run.specs.declared.asking.Told.TheVariants as told

-- the node that is asked
abbrev pub node_of : Question → ℕ
node_of (asks.Submit p c) = p
node_of (asks.Sync p q) = p
node_of (asks.Look p name) = p
node_of (asks.Names p prefix) = p
node_of (asks.Watch p prefix) = p
node_of (asks.Changes p) = p
node_of (asks.Summary p) = p
node_of (asks.Snapshot p) = p
node_of (asks.Greatest p client) = p

-- the answer to a request at node p, by the answer that is told: the reply, if it is to this request
abbrev pub answer_in : ℕ → RequestNo → Answer → Answer
answer_in p q (Acknowledged at own reply) = if is_same_request own q then Acknowledged p q reply else Unacknowledged p q
answer_in p q _ = Unacknowledged p q

-- what a submit of a request at node p has come to, by what is told that it has
abbrev pub outcome_at : ℕ → RequestNo → Outcome → Outcome
outcome_at p q (Answered answer) = Answered (answer_in p q answer)
outcome_at p q ListFull = ListFull
outcome_at p q (Used other) = Used (record { request = q; op = other.op })
outcome_at p q Nothing = Answered (Unacknowledged p q)
outcome_at p q Whole = Answered (Unacknowledged p q)

-- the same, by what is told; it isn't acknowledged where something else is
abbrev pub outcome_in : ℕ → RequestNo → Told → Outcome
outcome_in p q (told.Outcome outcome s) = outcome_at p q outcome
outcome_in p q _ = Answered (Unacknowledged p q)

-- what a sync at node p has come to, by what is told: that a full list is published, or as a submit
abbrev pub synced_in : ℕ → RequestNo → Told → Outcome
synced_in p q (told.Outcome Whole s) = Whole
synced_in p q t = outcome_in p q t

-- what a look at a name at node p has seen, by what is told: nothing where that is no such answer
abbrev pub sight_in : ℕ → List ℕ → Told → Answer
sight_in p name (told.Sight answer) = if is_sight_at p name answer then answer else Unseen p name
sight_in p name _ = Unseen p name

-- the names at node p that begin so, by what is told: none were seen where that is no such list
abbrev pub listing_in : ℕ → Option (List ℕ) → Told → Listing
listing_in p prefix (told.Listing listing) = if is_listing_at p prefix listing then listing else record { node = p; names = None }
listing_in p prefix _ = record { node = p; names = None }

-- whether a snapshot is written, by what is told
abbrev pub is_written : Told → Bool
is_written (told.Written written) = is_some written
is_written _ = false

-- a node in brief, by what is told
abbrev pub summary_in : Told → Option NodeSummary
summary_in (told.Summary summary) = Some summary
summary_in _ = None
