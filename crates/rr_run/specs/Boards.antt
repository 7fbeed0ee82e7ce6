-- The calls of a board, by which a shell asks the clients of nodes, and stops and starts the nodes.
use Rattle.std.specs.Prelude.{◌≡◌, ◌⊎◌, ℕ, Bool, true, false, Option, None, Some}
use Rattle.std.specs.Option.{option_map}
use Rattle.rr_types.specs.declared.command.Command.{Command}
use Rattle.rr_types.specs.declared.command.RequestNo.{RequestNo}
use Rattle.rr_types.specs.declared.refusal.Refusal.{Refusal}
use Rattle.rr_types.specs.declared.summary.NodeSummary.{NodeSummary}
use Rattle.rr_shell.specs.declared.outcome.Outcome.{Outcome}
use Rattle.rr_shell.specs.declared.status.NodeStatus.{NodeStatus}
use Rattle.rr_shell.specs.declared.outcome.Outcome.TheVariants.{Nothing}
use Rattle.rr_shell.specs.Deeds as deeds
use Rattle.rr_shell.specs.Deeds.{Deed, waits, submits, repeats, catches_up, looks, lists, observes, finds_off, stops, starts, snaps, tells}
use Rattle.rr_threads.specs.declared.disputing.Dispute.{Dispute}
use Rattle.rr_run.specs.Differences.{IsWhyBy}
use Rattle.rr_run.specs.declared.asking.Question.{Question}
use Rattle.rr_run.specs.declared.asking.Question.TheVariants as asks
use Rattle.rr_run.specs.declared.asking.Told.{Told}
use Rattle.rr_run.specs.Questions.{node_of, outcome_in, synced_in, sight_in, listing_in, is_written, summary_in}

-- a call, with what it was given and answered: a node is found to be on, or to be up, or not; all are found to have begun, or not; a node is
-- found to have gone down by a refusal, or over a dispute, or not; it is turned off, or on; a question is left; a node's client is rung for; what is told is
-- taken; nothing is told behind a look that saw the end of the run, or didn't; the run is found to be over, or not; and it has ended by a
-- refusal
pub data Call : Type 0 where
  finds_on : (node : ℕ) (is_on : Bool) → Call
  finds_up : (node : ℕ) (is_up : Bool) → Call
  finds_begun : (have_begun : Bool) → Call
  finds_failed : (node : ℕ) (refusal : Option Refusal) → Call
  finds_disputed : (node : ℕ) (dispute : Option Dispute) → Call
  turns_off : (node : ℕ) → Call
  turns_on : (node : ℕ) → Call
  leaves : (question : Question) → Call
  rings : (node : ℕ) → Call
  takes : (told : Told) → Call
  misses : (was_over : Bool) → Call
  finds_over : (is_over : Bool) → Call
  ends : (refusal : Refusal) → Call

-- A call that only looks leaves the board as it is. The others bring it from one state to the next: so what is taken was told behind the
-- question that was left before.

-- nothing was told so far, while the run went on
pub data IsUntold {B : Type 0} (gives : B → Call → B → Type 0) : B → B → Type 0 where
  still : (board : B) → IsUntold gives board board
  once_more : (old mid new : B) → IsUntold gives old mid → gives mid (misses false) new → IsUntold gives old new

-- a question was left, once, and then its node's client was rung for; nothing was told for a while
pub record IsLeft {B : Type 0} (gives : B → Call → B → Type 0) (question : Question) (from to : B) : Type 0 where
  pub left_at : B
  pub rung_at : B
  pub leaving : gives from (leaves question) left_at
  pub ringing : gives left_at (rings (node_of question)) rung_at
  pub waiting : IsUntold gives rung_at to

-- then this was taken as the answer
pub record IsTold {B : Type 0} (gives : B → Call → B → Type 0) (question : Question) (t : Told) (from to : B) : Type 0 where
  pub told_at : B
  pub asked : IsLeft gives question from told_at
  pub taking : gives told_at (takes t) to

-- or nothing was told behind a look that saw the end of the run, which has ended by this refusal
pub record IsUnanswered {B : Type 0} (gives : B → Call → B → Type 0) (question : Question) (e : Refusal) (from to : B) : Type 0 where
  pub missed_at : B
  pub asked : IsLeft gives question from missed_at
  pub missing : gives missed_at (misses true) to
  pub ending : gives to (ends e) to

-- the run was found to be over, and to have ended by this refusal
abbrev pub IsCutOff : {B : Type 0} → (B → Call → B → Type 0) → Refusal → B → Type 0
IsCutOff gives e at = gives at (finds_over true) at × gives at (ends e) at

-- a node was turned on; or off, and then its client rung for
abbrev pub IsTurned : {B : Type 0} → (B → Call → B → Type 0) → ℕ → Bool → B → B → Type 0
IsTurned gives p true from to = gives from (turns_on p) to
IsTurned {B} gives p false from to = (mid : B) × gives from (turns_off p) mid × gives mid (rings p) to

-- a node was turned on, and then found to be up; or off, and then found not to be. Or it isn't so: it was found to be off
abbrev pub IsSwitched : {B : Type 0} → (B → Call → B → Type 0) → ℕ → Bool → Bool → B → B → Type 0
IsSwitched gives p is_on true from to = IsTurned gives p is_on from to × gives to (finds_up p is_on) to
IsSwitched gives p is_on false from to = IsTurned gives p is_on from to × gives to (finds_on p false) to

-- at some time a question was told this
abbrev pub WasTold : {B : Type 0} → (B → Call → B → Type 0) → Question → Told → Type 0
WasTold {B} gives question t = (from : B) × (to : B) × IsTold gives question t from to

-- at some time a node was switched, and is so, or isn't; it was found to be on, or not to be; it was found to have gone down by a refusal,
-- or over a dispute, or not
abbrev pub WasSwitched : {B : Type 0} → (B → Call → B → Type 0) → ℕ → Bool → Bool → Type 0
WasSwitched {B} gives p is_on is_so = (from : B) × (to : B) × IsSwitched gives p is_on is_so from to

abbrev pub WasFound : {B : Type 0} → (B → Call → B → Type 0) → ℕ → Bool → Type 0
WasFound {B} gives p is_on = (at : B) × gives at (finds_on p is_on) at

abbrev pub WasFailed : {B : Type 0} → (B → Call → B → Type 0) → ℕ → Option Refusal → Type 0
WasFailed {B} gives p refusal = (at : B) × gives at (finds_failed p refusal) at

abbrev pub WasDisputed : {B : Type 0} → (B → Call → B → Type 0) → ℕ → Option Dispute → Type 0
WasDisputed {B} gives p dispute = (at : B) × gives at (finds_disputed p dispute) at

-- at some time a node was down: it was found not to be on, or it was asked how it is, and didn't tell
abbrev pub WasDown : {B : Type 0} → (B → Call → B → Type 0) → ℕ → Type 0
WasDown gives p = WasFound gives p false ⊎ ((t : Told) × WasTold gives (asks.Summary p) t × (summary_in t ≡ None))

-- a status tells why a node is down, by the dispute and the refusal by which it was found to be
abbrev pub IsToldWhy : {B : Type 0} → (B → Call → B → Type 0) → NodeStatus → Type 0
IsToldWhy gives s =
    (d : Option Dispute) × (e : Option Refusal) × WasDisputed gives s.node d × WasFailed gives s.node e
    × IsWhyBy d e (option_map (λ v. v.items) s.failure)

-- a status tells that node p is down, and why
abbrev pub IsToldDown : {B : Type 0} → (B → Call → B → Type 0) → ℕ → NodeStatus → Type 0
IsToldDown gives p s = (s.node ≡ p) × (s.summary ≡ None) × IsToldWhy gives s

-- what came of a request, by what was told to the question that submits it
abbrev pub Came : {B : Type 0} → (B → Call → B → Type 0) → Question → RequestNo → Outcome → Type 0
Came gives question q o = (t : Told) × WasTold gives question t × (o ≡ outcome_in (node_of question) q t)

-- the same of a sync under this request number
abbrev pub CameOfSync : {B : Type 0} → (B → Call → B → Type 0) → ℕ → RequestNo → Outcome → Type 0
CameOfSync gives p q o = (t : Told) × WasTold gives (asks.Sync p q) t × (o ≡ synced_in p q t)

-- what was done, by the calls that were made: all nodes were found to have begun. Or for a line: the node of the line was asked what it asks, and
-- what came of that was told; or that node was switched, or was found to be on, or not to be
abbrev pub DidBy : {B : Type 0} → (B → Call → B → Type 0) → Deed → Type 0
DidBy {B} gives waits = (at : B) × gives at (finds_begun true) at
DidBy gives (submits p op o) = (q : RequestNo) × Came gives (asks.Submit p (record { request = q; op = op })) q o
DidBy gives (repeats p o) = (o ≡ Nothing) ⊎ ((c : Command) × Came gives (asks.Submit p c) c.request o)
DidBy gives (catches_up p o) = (q : RequestNo) × CameOfSync gives p q o
DidBy gives (looks p name a) = (t : Told) × WasTold gives (asks.Look p name) t × (a ≡ sight_in p name t)
DidBy gives (lists p prefix l) = (t : Told) × WasTold gives (asks.Names p prefix) t × (l ≡ listing_in p prefix t)
DidBy gives (observes p prefix) = (t : Told) × WasTold gives (asks.Watch p prefix) t
DidBy gives (deeds.finds_on p) = WasFound gives p true
DidBy gives (finds_off p) = WasFound gives p false
DidBy gives (stops p) = WasSwitched gives p false true
DidBy gives (starts p is_up) = WasSwitched gives p true is_up
DidBy gives (snaps p written) =
    (WasFound gives p false × (written ≡ false)) ⊎ ((t : Told) × WasTold gives (asks.Snapshot p) t × (written ≡ is_written t))
DidBy gives (tells s) =
    ((t : Told) × (k : NodeSummary) × WasTold gives (asks.Summary s.node) t × (summary_in t ≡ Some k) × (s.summary ≡ Some k) × (s.failure ≡ None))
    ⊎ ((s.summary ≡ None) × WasDown gives s.node × IsToldWhy gives s)

-- any call: nothing is said of what the calls of a post do
abbrev pub any_call : {B : Type 0} → B → Call → B → Type 0
any_call old call new = Unit {0}
