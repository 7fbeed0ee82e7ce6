-- A guest as a client, and what its calls give.
use Rattle.std.specs.Prelude.{◌≡◌, ◌≢◌, ◌⊎◌, ◌+◌, ◌-◌, ◌<◌, ◌≤◌, ℕ, Bool, true, false, List, [], length, Option, None, Some, Result, Ok, Err, IfOk, IfErr, IsErrAnd, Vec}
use Rattle.std.specs.declared.alloc.Global.{Global}
use mathlib.Core.List.{IsPrefix}
use Rattle.rr_types.specs.declared.binding.Binding.{Binding}
use Rattle.rr_types.specs.declared.command.Op.{Op}
use Rattle.rr_types.specs.declared.command.Command.{Command}
use Rattle.rr_types.specs.declared.command.RequestNo.{RequestNo}
use Rattle.rr_types.specs.declared.command.Reply.{Reply}
use Rattle.rr_types.specs.Registry.{registry_of, holding_of, reply_of}
use Rattle.rr_window.specs.declared.sight.Sight.{Sight}
use Rattle.rr_window.specs.declared.change.Change.{Change}
use Rattle.rr_window.specs.Sights.{sight_of, bindings_with}
use Rattle.rr_window.specs.Watches.{IsWatched}
use Rattle.rr_client.specs.declared.names.Awaited.{Awaited}
use Rattle.rr_client.specs.declared.names.Awaited.TheVariants.{Changed, TimeIsOver}
use Rattle.rr_client.specs.declared.error.ClusterError.{ClusterError}
use Rattle.rr_client.specs.declared.error.ClusterError.TheVariants.{Numbers, Unacknowledged, NothingToAsk, ListFull, NumberUsed, Over, Unseen, OutOfMemory, Late, System}

-- a client: its node, its number, the longest list that it has seen or learned, the least number that its next request may have,
-- the command that isn't acknowledged yet, the one that it has had submitted last, and the list up to where it has been told of changes
pub record Asker : Type 0 where
  pub node : ℕ
  pub client : ℕ
  pub known : List Command
  pub next : ℕ
  pub unanswered : Option Command
  pub asked : Option Command
  pub told : List Command

-- from one state of a client to a later one: it is the same client at the same node, it knows no less, gives no number twice, and
-- isn't told of changes
abbrev pub GoesOn : Asker → Asker → Type 0
GoesOn a b = (b.node ≡ a.node) × (b.client ≡ a.client) × IsPrefix a.known b.known × (a.next ≤ b.next) × (b.told ≡ a.told)

-- the same, but it is told of changes, up to what it then knows, and what else it has to do stays the same
abbrev pub IsTold : Asker → Asker → Type 0
IsTold a b =
    (b.node ≡ a.node) × (b.client ≡ a.client) × IsPrefix a.known b.known × (b.next ≡ a.next) × (b.unanswered ≡ a.unanswered) × (b.told ≡ b.known)

-- the number of the last request of a client
abbrev pub last_request : Asker → RequestNo
last_request a = record { client = a.client; seq = a.next - 1 }

-- that there is no request number
abbrev pub IsNumberless : ClusterError → Type 0
IsNumberless (Numbers refusal) = Unit {0}
IsNumberless _ = ⊥

-- why a command isn't acknowledged
abbrev pub IsUnanswered : Command → ClusterError → Type 0
IsUnanswered c (Unacknowledged d) = d ≡ c
IsUnanswered c (NumberUsed d) = d ≡ c
IsUnanswered c Over = Unit {0}
IsUnanswered c ListFull = Unit {0}
IsUnanswered c _ = ⊥

-- the command that is kept to be asked again behind what a submit of it has come to
abbrev pub kept_behind : Command → Result Reply ClusterError → Option Command
kept_behind c (Err (Unacknowledged d)) = Some c
kept_behind c (Err Over) = Some c
kept_behind c _ = None

-- what a submit of a command comes to: a reply is that of the list that the client then knows, where just this command was submitted
abbrev pub ComesTo : Command → Asker → Result Reply ClusterError → Type 0
ComesTo c b result =
    IfOk result (λ reply. (reply_of b.known c.request ≡ Some reply) × (b.asked ≡ Some c)) × IfErr result (IsUnanswered c)
    × (b.unanswered ≡ kept_behind c result)

-- a submit of an operation: as a command with the next request number, which is new; or there is no number, and nothing has changed
abbrev pub IsSubmitted : Op → Asker → Asker → Result Reply ClusterError → Type 0
IsSubmitted op a b result =
    (IsErrAnd result IsNumberless × (b ≡ a)) ⊎ ((a.next < b.next) × ComesTo (record { request = last_request b; op = op }) b result)

-- one more submit of the command that is kept
abbrev pub IsAskedAgain : Option Command → Asker → Asker → Result Reply ClusterError → Type 0
IsAskedAgain None a b result = (result ≡ Err NothingToAsk) × (b ≡ a)
IsAskedAgain (Some c) a b result = (b.next ≡ a.next) × ComesTo c b result

abbrev pub IsSubmittedAgain : Asker → Asker → Result Reply ClusterError → Type 0
IsSubmittedAgain a b result = IsAskedAgain a.unanswered a b result

-- a sync: a request with the next number has a reply by the list that the client then knows. What is kept stays
abbrev pub IsSynced : Asker → Asker → Result (Unit {0}) ClusterError → Type 0
IsSynced a b (Ok _) = (b.unanswered ≡ a.unanswered) × (a.next < b.next) × ((reply : Reply) × (reply_of b.known (last_request b) ≡ Some reply))
IsSynced a b (Err _) = b.unanswered ≡ a.unanswered

-- a look at a name: who has it by the list that the client then knows. Where nothing is seen, nothing has changed
abbrev pub IsLooked : List ℕ → Asker → Asker → Result Sight ClusterError → Type 0
IsLooked name a b (Ok sight) = (sight ≡ sight_of (holding_of (registry_of b.known) name)) × (b.unanswered ≡ a.unanswered) × (b.next ≡ a.next)
IsLooked name a b (Err e) = (e ≡ Unseen) × (b ≡ a)

-- a list of the names that begin with these bytes, by the list that the client then knows. Where nothing is seen, nothing has changed
abbrev pub IsListed : List ℕ → Asker → Asker → Result (Vec Binding Global) ClusterError → Type 0
IsListed prefix a b (Ok v) = (v.items ≡ bindings_with prefix (registry_of b.known)) × (b.unanswered ≡ a.unanswered) × (b.next ≡ a.next)
IsListed prefix a b (Err e) = ((e ≡ Unseen) ⊎ (e ≡ OutOfMemory)) × (b ≡ a)

-- the bound names from which a watch begins, by the list that the client then knows. Where nothing is seen, nothing has changed
abbrev pub IsWatching : List ℕ → Asker → Asker → Result (Vec Binding Global) ClusterError → Type 0
IsWatching prefix a b (Ok v) = IsTold a b × (v.items ≡ bindings_with prefix (registry_of b.known))
IsWatching prefix a b (Err e) = ((e ≡ Unseen) ⊎ (e ≡ OutOfMemory)) × (b ≡ a)

-- the changes of the commands behind those that the client was told before; or these are too many, and a new watch has begun. Where
-- nothing is seen, nothing has changed
abbrev pub IsToldOf : List ℕ → Asker → Asker → Result (Vec Change Global) ClusterError → Type 0
IsToldOf prefix a b (Ok v) = IsTold a b × IsWatched prefix a.told b.told v.items
IsToldOf prefix a b (Err Late) = IsTold a b × (length a.told + 1024 < length b.told)
IsToldOf prefix a b (Err Unseen) = b ≡ a
IsToldOf prefix a b (Err OutOfMemory) = b ≡ a
IsToldOf prefix a b (Err _) = ⊥

-- from one state of a client to a later one: it may be told of more commands, but they change no name that begins so
abbrev pub IsQuiet : List ℕ → Asker → Asker → Type 0
IsQuiet prefix a b =
    (b.node ≡ a.node) × (b.client ≡ a.client) × IsPrefix a.known b.known × (b.next ≡ a.next) × (b.unanswered ≡ a.unanswered)
    × IsWatched prefix a.told b.told []

-- what a wait for changes gives: all changes of the commands behind those that the client was told before, one at least; or the time is
-- over, and up to what it then knows there are none; or at some look there were none yet, and too many commands at the next one. Behind
-- another error there were none
abbrev pub IsAwaited : List ℕ → Asker → Asker → Result Awaited ClusterError → Type 0
IsAwaited prefix a b (Ok (Changed v)) = IsTold a b × IsWatched prefix a.told b.told v.items × (v.items ≢ [])
IsAwaited prefix a b (Ok TimeIsOver) = IsTold a b × IsWatched prefix a.told b.told []
IsAwaited prefix a b (Err Late) = IsTold a b × ((quiet : List Command) × IsWatched prefix a.told quiet [] × (length quiet + 1024 < length b.told))
IsAwaited prefix a b (Err Over) = IsQuiet prefix a b
IsAwaited prefix a b (Err Unseen) = IsQuiet prefix a b
IsAwaited prefix a b (Err OutOfMemory) = IsQuiet prefix a b
IsAwaited prefix a b (Err (System e)) = IsQuiet prefix a b
IsAwaited prefix a b (Err _) = ⊥

-- what one look of a wait gives, whose time may be over: what the wait gives; or nothing, where there is none and time is left
abbrev pub IsLookedFor : List ℕ → Bool → Asker → Asker → Result (Option Awaited) ClusterError → Type 0
IsLookedFor prefix late a b (Ok None) = (late ≡ false) × IsQuiet prefix a b
IsLookedFor prefix late a b (Ok (Some TimeIsOver)) = (late ≡ true) × IsAwaited prefix a b (Ok TimeIsOver)
IsLookedFor prefix late a b (Ok (Some (Changed v))) = IsAwaited prefix a b (Ok (Changed v))
IsLookedFor prefix late a b (Err e) = IsAwaited prefix a b (Err e)

-- that the clock can't be read
abbrev pub IsUntimed : ClusterError → Type 0
IsUntimed (System e) = Unit {0}
IsUntimed _ = ⊥

-- that the node goes down, or the clock can't be read
abbrev pub IsOver : ClusterError → Type 0
IsOver Over = Unit {0}
IsOver (System e) = Unit {0}
IsOver _ = ⊥
