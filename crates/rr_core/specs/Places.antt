-- To which nodes a body goes, and which commands are free for an instance: those that are no other instance's estimate.
use Rattle.std.specs.Prelude.{◌≡◌, ℕ, Bool, true, false, not, ◌&&◌, ◌==◌, List, filter, find, Option, None, option_map}
use Rattle.std.specs.Option.{option_map_or}
use Rattle.std.specs.List.{list_any, range_with_len}
use Rattle.rr_types.specs.declared.command.RequestNo.{RequestNo}
use Rattle.rr_types.specs.declared.command.Command.{Command}
use Rattle.rr_types.specs.declared.fact.Fact.{Fact}
use Rattle.rr_types.specs.declared.fact.Fact.TheVariants.{Enter, Propose, Adopt, Decide}
use Rattle.rr_types.specs.Registry.{is_same_request}
use Rattle.rr_types.specs.declared.message.Body.{Body}
use Rattle.rr_types.specs.Commands.{is_same_command}
use Rattle.rr_types.specs.declared.promise.Standing.{Standing}
use Rattle.rr_types.specs.Standings.{round_of, stamp_of, estimate_of, proposal_of}
use Rattle.rr_model.specs.NodeState.{Row, Owed, row_of}
use Rattle.rr_core.specs.declared.owing.Reach.{Reach}
use Rattle.rr_core.specs.declared.owing.Reach.TheVariants.{Everyone, Others}

-- a body that one node owes another
abbrev pub message_to : ℕ → ℕ → Body → Option ℕ → Owed
message_to from to body backing = record { message = record { from = from; to = to; body = body }; backing = backing }

-- the nodes below n but one, ascending
unfoldable pub nodes_beside : ℕ → ℕ → List ℕ
nodes_beside node n = filter (λ q. not (q == node)) (range_with_len 0 n)

-- whether a body of one node that goes so far goes to another
abbrev pub is_reached : Reach → ℕ → ℕ → Bool
is_reached Everyone from to = true
is_reached Others from to = not (to == from)

-- the nodes below n to which a body of a node goes, ascending
abbrev pub reached : Reach → ℕ → ℕ → List ℕ
reached Everyone from n = range_with_len 0 n
reached Others from n = nodes_beside from n

-- an instance that stands so has no round: no fact names it, or it has decided
pub record HasNoRound (s : Option Standing) : Type 0 where
  pub round : round_of s ≡ 0
  pub stamp : stamp_of s ≡ 0
  pub estimate : estimate_of s ≡ None
  pub proposal : proposal_of s ≡ None

-- whether a command is the estimate of instance i
unfoldable pub is_estimate_of : List Row → ℕ → Command → Bool
is_estimate_of rows i c = option_map_or (λ v. is_same_command v c) (estimate_of (option_map (λ r. r.standing) (row_of rows i))) false

-- whether a command is the estimate of one of these instances but i
unfoldable pub is_estimate_beside : List Row → List ℕ → ℕ → Command → Bool
is_estimate_beside rows instances i c = list_any (λ j. not (j == i) && is_estimate_of rows j c) instances

-- the first command that is no estimate of one of these instances but i
unfoldable pub first_free : List Row → List ℕ → ℕ → List Command → Option Command
first_free rows instances i pool = find (λ c. not (is_estimate_beside rows instances i c)) pool

-- whether a command has none of the request numbers that were taken, and is no estimate of one of these instances but i
unfoldable pub is_free : List Row → List ℕ → ℕ → List RequestNo → Command → Bool
is_free rows instances i taken c = not (list_any (λ q. is_same_request q c.request) taken) && not (is_estimate_beside rows instances i c)

-- whether a fact leaves its instance this estimate, if it has one, or decides on it
abbrev pub leaves_estimate : Fact → Option Command → Bool
leaves_estimate (Enter i e) x = option_map_or (λ v. is_same_command v e.command) x true
leaves_estimate (Propose i r w) x = true
leaves_estimate (Adopt i r w) x = option_map_or (λ v. is_same_command v w) x true
leaves_estimate (Decide i w) x = option_map_or (λ v. is_same_command v w) x true

-- whether a fact enters a round with this command
abbrev pub enters_with : Fact → Command → Bool
enters_with (Enter i e) c = is_same_command e.command c
enters_with (Propose i r w) c = false
enters_with (Adopt i r w) c = false
enters_with (Decide i w) c = false
