-- A node is asked for what its clients want.
use Rattle.std.specs.Prelude.{◌≡◌, ℕ, zero, suc, ◌+◌, ◌∷◌, [], Bool, if◌then◌else◌, List, Option, None, Some, Result, Ok, Err, is_some}
use Rattle.rr_types.specs.declared.command.Command.{Command}
use Rattle.rr_types.specs.declared.input.Input.TheVariants.{Submit}
use Rattle.rr_types.specs.declared.refusal.Refusal.{Refusal}
use Rattle.rr_types.specs.Registry.{reply_of}
use Rattle.rr_model.specs.NodeState.{NodeState, decided_prefix}
use Rattle.rr_model.specs.NodeStep.{node_step}
use Rattle.rr_turn.specs.Asked.{Call, Ran, tells, counts, wants, refuses, wakes_publisher}

-- what follows the node's answer to a command of the client at a place: that client is told of a refusal, or the publisher is rung where
-- the reply is there already
abbrev pub answering : ℕ → Command → NodeState → Result (Unit {0}) Refusal → List Call
answering place command s (Ok done) = if is_some (reply_of (decided_prefix (node_step (Submit command) s)) command.request) then wakes_publisher ∷ [] else []
answering place command s (Err refusal) = refuses place refusal ∷ []

-- the node is told the command, once
abbrev pub asking : ℕ → Command → NodeState → Result (Unit {0}) Refusal → List Call
asking place command s answer = tells s (Submit command) answer ∷ answering place command s answer

module _ {L : Type 0} (gives : L → Call → L → Type 0) where
  -- it is told what the client at a place wants, if it wants something
  abbrev pub AsksIf : Option Command → ℕ → L → L → Type 0
  AsksIf None place from to = to ≡ from
  AsksIf (Some command) place from to = (s : NodeState) × (answer : Result (Unit {0}) Refusal) × Ran gives (asking place command s answer) from to

  abbrev pub AsksAt : ℕ → Bool → L → L → Type 0
  AsksAt place has from to =
      (command : Option Command) × (has ≡ is_some command) × (mid : L) × gives from (wants place command) mid × AsksIf command place mid to

  -- of so many places, from one on, each in its turn; so many clients wanted something
  abbrev pub AsksFrom : ℕ → ℕ → ℕ → L → L → Type 0
  AsksFrom zero place count from to = (count ≡ 0) × (to ≡ from)
  AsksFrom (suc n) place count from to =
      (has : Bool) × (mid : L) × (later : ℕ) × AsksAt place has from mid × AsksFrom n (place + 1) later mid to × (count ≡ (if has then 1 else 0) + later)

  -- all places, lowest first
  abbrev pub AsksAll : ℕ → L → L → Type 0
  AsksAll count from to = (clients : ℕ) × (mid : L) × gives from (counts clients) mid × AsksFrom clients 0 count mid to
