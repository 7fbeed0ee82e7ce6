-- A client has a command submitted, and waits for the reply.
use Rattle.std.specs.Prelude.{◌≡◌, ◌≤◌, ◌++◌, ◌∷◌, [], ℕ, zero, suc, List, true, false, Option}
use Rattle.rr_types.specs.declared.command.Command.{Command}
use Rattle.rr_types.specs.declared.command.RequestNo.{RequestNo}
use Rattle.rr_turn.specs.Asked.{Call, Ran, wants_reply, notes_wanted, wakes_loop, sees_told, sees_end, rests_there, collects}

-- so often it is told nothing, sees no end of its node, and rests
unfoldable pub waits : ℕ → List Call
waits zero = []
waits (suc n) = sees_told false ∷ sees_end false ∷ rests_there ∷ waits n

-- why it waits no more: it is told; or its node goes down; or it has looked as often as it may
pub data Stop : Type 0 where
  is_told : Stop
  is_ending : Stop
  is_late : Stop

-- what it sees then
abbrev pub seen : Stop → List Call
seen is_told = sees_told true ∷ []
seen is_ending = sees_told false ∷ sees_end true ∷ []
seen is_late = []

-- it rests so often, at most as often as it may look, and gives up only where it has rested just as often
pub record WaitsAt {E : Type 0} (gives : E → Call → E → Type 0) (looks rests : ℕ) (from to : E) : Type 0 where
  pub stop : Stop
  pub calls : Ran gives (waits rests ++ seen stop) from to
  pub few : rests ≤ looks
  pub late : stop ≡ is_late → rests ≡ looks

-- a client puts the command on its counter, notes it, and rings for the loop of its node: in this order, so that the loop finds the command
-- where it finds the note. Then it waits, and takes what has come
pub record Awaits {E : Type 0} (gives : E → Call → E → Type 0) (node : ℕ) (command : Command) (looks rests : ℕ)
    (receipt : Option RequestNo) (from to : E) : Type 0 where
  pub asked_at : E
  pub waited_at : E
  pub asks : Ran gives (wants_reply command ∷ notes_wanted ∷ wakes_loop node ∷ []) from asked_at
  pub waits_at : WaitsAt gives looks rests asked_at waited_at
  pub takes : gives waited_at (collects receipt) to
