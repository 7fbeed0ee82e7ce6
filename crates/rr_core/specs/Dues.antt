-- What the code finds due, in the words of the node's definition, and when it can be carried out.
use Rattle.std.specs.Prelude.{◌≡◌, ℕ, ◌<◌, true, None, Some}
use Rattle.rr_types.specs.Standings.{round_of, is_undecided}
use Rattle.rr_types.specs.Limits.{last_round}
use Rattle.rr_model.specs.NodeState.{NodeState, standing_at}
use Rattle.rr_model.specs.NodeParts.{free_command}
use Rattle.rr_model.specs.NodeDue as model
use Rattle.rr_core.specs.declared.due.Due.{Due}
use Rattle.rr_core.specs.declared.due.Due.TheVariants.{Begin, Offer, Conclude, MoveOn}
use Rattle.rr_core.specs.declared.due.Found.{Found}
use Rattle.rr_core.specs.declared.due.Found.TheVariants as found

-- what is due, in the words of the definitions
abbrev pub meaning_of : Due → model.Due
meaning_of (Begin i v) = model.Begin i
meaning_of (Offer i r v) = model.Offer i r v
meaning_of (Conclude i v) = model.Conclude i v
meaning_of (MoveOn i) = model.MoveOn i

-- what was found to be due, whose command is lent
abbrev pub due_in : Found → Due
due_in (found.Begin i v) = Begin i v.now
due_in (found.Offer i r v) = Offer i r v.now
due_in (found.Conclude i v) = Conclude i v.now
due_in (found.MoveOn i) = MoveOn i

-- only an instance below the last round moves on
abbrev pub MovesBelowLast : ℕ → Due → Type 0
MovesBelowLast r (Begin i v) = Unit {0}
MovesBelowLast r (Offer i q v) = Unit {0}
MovesBelowLast r (Conclude i v) = Unit {0}
MovesBelowLast r (MoveOn i) = r < last_round

-- an instance that begins is named by no fact, and the command is the pool's for it; one that moves on isn't in the last
-- round; none is decided
abbrev pub CanBeCarriedOut : NodeState → Due → Type 0
CanBeCarriedOut s (Begin i v) = (standing_at s i ≡ None) × (free_command s i ≡ Some v)
CanBeCarriedOut s (Offer i r v) = Unit {0}
CanBeCarriedOut s (Conclude i v) = is_undecided (standing_at s i) ≡ true
CanBeCarriedOut s (MoveOn i) = (round_of (standing_at s i) < last_round) × (is_undecided (standing_at s i) ≡ true)
