-- Failures and disputes by which nodes go down, and lives that count as up.
use Rattle.std.specs.Prelude.{ℕ, Bool, ◌%◌, ◌==◌, ◌&&◌, ◌||◌, not, if◌then◌else◌, Option, None, Some}
use Rattle.rr_types.specs.declared.refusal.Refusal.{Refusal}
use Rattle.rr_threads.specs.declared.disputing.Dispute.{Dispute}
use Rattle.rr_threads.specs.declared.switches.Trip.{Trip}
use Rattle.rr_threads.specs.declared.switches.Noted.{Noted}

-- the failure by which a switch stands where it does, which was moved so often: the one that moved it last, if one did
abbrev pub failure_at : Option Trip → ℕ → Option Refusal
failure_at None moves = None
failure_at (Some t) moves = if t.moves == moves then Some t.refusal else None

-- the dispute by which a node went down whose switch was moved so often, if it went down by one
abbrev pub dispute_at : Option Noted → ℕ → Option Dispute
dispute_at None moves = None
dispute_at (Some n) moves = if n.moves == moves then Some n.dispute else None

-- whether a node counts as up whose last life came up by the start at this move: its switch, if it is on, stands at that start
abbrev pub is_life_up : Bool → ℕ → ℕ → Bool
is_life_up up life moves = up && (life == moves || not (moves % 2 == 0))
