-- A node that a crash has left, and which opens its disk alone.
use Rattle.std.specs.Prelude.{◌≡◌, ℕ, zero, suc, ◌+◌, ◌≤◌, length, Ok}
use Rattle.rr_types.specs.Registry.{Bindings}
use Rattle.rr_model.specs.NodeState.{NodeState}
use Rattle.rr_model.specs.World.{World}
use Rattle.rr_journal.specs.Openings as phase
use Rattle.rr_types.specs.declared.event.NodeEvent.TheVariants.{Device}
use Rattle.rr_node.specs.declared.event.Outcome.TheVariants.{Quiet, Opened}
use Rattle.rr_node.specs.Runs.{IsSpelt}
use Rattle.rr_node.specs.Seats.{Seat, Doing, Stopped, Faulted, Opening, Serving, Resting, Journaled, seat_step}
use Rattle.rr_node.specs.Worlds.{InStep}
use Rattle.rr_text.specs.declared.report.ReportLine.{ReportLine}
use Rattle.rr_text.specs.declared.report.ReportLine.TheVariants as line
use Rattle.rr_sim.specs.Clusters.{shown}

-- so many device calls, which tell nothing, lead from one seat to another where memory is there
abbrev pub MakesCalls : ℕ → Seat → Seat → Type 0
MakesCalls zero old new = new ≡ old
MakesCalls (suc k) old new = (next : Seat) × (seat_step Device old ≡ (Ok Quiet, next)) × IsSpelt next.doing × MakesCalls k next new

-- where memory is there, node p, which is down, is restarted and makes nine device calls; at one of them its opening ends,
-- as this line of a report tells, and those behind it do nothing
pub record Opens (p : ℕ) (seat : Seat) (told : ReportLine) : Type 0 where
  pub facts : ℕ
  pub decided : ℕ
  pub names : Bindings
  pub tells : told ≡ line.Restart p facts decided (shown names)
  pub down : seat.doing ≡ Stopped
  pub calls : ℕ
  pub more : ℕ
  pub nine : calls + suc more ≡ 9
  pub before : Seat
  pub after : Seat
  pub begins : MakesCalls calls (record seat { doing = Opening phase.Settling }) before
  pub ends : seat_step Device before ≡ (Ok (Opened facts decided names), after)
  pub spelt : IsSpelt after.doing
  pub rests : MakesCalls more after after

-- at most so many device calls are left of an opening
abbrev pub AreLeft : ℕ → Doing → Type 0
AreLeft left Stopped = ⊥
AreLeft left Faulted = ⊥
AreLeft left (Opening phase.Settling) = 9 ≤ left
AreLeft left (Opening phase.ReadingFirst) = 8 ≤ left
AreLeft left (Opening (phase.ReadingSecond first)) = 7 ≤ left
AreLeft left (Opening (phase.Rewriting found calls)) = (1 ≤ length calls) × (length calls ≤ left)
AreLeft left (Serving s journal flush) = ⊥

-- node p of n is in step with some world, as it is after any run of a schedule
pub record IsInSome (n p : ℕ) (seat : Seat) : Type 0 where
  pub few : n ≤ 7
  pub world : World
  pub in_step : InStep n p seat world

-- such a node opens its disk, with at most so many device calls left
pub record IsOpening (n p left : ℕ) (seat : Seat) : Type 0 where
  pub stands : IsInSome n p seat
  pub left_of_it : AreLeft left seat.doing

-- the opening of a node has ended: it serves, and no job runs
pub record HasOpened (doing : Doing) : Type 0 where
  pub state : NodeState
  pub journal : Journaled
  pub is : doing ≡ Serving state journal Resting
