-- A schedule: how many nodes there are, its events, and what may stand in it.
use Rattle.std.specs.Prelude.{ℕ, ◌^◌, ◌<◌, ◌≤◌, List, length}
use Rattle.std.specs.List.{AllByRecursion}
use Rattle.rr_types.specs.declared.input.Input.{Input}
use Rattle.rr_types.specs.declared.input.Input.TheVariants.{Submit, Hear, Suspect}
use Rattle.rr_types.specs.declared.event.NodeEvent.TheVariants.{Told}
use Rattle.rr_types.specs.Limits.{max_events, max_nodes}
use Rattle.rr_text.specs.declared.event.Event.{Event}
use Rattle.rr_text.specs.declared.event.Happening.{Happening}
use Rattle.rr_text.specs.declared.event.Happening.TheVariants.{At, Fail, Crash}
use Rattle.rr_text.specs.Words.{IsCommand, IsFill}

-- a schedule: how many nodes there are, and the events
pub record Scheduled : Type 0 where
  pub nodes : ℕ
  pub events : List Event

-- what a node is told is in its range, among n nodes
abbrev pub IsInput : ℕ → Input ℕ → Type 0
IsInput n (Submit c) = IsCommand c
IsInput n (Hear k) = k < 2 ^ 32
IsInput n (Suspect s) = s < 2 ^ n
IsInput n _ = Unit {0}

-- so is what happens at a node
abbrev pub IsInRange : ℕ → Happening → Type 0
IsInRange n (At (Told input)) = IsInput n input
IsInRange n (At event) = Unit {0}
IsInRange n (Fail f) = IsFill f
IsInRange n (Crash a b f) = (a < 2 ^ 32) × (b < 2 ^ 32) × IsFill f

-- an event among n nodes
pub record IsEvent (n : ℕ) (e : Event) : Type 0 where
  pub node : e.node < n
  pub fields : IsInRange n e.what

-- a schedule of 1 to 7 nodes and at most a million events among them
pub record IsSchedule (s : Scheduled) : Type 0 where
  pub some : 1 ≤ s.nodes
  pub few : s.nodes ≤ max_nodes
  pub short : length s.events ≤ max_events
  pub each : AllByRecursion (IsEvent s.nodes) s.events
