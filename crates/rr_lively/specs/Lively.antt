-- A lively schedule told as text, with the report of its run.
use Rattle.std.specs.Prelude.{◌≡◌, ℕ, ◌+◌, ◌*◌, ◌≤◌, List, [], ◌∷◌, ◌++◌, length, slice_get, Some, codes}
use Rattle.std.specs.List.{AllByRecursion, flat_map}
use Rattle.rr_types.specs.declared.event.NodeEvent.TheVariants.{Take, Send, Acknowledge}
use Rattle.rr_node.specs.declared.event.Stance.TheVariants.{Resting}
use Rattle.rr_node.specs.Seats.{Seat}
use Rattle.rr_node.specs.Stances.{stance_of}
use Rattle.rr_text.specs.declared.event.Event.{Event}
use Rattle.rr_text.specs.declared.event.Happening.{Happening}
use Rattle.rr_text.specs.declared.event.Happening.TheVariants.{At}
use Rattle.rr_text.specs.Lines.{nodes_line}
use Rattle.rr_text.specs.ReportTexts.{line}
use Rattle.rr_text.specs.Scheduled.{Scheduled, IsSchedule, IsEvent}
use Rattle.rr_text.specs.ScheduleTexts.{event_line, schedule_text}
use Rattle.rr_sim.specs.Clusters.{Cluster, new_cluster, LeadsSpelt}
use Rattle.rr_sim.specs.Told.{told, IsReportOn}

-- the run of the events so far: they lead n nodes, which were down over empty disks, to a cluster; the texts are those of the
-- schedule and of the report's lines by now, and the cluster that is kept has no lines
pub record IsSoFar (n at : ℕ) (kept : Cluster) (schedule report : List ℕ) : Type 0 where
  pub events : List Event
  pub cluster : Cluster
  pub each : AllByRecursion (IsEvent n) events
  pub counted : at ≡ 2 + length events
  pub leads : LeadsSpelt 2 events (new_cluster n) cluster
  pub is_kept : kept ≡ record cluster { lines = [] }
  pub printed : schedule ≡ nodes_line n ++ flat_map event_line events
  pub is_told : report ≡ told cluster.lines

-- what leaves everything at node p as it was where nothing is told of it, by the cluster behind it
abbrev pub LeavesAll : Cluster → ℕ → Happening → Type 0
LeavesAll c p (At Send) = Unit {0}
LeavesAll c p (At Acknowledge) = Unit {0}
LeavesAll c p (At Take) = (seat : Seat) × (slice_get c.seats p ≡ Some seat) × (stance_of seat.doing ≡ Resting)
LeavesAll c p _ = ⊥

-- an event of which that holds
abbrev pub MayStay : Cluster → Event → Type 0
MayStay c e = LeavesAll c e.node e.what

-- the text is that of a schedule of n nodes whose next event would stand on a line, a line `report`, and that of the report
-- of the schedule's run
pub record IsLivelyRun (n at : ℕ) (text : List ℕ) : Type 0 where
  pub schedule : Scheduled
  pub report : List ℕ
  pub nodes : schedule.nodes ≡ n
  pub counted : at ≡ 2 + length schedule.events
  pub is_report : IsReportOn (schedule_text schedule) report
  pub told : text ≡ schedule_text schedule ++ line (codes "report" ∷ []) ++ report

-- the text is that of a schedule of n nodes whose next event would stand on a line
pub record IsScheduleTo (n at : ℕ) (text : List ℕ) : Type 0 where
  pub schedule : Scheduled
  pub lawful : IsSchedule schedule
  pub nodes : schedule.nodes ≡ n
  pub counted : at ≡ 2 + length schedule.events
  pub told : text ≡ schedule_text schedule

-- the same of a schedule that has at most the events by which the nodes open their disks, and one more for each step
abbrev pub IsLively : ℕ → ℕ → List ℕ → Type 0
IsLively n steps text = (at : ℕ) × (at ≤ 2 + 10 * n + steps) × IsLivelyRun n at text

-- that schedule alone
abbrev pub IsLivelySchedule : ℕ → ℕ → List ℕ → Type 0
IsLivelySchedule n steps text = (at : ℕ) × (at ≤ 2 + 10 * n + steps) × IsScheduleTo n at text
