-- The finish of a schedule: events that go on from it without faults, and the report on both.
use Rattle.std.specs.Prelude.{◌≡◌, ℕ, List, ◌++◌}
use Rattle.std.specs.List.{AllByRecursion, flat_map}
use Rattle.rr_types.specs.declared.event.NodeEvent.TheVariants.{Told, Snap}
use Rattle.rr_types.specs.declared.input.Input.TheVariants.{Submit}
use Rattle.rr_text.specs.declared.event.Event.{Event}
use Rattle.rr_text.specs.declared.event.Happening.{Happening}
use Rattle.rr_text.specs.declared.event.Happening.TheVariants.{At, Fail, Crash}
use Rattle.rr_text.specs.Scheduled.{Scheduled, IsSchedule, IsEvent}
use Rattle.rr_text.specs.ScheduleTexts.{event_line, schedule_text}
use Rattle.rr_sim.specs.Told.{IsReportOn}

-- it is no crash, no failing device call, no snapshot and no command of a client
abbrev pub IsFaultless : Happening → Type 0
IsFaultless (At (Told (Submit c))) = ⊥
IsFaultless (At Snap) = ⊥
IsFaultless (At event) = Unit {0}
IsFaultless (Fail fill) = ⊥
IsFaultless (Crash a b fill) = ⊥

-- an event among n nodes that may be added
pub record IsAdded (n : ℕ) (e : Event) : Type 0 where
  pub event : IsEvent n e
  pub faultless : IsFaultless e.what

-- the second text is the first with the lines of events that may be added behind it
pub record Adds (n : ℕ) (old new : List ℕ) : Type 0 where
  pub more : List Event
  pub each : AllByRecursion (IsAdded n) more
  pub grown : new ≡ old ++ flat_map event_line more

-- the bytes are the text of a schedule; the added ones are the lines of events that go on from its end, none of which is a fault or
-- a client's; and the report is that on the schedule of both
pub record IsFinish (bytes added report : List ℕ) : Type 0 where
  pub schedule : Scheduled
  pub more : List Event
  pub lawful : IsSchedule schedule
  pub read : bytes ≡ schedule_text schedule
  pub each : AllByRecursion (IsAdded schedule.nodes) more
  pub lines : added ≡ flat_map event_line more
  pub is_report : IsReportOn (bytes ++ added) report
