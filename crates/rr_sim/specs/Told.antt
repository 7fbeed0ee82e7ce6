-- What a run tells as text, from the text of its schedule.
use Rattle.std.specs.Prelude.{◌≡◌, ℕ, ◌+◌, ◌*◌, List, [], ◌∷◌, ◌++◌, codes}
use Rattle.std.specs.List.{AllByRecursion, flat_map}
use Rattle.rand_pcg.specs.Lcg.{Lcg}
use Rattle.rr_text.specs.declared.event.Event.{Event}
use Rattle.rr_text.specs.declared.report.ReportLine.{ReportLine}
use Rattle.rr_text.specs.Lines.{ArePrinted}
use Rattle.rr_text.specs.Reported.{Reported}
use Rattle.rr_text.specs.Scheduled.{Scheduled, IsSchedule, IsEvent}
use Rattle.rr_text.specs.ScheduleTexts.{schedule_text, event_line}
use Rattle.rr_text.specs.ReportTexts.{report_words, report_text, line}
use Rattle.rr_sim.specs.Clusters.{Cluster, Steps, LeadsSpelt, IsSpeltBehind, IsOnlyOneIfClean}
use Rattle.rr_sim.specs.Headline.{IsRunOfTheWorld, AgreesWithOneList, KeepsRealTime}
use Rattle.rr_sim.specs.Random.{AreDrawn, opened, IsRandom}

-- the lines of a report as text
abbrev pub told : List ReportLine → List ℕ
told lines = flat_map (λ l. line (report_words l)) lines

-- an event of a run, with the text of the lines that the report has of it
pub record Row : Type 0 where
  pub event : Event
  pub told : List ℕ

-- the events of rows, of which the first stands on this line, lead from one cluster to another; each row has the lines that
-- the step at its event adds, and no others
abbrev pub AreTold : ℕ → List Row → Cluster → Cluster → Type 0
AreTold at [] old new = new ≡ old
AreTold at (row ∷ rows) old new =
    (next : Cluster) × (added : List ReportLine) × Steps at row.event old next × (next.lines ≡ old.lines ++ added) × (row.told ≡ told added)
    × AreTold (at + 1) rows next new

-- the event of a line leads a cluster to another, of which the text has grown by the lines, and which keeps none
abbrev pub TellsOne : ℕ → Event → Cluster → Cluster → List ℕ → List ℕ → Type 0
TellsOne at event old new before after =
    (next : Cluster) × Steps at event old next × IsSpeltBehind event old next × (new ≡ record next { lines = [] }) × (after ≡ before ++ told next.lines)

-- the bytes are the lines of events among n nodes; these lead a cluster that has no lines to another, of which the text
-- has grown by the lines, and which keeps none
pub record TellsAll (n : ℕ) (bytes : List ℕ) (old new : Cluster) (before after : List ℕ) : Type 0 where
  pub events : List Event
  pub at_the_end : Cluster
  pub printed : ArePrinted (IsEvent n) event_line events bytes
  pub leads : LeadsSpelt 2 events old at_the_end
  pub kept : new ≡ record at_the_end { lines = [] }
  pub text : after ≡ before ++ told at_the_end.lines

-- so many events are drawn behind the openings of n nodes, from the words of a generator, and lead to a cluster; the text
-- of the schedule has grown by their lines, that of the report has all lines, and the cluster keeps none
pub record DrawsAll (n steps : ℕ) (g : Lcg) (new : Cluster) (before schedule report : List ℕ) : Type 0 where
  pub events : List Event
  pub at_the_end : Cluster
  pub each : AllByRecursion (IsEvent n) events
  pub are_drawn : AreDrawn n (2 + 10 * n) steps g (opened n) events
  pub leads : LeadsSpelt (2 + 10 * n) events (opened n) at_the_end
  pub kept : new ≡ record at_the_end { lines = [] }
  pub printed : schedule ≡ before ++ flat_map event_line events
  pub text : report ≡ told at_the_end.lines

-- the bytes are the text of a schedule, and the other text is that of the report of its run, which is a run of the
-- world, agrees with one list of commands in the order of real time, and is the only one if it is clean
pub record IsReportOn (bytes text : List ℕ) : Type 0 where
  pub schedule : Scheduled
  pub report : Reported
  pub lawful : IsSchedule schedule
  pub read : bytes ≡ schedule_text schedule
  pub world : IsRunOfTheWorld schedule.nodes schedule.events report
  pub one_list : AgreesWithOneList schedule.events report
  pub real_time : KeepsRealTime schedule.nodes schedule.events report
  pub clean : IsOnlyOneIfClean schedule.nodes schedule.events report
  pub told : text ≡ report_text report

-- the text is that of a random schedule of n nodes, a line `report`, and that of the report of its run
pub record IsRandomRun (n seed steps : ℕ) (text : List ℕ) : Type 0 where
  pub schedule : Scheduled
  pub report : Reported
  pub drawn : IsRandom n seed steps schedule
  pub world : IsRunOfTheWorld n schedule.events report
  pub one_list : AgreesWithOneList schedule.events report
  pub real_time : KeepsRealTime n schedule.events report
  pub clean : IsOnlyOneIfClean n schedule.events report
  pub told : text ≡ schedule_text schedule ++ line (codes "report" ∷ []) ++ report_text report
