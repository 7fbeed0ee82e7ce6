-- The account of a run.
use Rattle.std.specs.Prelude.{◌≡◌, ℕ, ◌+◌, List, [], ◌∷◌, ◌++◌, length, map}
use Rattle.std.specs.List.{flat_map}
use Rattle.rr_text.specs.declared.event.Event.{Event}
use Rattle.rr_text.specs.declared.report.ReportLine.{ReportLine}
use Rattle.rr_text.specs.Scheduled.{Scheduled, IsSchedule}
use Rattle.rr_text.specs.ScheduleTexts.{schedule_text}
use Rattle.rr_text.specs.Reported.{Reported}
use Rattle.rr_sim.specs.Clusters.{Cluster, new_cluster, Steps, IsOnlyOneIfClean}
use Rattle.rr_sim.specs.Headline.{IsRunOfTheWorld, AgreesWithOneList, KeepsRealTime}
use Rattle.rr_account.specs.declared.outcome.Outcome.{Outcome}
use Rattle.rr_account.specs.declared.outcome.Outcome.TheVariants.{Quiet, Told, Idle}
use Rattle.rr_account.specs.Outcomes.{outcome_of}

-- a schedule, what came of each of its events in turn, and the report of its run
pub record Accounted : Type 0 where
  pub schedule : Scheduled
  pub outcomes : List Outcome
  pub report : Reported

-- the report is that of the run of a schedule, which is a run of the world, agrees with one list of commands in the order
-- of real time, and is the only one if it is clean
pub record IsReportOf (schedule : Scheduled) (report : Reported) : Type 0 where
  pub world : IsRunOfTheWorld schedule.nodes schedule.events report
  pub one_list : AgreesWithOneList schedule.events report
  pub real_time : KeepsRealTime schedule.nodes schedule.events report
  pub clean : IsOnlyOneIfClean schedule.nodes schedule.events report

-- how many lines a report has of an event of which this came
abbrev pub lines_told : Outcome → ℕ
lines_told Quiet = 0
lines_told Told = 1
lines_told (Idle why) = 0

-- the lines of the report are those of the events in turn: each has these, as many as its outcome says
pub record IsSharedOut (account : Accounted) (shares : List (List ReportLine)) : Type 0 where
  pub all : account.report.lines ≡ flat_map (λ ls. ls) shares
  pub one_each : length shares ≡ length account.schedule.events
  pub counts : map length shares ≡ map lines_told account.outcomes

-- the lines of the report that an event has, and what came of it
pub record Share : Type 0 where
  pub lines : List ReportLine
  pub outcome : Outcome

-- an event leads from one cluster to another: the step at it adds these lines to the report, as many as its outcome says, and
-- this came of it
pub record IsShareOf (event : Event) (share : Share) (old new : Cluster) : Type 0 where
  pub grew : new.lines ≡ old.lines ++ share.lines
  pub came : share.outcome ≡ outcome_of event share.lines old new
  pub counted : length share.lines ≡ lines_told share.outcome

-- the events, of which the first stands on this line, lead from one cluster to another, and these are their shares
abbrev pub AddEach : ℕ → List Event → List Share → Cluster → Cluster → Type 0
AddEach at [] [] old new = new ≡ old
AddEach at [] (s ∷ shares) old new = ⊥
AddEach at (e ∷ es) [] old new = ⊥
AddEach at (e ∷ es) (s ∷ shares) old new =
    (next : Cluster) × Steps at e old next × IsShareOf e s old next × AddEach (at + 1) es shares next new

-- these came of the events: each has a share
pub record AreWatched (at : ℕ) (events : List Event) (outcomes : List Outcome) (old new : Cluster) : Type 0 where
  pub shares : List Share
  pub add : AddEach at events shares old new
  pub outcomes_are : map (λ s. s.outcome) shares ≡ outcomes

-- the account is of one run: the report has the lines that the steps at its events add, in turn, and no others; and each
-- outcome is what came of its event in that run
pub record IsOfOneRun (account : Accounted) : Type 0 where
  pub shares : List Share
  pub at_the_end : Cluster
  pub add : AddEach 2 account.schedule.events shares (new_cluster account.schedule.nodes) at_the_end
  pub outcomes : map (λ s. s.outcome) shares ≡ account.outcomes
  pub shared_out : IsSharedOut account (map (λ s. s.lines) shares)

-- the bytes are the text of a schedule, and the account is that of its run
pub record IsAccountOn (bytes : List ℕ) (account : Accounted) : Type 0 where
  pub lawful : IsSchedule account.schedule
  pub read : bytes ≡ schedule_text account.schedule
  pub run : IsReportOf account.schedule account.report
  pub of_one_run : IsOfOneRun account
