-- A sweep: for each device call of a schedule and each ending, what its node restarts with after a crash that ends the call so.
use Rattle.std.specs.Prelude.{◌≡◌, ℕ, ◌+◌, ◌<◌, ◌≤◌, IsTrue, List, [], ◌∷◌, ◌++◌, length, slice_get, take, Some}
use Rattle.std.specs.List.{AllByRecursion, Contains}
use Rattle.rand_pcg.specs.Lcg.{Lcg}
use Rattle.rr_types.specs.declared.command.RequestNo.{RequestNo}
use Rattle.rr_types.specs.declared.command.Reply.{Reply}
use Rattle.rr_types.specs.declared.event.NodeEvent.TheVariants.{Device}
use Rattle.rr_types.specs.Registry.{has_request}
use Rattle.rr_node.specs.Seats.{Seat, crashed}
use Rattle.rr_text.specs.declared.event.Event.{Event}
use Rattle.rr_text.specs.declared.event.Happening.{Happening}
use Rattle.rr_text.specs.declared.event.Happening.TheVariants.{At}
use Rattle.rr_types.specs.declared.binding.Binding.{Binding}
use Rattle.rr_text.specs.declared.report.ReportLine.{ReportLine}
use Rattle.rr_text.specs.declared.report.ReportLine.TheVariants as line
use Rattle.rr_text.specs.Reported.{Reported}
use Rattle.rr_text.specs.Scheduled.{IsEvent}
use Rattle.rr_sim.specs.Clusters.{Cluster, new_cluster, LeadsSpelt, IsOnlyOneIfClean}
use Rattle.rr_sim.specs.Headline.{IsRunOfTheWorld, AgreesWithOneList, KeepsRealTime}
use Rattle.rr_sim.specs.Random.{LeadsInMemory, seeded, word, behind}
use Rattle.rr_sim.specs.declared.ending.Ending.{Ending}
use Rattle.rr_sim.specs.declared.sweeping.SweepLine.{SweepLine}
use Rattle.rr_sim.specs.declared.sweeping.Sweeping.{Sweeping}
use Rattle.rr_sim.specs.Endings.{all_endings, cut_of, fill_of, crash_and_opening}
use Rattle.rr_sim.specs.Openings.{IsInSome, Opens}

-- the last line of a report on these events of n nodes, which is a restart of node p. The report is that of a run of the
-- world in which memory was there for each event. It agrees with one list in the order of real time, and of this list the
-- node has each request that it acknowledged before
pub record IsRestartBehind (n p : ℕ) (events : List Event) (restart : ReportLine) : Type 0 where
  pub report : Reported
  pub earlier : List ReportLine
  pub last : report.lines ≡ earlier ++ restart ∷ []
  pub facts : ℕ
  pub decided : ℕ
  pub names : List Binding
  pub is : restart ≡ line.Restart p facts decided names
  pub at_the_end : Cluster
  pub in_memory : LeadsInMemory 2 events (new_cluster n) at_the_end
  pub lines : report.lines ≡ at_the_end.lines
  pub world : IsRunOfTheWorld n events report
  pub one_list : AgreesWithOneList events report
  pub real_time : KeepsRealTime n events report
  pub clean : IsOnlyOneIfClean n events report
  pub keeps_what_it_acknowledged : (q : RequestNo) (reply : Reply) → Contains earlier (line.Ack p q reply)
      → IsTrue (has_request (take decided report.decided) q)

-- the lines of a device call of node p, behind these events that end with it: one for each of these endings, by a word, each
-- the restart behind these events, the crash that ends the call so, and the opening of the node
abbrev pub AreEndings : ℕ → ℕ → List Event → ℕ → List Ending → List SweepLine → Type 0
AreEndings n p events w [] lines = lines ≡ []
AreEndings n p events w (ending ∷ endings) lines =
    (restart : ReportLine) × (rest : List SweepLine)
    × (lines ≡ record { line = length events + 1; ending = ending; restart = restart } ∷ rest)
    × IsRestartBehind n p (events ++ crash_and_opening p ending w) restart
    × AreEndings n p events w endings rest

-- the lines of what happens at node p, behind these events that end with it: of a device call those of the five endings, by
-- the next word of a generator, and of anything else none
abbrev pub AreLinesOf : ℕ → List Event → Lcg → ℕ → Happening → List SweepLine → Type 0
AreLinesOf n events g p (At Device) lines = AreEndings n p events (word g) all_endings lines
AreLinesOf n events g p _ lines = lines ≡ []

-- the generator behind it: a device call takes a word
abbrev pub behind_event : Happening → Lcg → Lcg
behind_event (At Device) g = behind g
behind_event _ g = g

-- the lines of more events of n nodes behind others, where a generator has come so far
abbrev pub AreSwept : ℕ → List Event → Lcg → List Event → List SweepLine → Type 0
AreSwept n before g [] lines = lines ≡ []
AreSwept n before g (e ∷ more) lines =
    (own : List SweepLine) × (rest : List SweepLine)
    × (lines ≡ own ++ rest)
    × AreLinesOf n (before ++ e ∷ []) g e.node e.what own
    × AreSwept n (before ++ e ∷ []) (behind_event e.what g) more rest

-- the sweep of these events of n nodes, with the words of this seed
abbrev pub IsSweep : ℕ → List Event → ℕ → List SweepLine → Type 0
IsSweep n events seed lines = AreSwept n [] (seeded seed) events lines

-- a sweep of n nodes with the words of this seed has come behind these events, which are such among m nodes, and had these
-- lines by then. It keeps the nodes and the wire, and none of the lines that a report has
pub record HasSwept (n m seed : ℕ) (events : List Event) (lines : List SweepLine) (sweeping : Sweeping) : Type 0 where
  pub few : n ≤ 7
  pub cluster : Cluster
  pub each : AllByRecursion (IsEvent m) events
  pub leads : LeadsSpelt 2 events (new_cluster n) cluster
  pub in_memory : LeadsInMemory 2 events (new_cluster n) cluster
  pub kept : sweeping.cluster ≡ record cluster { lines = [] }
  pub swept : (more : List Event) (rest : List SweepLine) → AreSwept n events sweeping.generator more rest
      → AreSwept n [] (seeded seed) (events ++ more) (lines ++ rest)

-- a sweep has come behind these events, and this one, on this line, is the next: an event among m nodes at one of the n
pub record IsNext (n m seed : ℕ) (events : List Event) (lines : List SweepLine) (at : ℕ) (e : Event) (sweeping : Sweeping) : Type 0 where
  pub swept : HasSwept n m seed events lines sweeping
  pub is_event : IsEvent m e
  pub there : e.node < n
  pub line : at ≡ length events + 2

-- the lines of a call on this line of node p, whose seat it leaves so, by these endings and a word
abbrev pub AreCrashes : ℕ → ℕ → Seat → ℕ → List Ending → List SweepLine → Type 0
AreCrashes at p seat w [] lines = lines ≡ []
AreCrashes at p seat w (ending ∷ endings) lines =
    (restart : ReportLine) × (rest : List SweepLine)
    × (lines ≡ record { line = at; ending = ending; restart = restart } ∷ rest)
    × Opens p (crashed (cut_of ending w) (cut_of ending w) (fill_of ending w) seat) restart
    × AreCrashes at p seat w endings rest

-- the node of a device call is there, in step with some world
abbrev pub MayCrash : ℕ → Happening → Cluster → Type 0
MayCrash p (At Device) c = (seat : Seat) × (n : ℕ) × (q : ℕ) × (slice_get c.seats p ≡ Some seat) × IsInSome n q seat
MayCrash p _ c = Unit {0}

-- the lines of the crashes behind what happens on this line at node p, where a sweep has come so far: of a device call five,
-- else none
abbrev pub AreCrashesBehind : ℕ → ℕ → Happening → Sweeping → List SweepLine → Type 0
AreCrashesBehind at p (At Device) s lines = (seat : Seat) → slice_get s.cluster.seats p ≡ Some seat → AreCrashes at p seat (word s.generator) all_endings lines
AreCrashesBehind at p _ s lines = lines ≡ []
