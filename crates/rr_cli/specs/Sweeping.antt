-- How the printing of a sweep goes on, or is broken off.
use Rattle.std.specs.Prelude.{◌≡◌, ◌≤◌, ℕ, List, ◌++◌}
use Rattle.std.specs.Io.KnownBytes.{Appends}
use Rattle.rr_types.specs.declared.refusal.Refusal.TheVariants.{OutOfMemory}
use Rattle.rr_types.specs.Counts.{Grew}
use Rattle.rr_text.specs.declared.event.Event.{Event}
use Rattle.rr_stream.specs.Streams.{Printing, IsFrontPrinted}
use Rattle.rr_sim.specs.declared.sweeping.SweepLine.{SweepLine}
use Rattle.rr_sim.specs.Sweeps.{IsSweep}
use Rattle.rr_cli.specs.declared.sweep.Stop.{Stop}
use Rattle.rr_cli.specs.declared.sweep.Stop.TheVariants.{Refused, Unprinted}
use Rattle.rr_cli.specs.Ends.{sweep_text}

-- standard output has taken the lines of the sweep of these events
pub record IsPrintedBy (n seed : ℕ) (events : List Event) (old new : Printing) : Type 0 where
  pub lines : List SweepLine
  pub swept : IsSweep n events seed lines
  pub taken : Appends old.contents new.contents (sweep_text lines)
  pub faults : old.faults ≤ new.faults

-- why the printing of a text stops: memory is wanting, and none of it is taken; or a call failed, and a front of it is
abbrev pub StopsPrinting : List ℕ → Stop → Printing → Printing → Type 0
StopsPrinting text (Refused refusal) old new = (refusal ≡ OutOfMemory) × (new ≡ old)
StopsPrinting text (Unprinted error) old new = Grew old.faults new.faults × IsFrontPrinted old new text

-- why a sweep that has had these lines stops at the event that ends these: memory is wanting, and nothing more is taken; or a
-- call failed, and a front of the lines that the event gives is taken
abbrev pub StopsAtEvent : ℕ → ℕ → List Event → List SweepLine → Stop → Printing → Printing → Type 0
StopsAtEvent n seed events lines (Refused refusal) old new = (refusal ≡ OutOfMemory) × (new ≡ old)
StopsAtEvent n seed events lines (Unprinted error) old new =
    (more : List SweepLine) × IsSweep n events seed (lines ++ more) × Grew old.faults new.faults × IsFrontPrinted old new (sweep_text more)

-- why it stops, memory or a call that failed
abbrev pub IsWhy : Stop → Printing → Printing → Type 0
IsWhy (Refused refusal) old new = refusal ≡ OutOfMemory
IsWhy (Unprinted error) old new = Grew old.faults new.faults

-- a sweep is broken off: standard output has taken a front of the lines of a front of the events
pub record StopsSweep (n seed : ℕ) (events : List Event) (stop : Stop) (old new : Printing) : Type 0 where
  pub before : List Event
  pub after : List Event
  pub split : events ≡ before ++ after
  pub lines : List SweepLine
  pub swept : IsSweep n before seed lines
  pub taken : IsFrontPrinted old new (sweep_text lines)
  pub why : IsWhy stop old new
