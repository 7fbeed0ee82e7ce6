use Rattle.std.proofs.Common.{◌≡◌, ℕ, ◌+◌, take}
use Rattle.std.specs.List.{AllByRecursion}
use Rattle.rr_text.specs.Scheduled.{IsEvent}
use Rattle.rr_sim.specs.Sweeps.{HasSwept}
use Rattle.rr_sim.proofs.whole.sweep_events.Given as goal

-- the events so far are swept
abbrev pub invariant-loop-event : goal.invariant-loop-event
invariant-loop-event l = (l.line ≡ l.event-index + 2) × ((m : ℕ) → AllByRecursion (IsEvent m) l.events → HasSwept l.fn.nodes m l.seed (take l.event-index l.events) l.lines.items l.sweeping)
