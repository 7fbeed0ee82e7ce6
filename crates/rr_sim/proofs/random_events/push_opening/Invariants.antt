use Rattle.std.proofs.Common.{◌≡◌, ◌++◌, replicate}
use Rattle.rr_types.specs.declared.event.NodeEvent.TheVariants.{Device}
use Rattle.rr_text.specs.Events.{event_of}
use Rattle.rr_sim.proofs.random_events.push_opening.Given as goal

-- so many device calls stand behind the restart
abbrev pub invariant-loop-call : goal.invariant-loop-call
invariant-loop-call l = l.events.items ≡ l.initial.events.items ++ replicate l._call (event_of l.node Device)
