-- The events of a tape are events of a schedule among as many nodes.
use Rattle.std.proofs.Common.{ℕ, ◌≤◌, List, [], ◌∷◌, map, subst, sym}
use Rattle.std.specs.List.{AllByRecursion}
use Rattle.std.proofs.lemmas.List.{length-map}
use Rattle.rr_text.specs.Scheduled.{IsInRange, IsEvent, IsSchedule}
use Rattle.rr_text.specs.declared.tape_event.TapeEvent.{TapeEvent}
use Rattle.rr_text.specs.declared.tape_event.Recorded.{Recorded}
use Rattle.rr_text.specs.declared.tape_event.Recorded.TheVariants.{Told, Take, Mark, Sent, Acked}
use Rattle.rr_text.specs.Taped.{Taped, of_node, IsRecorded, IsTapeEvent, IsTape}
use Rattle.rr_audit.specs.Rows.{as_scheduled}

event_is : (n : ℕ) (e : TapeEvent) → IsTapeEvent n e → IsEvent n (as_scheduled e)
event_is n e h = record { node = h.node; fields = by e.what h.what }
  where
    by : (what : Recorded) → IsRecorded n e.node what → IsInRange n (as_scheduled (of_node e.node what)).what
    by (Told input) fits = fits
    by Take fits = tt
    by Mark fits = tt
    by (Sent k m) fits = tt
    by (Acked q r) fits = tt

events_are : (n : ℕ) (es : List TapeEvent) → AllByRecursion (IsTapeEvent n) es → AllByRecursion (IsEvent n) (map as_scheduled es)
events_are n [] all = all
events_are n (e ∷ es) all = (event_is n e all.0, events_are n es all.1)

pub is_schedule : (t : Taped) → IsTape t → IsSchedule (record { nodes = t.nodes; events = map as_scheduled t.events })
is_schedule t h = record {
  some = h.some;
  few = h.few;
  short = subst (λ (k : ℕ). k ≤ 1000000) (sym (length-map t.events as_scheduled)) h.short;
  each = events_are t.nodes t.events h.each;
}
