-- The line of a refusal is that of the event that was refused.
use Rattle.std.proofs.Common.{◌≡◌, ◌⊎◌, inl, inr, ℕ, ◌+◌, ◌≤◌, Bool, true, false, List, [], ◌∷◌, ◌++◌, length, Contains, Option, None, Some, Result, Ok, Err, refl, sym, ap, subst, arith}
use Rattle.std.specs.Prelude.{if◌then◌else◌, slice_get, slice_set}
use Rattle.std.specs.Option.{option_map_or}
use Rattle.std.proofs.lemmas.List.{append-nil}
use Rattle.std.proofs.lemmas.List.Elements.{Contains-append_cases}
use Rattle.rr_types.specs.declared.message.Message.{Message}
use Rattle.rr_types.specs.declared.refusal.Refusal.{Refusal}
use Rattle.rr_types.specs.declared.event.NodeEvent.{NodeEvent}
use Rattle.rr_types.specs.Inputs.{happens_as, message_on}
use Rattle.rr_node.specs.declared.event.Outcome.{Outcome}
use Rattle.rr_node.specs.declared.event.Outcome.TheVariants.{Quiet, Left, Replied, Opened}
use Rattle.rr_node.specs.Seats.{Seat, Answer, seat_step, starve, seat_fails, starve_fails, crashed}
use Rattle.rr_text.specs.declared.event.Event.{Event}
use Rattle.rr_text.specs.declared.event.Happening.{Happening}
use Rattle.rr_text.specs.declared.event.Happening.TheVariants.{At, Fail, Crash}
use Rattle.rr_text.specs.declared.report.ReportLine.{ReportLine}
use Rattle.rr_text.specs.declared.report.ReportLine.TheVariants as line
use Rattle.rr_sim.specs.Clusters.{Cluster, note_of, with_answer, at_node, crash_at, happens, event_step, Steps, Leads}
use Rattle.rr_sim.proofs.TellingLaws.{only}

-- what the event of this line adds to the report, one line at most: a refusal among it is all of it, and of this line
pub record Notes (at : ℕ) (old new : Cluster) : Type 0 where
  pub notes : List ReportLine
  pub lines : new.lines ≡ old.lines ++ notes
  pub few : length notes ≤ 1
  pub own : (k : ℕ) (r : Refusal) → Contains notes (line.Refuse k r) → (k ≡ at) × (notes ≡ line.Refuse at r ∷ [])

none : (at : ℕ) (c : Cluster) → Notes at c c
none at c = record { notes = []; lines = sym (append-nil c.lines); few = omega arith; own = λ k r held. absurd (omega (arith, held.1)) }

-- another line is no refusal
other : (x : ReportLine) (at k : ℕ) (r : Refusal) → ((x ≡ line.Refuse k r) → ⊥) → Contains (x ∷ []) (line.Refuse k r) → (k ≡ at) × (x ∷ [] ≡ line.Refuse at r ∷ [])
other x at k r differs held = absurd (differs (only (line.Refuse k r) x held))

own_notes : (p at sent : ℕ) (answer : Result Outcome Refusal) (k : ℕ) (r : Refusal) → Contains (note_of p at sent answer) (line.Refuse k r) → (k ≡ at) × (note_of p at sent answer ≡ line.Refuse at r ∷ [])
own_notes p at sent (Ok Quiet) k r held = absurd (omega (arith, held.1))
own_notes p at sent (Ok (Left m)) k r held = other (line.Send sent m) at k r (λ e. absurd (cc)) held
own_notes p at sent (Ok (Replied q reply)) k r held = other (line.Ack p q reply) at k r (λ e. absurd (cc)) held
own_notes p at sent (Ok (Opened facts decided bindings)) k r held = other (line.Restart p facts decided _) at k r (λ e. absurd (cc)) held
own_notes p at sent (Err x) k r held =
    let e : line.Refuse at x ≡ line.Refuse k r = only (line.Refuse k r) (line.Refuse at x) held in
    let f : at ≡ k = cc in
    let g : x ≡ r = cc in
    (sym f, ap (λ (y : Refusal). line.Refuse at y ∷ []) g)

few_notes : (p at sent : ℕ) (answer : Result Outcome Refusal) → length (note_of p at sent answer) ≤ 1
few_notes p at sent (Ok Quiet) = omega arith
few_notes p at sent (Ok (Left m)) = omega arith
few_notes p at sent (Ok (Replied q reply)) = omega arith
few_notes p at sent (Ok (Opened facts decided bindings)) = omega arith
few_notes p at sent (Err x) = omega arith

answered : (p at : ℕ) (c : Cluster) (answer : Answer) → Notes at c (with_answer p at c answer)
answered p at c answer = record { notes = note_of p at (length c.wire) answer.0; lines = refl; few = few_notes p at (length c.wire) answer.0; own = own_notes p at (length c.wire) answer.0 }

by_seat : (p at : ℕ) (c : Cluster) (answer : Seat → Answer) (o : Option Seat) → Notes at c (option_map_or (λ seat. with_answer p at c (answer seat)) o c)
by_seat p at c answer None = none at c
by_seat p at c answer (Some seat) = answered p at c (answer seat)

node_notes : (p at : ℕ) (starved : Bool) (event : NodeEvent Message) (c : Cluster) → Notes at c (at_node p at starved event c)
node_notes p at starved event c = by_seat p at c (λ seat. if starved then starve event seat else seat_step event seat) (slice_get c.seats p)

some_notes : (p at : ℕ) (starved : Bool) (o : Option (NodeEvent Message)) (c : Cluster) → Notes at c (option_map_or (λ e. at_node p at starved e c) o c)
some_notes p at starved None c = none at c
some_notes p at starved (Some event) c = node_notes p at starved event c

crash_notes : (p at a b : ℕ) (fill : List ℕ) (c : Cluster) → Notes at c (crash_at p a b fill c)
crash_notes p at a b fill c = by (slice_get c.seats p)
  where
    by : (o : Option Seat) → Notes at c (option_map_or (λ seat. record c { seats = slice_set c.seats p (crashed a b fill seat) }) o c)
    by None = none at c
    by (Some seat) = record { notes = []; lines = sym (append-nil c.lines); few = omega arith; own = λ k r held. absurd (omega (arith, held.1)) }

what_notes : (p at : ℕ) (starved : Bool) (what : Happening) (c : Cluster) → Notes at c (happens p at starved what c)
what_notes p at starved (At event) c = some_notes p at starved (happens_as (message_on c.wire p) event) c
what_notes p at starved (Fail fill) c = by_seat p at c (λ seat. if starved then starve_fails fill seat else seat_fails fill seat) (slice_get c.seats p)
what_notes p at starved (Crash a b fill) c = crash_notes p at a b fill c

event_notes : (at : ℕ) (starved : Bool) (e : Event) (c : Cluster) → Notes at c (event_step at starved e c)
event_notes at starved e c = what_notes e.node at starved e.what c

pub step_notes : (at : ℕ) (e : Event) (old new : Cluster) → Steps at e old new → Notes at old new
step_notes at e old new (inl is) = subst (λ (x : Cluster). Notes at old x) (sym is) (event_notes at false e old)
step_notes at e old new (inr is) = subst (λ (x : Cluster). Notes at old x) (sym is) (event_notes at true e old)

-- a refusal in the report was there, or is of this event, and then all that it adds
pub refused_before_or_now : (at : ℕ) (e : Event) (old new : Cluster) → Steps at e old new → (k : ℕ) (r : Refusal) → Contains new.lines (line.Refuse k r)
    → Contains old.lines (line.Refuse k r) ⊎ ((k ≡ at) × (new.lines ≡ old.lines ++ line.Refuse at r ∷ []))
refused_before_or_now at e old new step k r held = by (Contains-append_cases old.lines n.notes (line.Refuse k r) (subst (λ (ls : List ReportLine). Contains ls (line.Refuse k r)) n.lines held))
  where
    n : Notes at old new
    n = step_notes at e old new step

    by : Contains old.lines (line.Refuse k r) ⊎ Contains n.notes (line.Refuse k r) → Contains old.lines (line.Refuse k r) ⊎ ((k ≡ at) × (new.lines ≡ old.lines ++ line.Refuse at r ∷ []))
    by (inl before) = inl before
    by (inr now) = let own = n.own k r now in inr (own.0, subst (λ (ls : List ReportLine). new.lines ≡ old.lines ++ ls) own.1 n.lines)

-- events from this line on add no refusal of a line before
pub refused_from : (at : ℕ) (events : List Event) (old new : Cluster) → Leads at events old new → (k : ℕ) (r : Refusal) → Contains new.lines (line.Refuse k r) → Contains old.lines (line.Refuse k r) ⊎ (at ≤ k)
refused_from at [] old new same k r held = inl (subst (λ (c : Cluster). Contains c.lines (line.Refuse k r)) same held)
refused_from at (e ∷ es) old new (next, step, rest) k r held = by (refused_from (at + 1) es next new rest k r held)
  where
    now : Contains old.lines (line.Refuse k r) ⊎ ((k ≡ at) × (next.lines ≡ old.lines ++ line.Refuse at r ∷ [])) → Contains old.lines (line.Refuse k r) ⊎ (at ≤ k)
    now (inl before) = inl before
    now (inr (is, lines)) = inr (omega (arith, is))

    by : Contains next.lines (line.Refuse k r) ⊎ (at + 1 ≤ k) → Contains old.lines (line.Refuse k r) ⊎ (at ≤ k)
    by (inl there) = now (refused_before_or_now at e old next step k r there)
    by (inr later) = inr (omega (arith, later))
