-- An event whose line doesn't tell of want of memory was carried out with memory there, if it is no failing device call.
use Rattle.std.proofs.Common.{◌≡◌, ◌⊎◌, inl, inr, ℕ, Bool, true, false, List, [], ◌∷◌, ◌++◌, length, Option, None, Some, refl, sym, ◌∙◌, ap, subst}
use Rattle.std.specs.Prelude.{if◌then◌else◌, slice_get}
use Rattle.std.specs.Option.{option_map_or}
use Rattle.rr_types.specs.declared.message.Message.{Message}
use Rattle.rr_types.specs.declared.refusal.Refusal.{Refusal}
use Rattle.rr_types.specs.declared.refusal.Refusal.TheVariants as because
use Rattle.rr_types.specs.declared.event.NodeEvent.{NodeEvent}
use Rattle.rr_types.specs.Inputs.{happens_as, message_on}
use Rattle.rr_node.specs.Seats.{Seat, Answer, seat_step, starve, seat_fails, starve_fails}
use Rattle.rr_text.specs.declared.event.Event.{Event}
use Rattle.rr_text.specs.declared.event.Happening.{Happening}
use Rattle.rr_text.specs.declared.event.Happening.TheVariants.{At, Fail, Crash}
use Rattle.rr_text.specs.declared.report.ReportLine.TheVariants as line
use Rattle.rr_sim.specs.Clusters.{Cluster, note_of, with_answer, at_node, fail_at, happens, event_step, Steps, TellsOfWant}
use Rattle.rr_sim.specs.Random.{IsFailing, StepsInMemory}
use Rattle.rr_sim.proofs.Wanting.{IsWanting, wanting_or_same, failing_or_same}

-- the line behind the old ones doesn't tell of want of memory
abbrev pub TellsOfNoWant : Cluster → Cluster → Type 0
TellsOfNoWant old new = TellsOfWant new.lines (length old.lines) → ⊥

line_behind : {X : Type 0} (xs : List X) (y : X) → slice_get (xs ++ y ∷ []) (length xs) ≡ Some y
line_behind [] y = refl
line_behind (x ∷ xs) y = line_behind xs y

-- an answer that wants memory is told of
told_of : (p at : ℕ) (c : Cluster) (answer : Answer) → IsWanting answer → TellsOfNoWant c (with_answer p at c answer) → ⊥
told_of p at c answer w none = by w.wants
  where
    here : slice_get (with_answer p at c answer).lines (length c.lines) ≡ Some (line.Refuse at w.refusal)
    here = ap (λ a. slice_get (c.lines ++ note_of p at (length c.wire) a) (length c.lines)) w.is ∙ line_behind c.lines (line.Refuse at w.refusal)

    by : (w.refusal ≡ because.OutOfMemory) ⊎ (w.refusal ≡ because.Device) → ⊥
    by (inl e) = none (at, inl (here ∙ ap (λ (r : Refusal). Some (line.Refuse at r)) e))
    by (inr e) = none (at, inr (here ∙ ap (λ (r : Refusal). Some (line.Refuse at r)) e))

node_wants : (p at : ℕ) (event : NodeEvent Message) (c : Cluster) → TellsOfNoWant c (at_node p at true event c) → at_node p at true event c ≡ at_node p at false event c
node_wants p at event c none = by (slice_get c.seats p) refl
  where
    step : Bool → Option Seat → Cluster
    step starved o = option_map_or (λ seat. with_answer p at c (if starved then starve event seat else seat_step event seat)) o c

    same : (seat : Seat) → slice_get c.seats p ≡ Some seat → IsWanting (starve event seat) ⊎ (starve event seat ≡ seat_step event seat) → step true (Some seat) ≡ step false (Some seat)
    same seat e (inl w) = absurd (told_of p at c (starve event seat) w (subst (λ (x : Cluster). TellsOfNoWant c x) (ap (step true) e) none))
    same seat e (inr is) = ap (with_answer p at c) is

    by : (o : Option Seat) → slice_get c.seats p ≡ o → at_node p at true event c ≡ at_node p at false event c
    by None e = ap (step true) e ∙ sym (ap (step false) e)
    by (Some seat) e = ap (step true) e ∙ same seat e (wanting_or_same event seat) ∙ sym (ap (step false) e)

fail_wants : (p at : ℕ) (fill : List ℕ) (c : Cluster) → TellsOfNoWant c (fail_at p at true fill c) → fail_at p at true fill c ≡ fail_at p at false fill c
fail_wants p at fill c none = by (slice_get c.seats p) refl
  where
    step : Bool → Option Seat → Cluster
    step starved o = option_map_or (λ seat. with_answer p at c (if starved then starve_fails fill seat else seat_fails fill seat)) o c

    same : (seat : Seat) → slice_get c.seats p ≡ Some seat → IsWanting (starve_fails fill seat) ⊎ (starve_fails fill seat ≡ seat_fails fill seat) → step true (Some seat) ≡ step false (Some seat)
    same seat e (inl w) = absurd (told_of p at c (starve_fails fill seat) w (subst (λ (x : Cluster). TellsOfNoWant c x) (ap (step true) e) none))
    same seat e (inr is) = ap (with_answer p at c) is

    by : (o : Option Seat) → slice_get c.seats p ≡ o → fail_at p at true fill c ≡ fail_at p at false fill c
    by None e = ap (step true) e ∙ sym (ap (step false) e)
    by (Some seat) e = ap (step true) e ∙ same seat e (failing_or_same fill seat) ∙ sym (ap (step false) e)

-- ---- the events

some_wants : (p at : ℕ) (o : Option (NodeEvent Message)) (c : Cluster) → TellsOfNoWant c (option_map_or (λ e. at_node p at true e c) o c) → option_map_or (λ e. at_node p at true e c) o c ≡ option_map_or (λ e. at_node p at false e c) o c
some_wants p at None c none = refl
some_wants p at (Some event) c none = node_wants p at event c none

what_wants : (p at : ℕ) (what : Happening) (c : Cluster) → TellsOfNoWant c (happens p at true what c) → (happens p at true what c ≡ happens p at false what c) ⊎ ((fill : List ℕ) × (what ≡ Fail fill))
what_wants p at (At event) c none = inl (some_wants p at (happens_as (message_on c.wire p) event) c none)
what_wants p at (Fail fill) c none = inr (fill, refl)
what_wants p at (Crash a b fill) c none = inl refl

event_wants : (at : ℕ) (e : Event) (c : Cluster) → TellsOfNoWant c (event_step at true e c) → StepsInMemory at e c (event_step at true e c)
event_wants at e c none = by (what_wants e.node at e.what c none)
  where
    by : (event_step at true e c ≡ event_step at false e c) ⊎ IsFailing e → StepsInMemory at e c (event_step at true e c)
    by (inl same) = inl same
    by (inr fails) = inr (fails, refl)

-- of a failing device call its line tells nothing
pub failing_in_memory : (at : ℕ) (e : Event) (old new : Cluster) → Steps at e old new → IsFailing e → StepsInMemory at e old new
failing_in_memory at e old new (inl is) fails = inl is
failing_in_memory at e old new (inr is) fails = inr (fails, is)

-- any other event whose line doesn't tell of want of memory was carried out with memory there
pub in_memory : (at : ℕ) (e : Event) (old new : Cluster) → Steps at e old new → TellsOfNoWant old new → StepsInMemory at e old new
in_memory at e old new (inl is) none = inl is
in_memory at e old new (inr is) none =
    subst (λ (x : Cluster). StepsInMemory at e old x) (sym is) (event_wants at e old (subst (λ (x : Cluster). TellsOfNoWant old x) is none))

-- an event whose line doesn't tell of want of memory or of the device was carried out with memory there
pub with_memory : (at : ℕ) (e : Event) (old new : Cluster) → Steps at e old new → TellsOfNoWant old new → new ≡ event_step at false e old
with_memory at e old new step none = by (in_memory at e old new step none)
  where
    failing : (fill : List ℕ) → e.what ≡ Fail fill → new ≡ event_step at true e old → new ≡ event_step at false e old
    failing fill fails is =
        let so : new ≡ fail_at e.node at true fill old = is ∙ ap (λ (x : Happening). happens e.node at true x old) fails in
        so ∙ fail_wants e.node at fill old (subst (λ (x : Cluster). TellsOfNoWant old x) so none) ∙ sym (ap (λ (x : Happening). happens e.node at false x old) fails)

    by : StepsInMemory at e old new → new ≡ event_step at false e old
    by (inl is) = is
    by (inr ((fill, fails), is)) = failing fill fails is
