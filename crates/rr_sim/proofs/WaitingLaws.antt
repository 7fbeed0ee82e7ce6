-- A node that isn't up refuses each of its events but a restart and a device call, and stays as it is.
use Rattle.std.proofs.Common.{◌≡◌, ◌≢◌, inl, inr, ℕ, zero, suc, List, [], ◌∷◌, ◌++◌, true, false, Some, None, Result, Ok, Err, refl, sym, ap, ◌∙◌, subst}
use Rattle.std.specs.Prelude.{Option, OnOk, IfSome, slice_get, slice_set, if◌then◌else◌, ◌==◌}
use Rattle.std.specs.Option.{option_map_or}
use Rattle.std.proofs.lemmas.List.{append-nil}
use Rattle.std.specs.declared.alloc.AllocError.{AllocError}
use Rattle.rr_types.specs.declared.message.Message.{Message}
use Rattle.rr_types.specs.declared.refusal.Refusal.{Refusal}
use Rattle.rr_types.specs.declared.event.NodeEvent.{NodeEvent}
use Rattle.rr_types.specs.declared.input.Input.TheVariants as input
use Rattle.rr_types.specs.declared.event.NodeEvent.TheVariants as node
use Rattle.rr_node.specs.Seats.{Seat, seat_step}
use Rattle.rr_text.specs.declared.event.Event.{Event}
use Rattle.rr_text.specs.declared.report.ReportLine.TheVariants as line
use Rattle.rr_text.specs.Events.{event_of, told_at}
use Rattle.rr_sim.specs.Clusters.{Cluster, with_answer, at_node, event_step, IsUnheard, Steps, IsSpeltAt, IsSpeltBehind}

-- the cluster behind an event that a line refuses
abbrev pub refused : ℕ → Refusal → Cluster → Cluster
refused at e c = record c { lines = c.lines ++ line.Refuse at e ∷ [] }

-- each event at node p but a restart and a device call is refused so
abbrev pub Waits : ℕ → Refusal → Cluster → Type 0
Waits p e c = (at : ℕ) (event : NodeEvent Message) → event ≢ node.Restart → event ≢ node.Device → at_node p at false event c ≡ refused at e c

set_same : {X : Type 0} (xs : List X) (p : ℕ) (x : X) → slice_get xs p ≡ Some x → slice_set xs p x ≡ xs
set_same [] p x h = refl
set_same (y ∷ xs) zero x h = let f : x ≡ y = (let g : Some y ≡ Some x = h in cc) in ap (λ z. z ∷ xs) f
set_same (y ∷ xs) (suc p) x h = ap (λ zs. y ∷ zs) (set_same xs p x h)

stays : (p at : ℕ) (e : Refusal) (seat : Seat) (c : Cluster) → slice_get c.seats p ≡ Some seat → with_answer p at c (Err e, seat) ≡ refused at e c
stays p at e seat c h = λ i. record { seats = set_same c.seats p seat h i; wire = append-nil c.wire i; lines = c.lines ++ line.Refuse at e ∷ [] }

-- the events that a node refuses are refused in its cluster
pub waits : (p : ℕ) (e : Refusal) (seat : Seat) (c : Cluster) → slice_get c.seats p ≡ Some seat
    → ((event : NodeEvent Message) → event ≢ node.Restart → event ≢ node.Device → seat_step event seat ≡ (Err e, seat)) → Waits p e c
waits p e seat c found refuses at event r d =
    ap (λ o. option_map_or (λ (s : Seat). with_answer p at c (seat_step event s)) o c) found
    ∙ ap (with_answer p at c) (refuses event r d) ∙ stays p at e seat c found

pub waits_where : (o : Option Refusal) (p : ℕ) (seat : Seat) (c : Cluster) → slice_get c.seats p ≡ Some seat
    → IfSome o (λ e. (event : NodeEvent Message) → event ≢ node.Restart → event ≢ node.Device → seat_step event seat ≡ (Err e, seat)) → IfSome o (λ e. Waits p e c)
waits_where None p seat c found refuses = tt
waits_where (Some e) p seat c found refuses = waits p e seat c found refuses

-- an event of the node that is no message, no restart and no device call is refused
pub event_waits : (p : ℕ) (event : NodeEvent ℕ) (e : Refusal) (c : Cluster) → IsUnheard event → event ≢ node.Restart → event ≢ node.Device → Waits p e c → (at : ℕ) → event_step at false (event_of p event) c ≡ refused at e c
event_waits p (node.Told (input.Submit v)) e c own r d w at = w at (node.Told (input.Submit v)) (λ x. absurd (cc)) (λ x. absurd (cc))
event_waits p (node.Told (input.Hear k)) e c own r d w at = absurd own
event_waits p (node.Told (input.Suspect set)) e c own r d w at = w at (node.Told (input.Suspect set)) (λ x. absurd (cc)) (λ x. absurd (cc))
event_waits p (node.Told input.Tick) e c own r d w at = w at (node.Told input.Tick) (λ x. absurd (cc)) (λ x. absurd (cc))
event_waits p (node.Told input.Advance) e c own r d w at = w at (node.Told input.Advance) (λ x. absurd (cc)) (λ x. absurd (cc))
event_waits p node.Take e c own r d w at = w at node.Take (λ x. absurd (cc)) (λ x. absurd (cc))
event_waits p node.Device e c own r d w at = absurd (d refl)
event_waits p node.Mark e c own r d w at = w at node.Mark (λ x. absurd (cc)) (λ x. absurd (cc))
event_waits p node.Send e c own r d w at = w at node.Send (λ x. absurd (cc)) (λ x. absurd (cc))
event_waits p node.Acknowledge e c own r d w at = w at node.Acknowledge (λ x. absurd (cc)) (λ x. absurd (cc))
event_waits p node.Snap e c own r d w at = w at node.Snap (λ x. absurd (cc)) (λ x. absurd (cc))
event_waits p node.Restart e c own r d w at = absurd (r refl)

-- a refused event steps, and its node is as it was
pub steps_refused : (r : Result (Unit {0}) AllocError) (at : ℕ) (event : Event) (e : Refusal) (old new : Cluster) → event_step at false event old ≡ refused at e old
    → OnOk r (new ≡ refused at e old) → OnOk r (Steps at event old new)
steps_refused (Err why) at event e old new same is = tt
steps_refused (Ok x) at event e old new same is = inl (is ∙ sym same)

pub spelt_refused : (r : Result (Unit {0}) AllocError) (at : ℕ) (event : Event) (e : Refusal) (old new : Cluster) → IsSpeltAt event.node old
    → OnOk r (new ≡ refused at e old) → OnOk r (IsSpeltBehind event old new)
spelt_refused (Err why) at event e old new spelt is = tt
spelt_refused (Ok x) at event e old new spelt is = inr (subst (IsSpeltAt event.node) (sym is) spelt)

-- the same of a message that is for the node
pub hear_refused : (r : Result (Unit {0}) AllocError) (p at k : ℕ) (m : Message) (e : Refusal) (old new : Cluster) → slice_get old.wire k ≡ Some m → (m.to == p) ≡ true → Waits p e old
    → OnOk r (new ≡ refused at e old) → OnOk r (Steps at (told_at p (input.Hear k)) old new)
hear_refused (Err why) p at k m e old new found own w is = tt
hear_refused (Ok x) p at k m e old new found own w is =
    let heard : event_step at false (told_at p (input.Hear k)) old ≡ at_node p at false (node.Told (input.Hear m)) old = rw (found, own) in
    inl (is ∙ sym (heard ∙ w at (node.Told (input.Hear m)) (λ y. absurd (cc)) (λ y. absurd (cc))))
