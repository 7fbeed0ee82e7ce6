-- What an answer of a node leaves of its cluster.
use Rattle.std.proofs.Common.{◌≡◌, inl, inr, ℕ, ◌<◌, List, [], ◌∷◌, ◌++◌, length, get_or, Some, Result, Ok, Err, refl, sym, ◌∙◌, ap, subst}
use Rattle.std.specs.Prelude.{OnOk, Option, slice_get, slice_set}
use Rattle.std.specs.Option.{option_map_or}
use Rattle.std.proofs.lemmas.List.{append-nil}
use Rattle.std.proofs.lemmas.Option.{slice_get_read}
use Rattle.std.specs.declared.alloc.AllocError.{AllocError}
use Rattle.rr_types.specs.declared.refusal.Refusal.{Refusal}
use Rattle.rr_types.specs.declared.event.NodeEvent.{NodeEvent}
use Rattle.rr_types.specs.declared.message.Message.{Message}
use Rattle.rr_node.specs.declared.event.Outcome.{Outcome}
use Rattle.rr_node.specs.declared.event.Outcome.TheVariants.{Quiet}
use Rattle.rr_node.specs.Runs.{sent_by, IsSpelt}
use Rattle.rr_node.specs.Seats.{Seat, Gives, Fails, seat_step, starve, seat_fails, starve_fails}
use Rattle.rr_text.specs.declared.report.ReportLine.TheVariants as line
use Rattle.rr_sim.specs.Clusters.{Cluster, note_of, with_answer, at_node, fail_at, IsEither, IsSpeltAt}
use Rattle.rr_sim.proofs.ClusterLaws.{get_here}

on_ok : (r : Result (Unit {0}) AllocError) (P Q : Type 0) → (P → Q) → OnOk r P → OnOk r Q
on_ok (Ok x) P Q f h = f h
on_ok (Err e) P Q f h = tt

-- the cluster after an answer of the node at place k
abbrev pub placed : ℕ → ℕ → ℕ → Cluster → Result Outcome Refusal → Seat → Cluster
placed k p at c answer next = record { seats = slice_set c.seats k next; wire = c.wire ++ sent_by answer; lines = c.lines ++ note_of p at (length c.wire) answer }

-- an answer of which nothing comes sends nothing, and the report says nothing of it
pub placed_quietly : (k p at : ℕ) (c : Cluster) (next : Seat) → record c { seats = slice_set c.seats k next } ≡ placed k p at c (Ok Quiet) next
placed_quietly k p at c next = λ i. record { seats = slice_set c.seats k next; wire = sym (append-nil c.wire) i; lines = sym (append-nil c.lines) i }

-- a refusal sends nothing
pub placed_refused : (r : Result (Unit {0}) AllocError) (k p at : ℕ) (c new : Cluster) (next : Seat) (e : Refusal) → OnOk r (new ≡ record c { seats = slice_set c.seats k next; lines = c.lines ++ line.Refuse at e ∷ [] }) → OnOk r (new ≡ placed k p at c (Err e) next)
placed_refused r k p at c new next e left =
    on_ok r (new ≡ record c { seats = slice_set c.seats k next; lines = c.lines ++ line.Refuse at e ∷ [] }) (new ≡ placed k p at c (Err e) next) (λ h. h ∙ same) left
  where
    same : record c { seats = slice_set c.seats k next; lines = c.lines ++ line.Refuse at e ∷ [] } ≡ placed k p at c (Err e) next
    same = λ i. record { seats = slice_set c.seats k next; wire = sym (append-nil c.wire) i; lines = c.lines ++ line.Refuse at e ∷ [] }

module _ (r : Result (Unit {0}) AllocError) (k p at : ℕ) (c new : Cluster) (seat next : Seat) (answer : Result Outcome Refusal) (is : k ≡ p) (there : k < length c.seats) (own : seat ≡ get_or c.seats k seat)
    (left : OnOk r (new ≡ placed k p at c answer next)) where
  here : slice_get c.seats p ≡ Some seat
  here = subst (λ (i : ℕ). slice_get c.seats i ≡ Some seat) is (slice_get_read c.seats (length c.seats) k seat refl there own)

  left_so : new ≡ placed k p at c answer next → new ≡ with_answer p at c (answer, next)
  left_so h = h ∙ ap (λ (i : ℕ). placed i p at c answer next) is

  -- the answer to an event
  pub gave_so : (event : NodeEvent Message) → Gives event seat answer next → OnOk r (IsEither (λ starved. new ≡ at_node p at starved event c))
  gave_so event gives = on_ok r (new ≡ placed k p at c answer next) (IsEither (λ starved. new ≡ at_node p at starved event c)) (by gives) left
    where
      by : Gives event seat answer next → new ≡ placed k p at c answer next → IsEither (λ starved. new ≡ at_node p at starved event c)
      by (inl e) h = inl (left_so h ∙ ap (with_answer p at c) e ∙ ap (λ (o : Option Seat). option_map_or (λ x. with_answer p at c (seat_step event x)) o c) (sym here))
      by (inr e) h = inr (left_so h ∙ ap (with_answer p at c) e ∙ ap (λ (o : Option Seat). option_map_or (λ x. with_answer p at c (starve event x)) o c) (sym here))

  -- the answer to a failing device call
  pub failed_so : (fill : List ℕ) → Fails fill seat answer next → OnOk r (IsEither (λ starved. new ≡ fail_at p at starved fill c))
  failed_so fill fails = on_ok r (new ≡ placed k p at c answer next) (IsEither (λ starved. new ≡ fail_at p at starved fill c)) (by fails) left
    where
      by : Fails fill seat answer next → new ≡ placed k p at c answer next → IsEither (λ starved. new ≡ fail_at p at starved fill c)
      by (inl e) h = inl (left_so h ∙ ap (with_answer p at c) e ∙ ap (λ (o : Option Seat). option_map_or (λ x. with_answer p at c (seat_fails fill x)) o c) (sym here))
      by (inr e) h = inr (left_so h ∙ ap (with_answer p at c) e ∙ ap (λ (o : Option Seat). option_map_or (λ x. with_answer p at c (starve_fails fill x)) o c) (sym here))

  pub spelt_so : IsSpelt next.doing → OnOk r (IsSpeltAt p new)
  spelt_so spelt = on_ok r (new ≡ placed k p at c answer next) (IsSpeltAt p new) (λ h. subst (λ (x : Cluster). IsSpeltAt p x) (sym (left_so h)) at_it) left
    where
      at_it : IsSpeltAt p (with_answer p at c (answer, next))
      at_it other e = let same : next ≡ other = (let f : Some next ≡ Some other = sym (get_here c.seats p seat next here) ∙ e in cc) in subst (λ (x : Seat). IsSpelt x.doing) same spelt
