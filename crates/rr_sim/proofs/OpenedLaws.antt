-- The openings have no failing device call, so that the nodes behind them are always the same ones.
use Rattle.std.proofs.Common.{◌≡◌, ◌<◌, inl, inr, ℕ, zero, suc, ◌+◌, List, [], ◌∷◌, length, drop, get_or, replicate, sym, ◌∙◌, ap, subst}
use Rattle.std.specs.Prelude.{false}
use Rattle.std.specs.List.{AllByRecursion, flat_map, range_with_len}
use Rattle.std.proofs.lemmas.List.{drop_more}
use Rattle.rr_types.specs.declared.event.NodeEvent.TheVariants.{Device}
use Rattle.rr_text.specs.declared.event.Event.{Event}
use Rattle.rr_text.specs.Events.{event_of}
use Rattle.rr_sim.specs.Clusters.{Cluster, new_cluster, event_step, after_events, Steps, IsSpeltBehind, LeadsSpelt}
use Rattle.rr_sim.specs.Random.{opening_of, openings, IsFailing, StepsInMemory, LeadsInMemory, opened}
use Rattle.rr_sim.proofs.DrawingLemmas.{each_of_both}

-- none of the events is a failing device call
abbrev pub AreCalm : List Event → Type 0
AreCalm events = AllByRecursion (λ e. IsFailing e → ⊥) events

calls_are_calm : (p k : ℕ) → AreCalm (replicate k (event_of p Device))
calls_are_calm p zero = tt
calls_are_calm p (suc k) = (λ f. absurd (let e = f.1 in cc), calls_are_calm p k)

opening_is_calm : (p : ℕ) → AreCalm (opening_of p)
opening_is_calm p = (λ f. absurd (let e = f.1 in cc), calls_are_calm p 9)

openings_are_calm : (a k : ℕ) → AreCalm (flat_map opening_of (range_with_len a k))
openings_are_calm a zero = tt
openings_are_calm a (suc k) = each_of_both (λ e. IsFailing e → ⊥) (opening_of a) (flat_map opening_of (range_with_len (a + 1) k)) (opening_is_calm a) (openings_are_calm (a + 1) k)

-- such events lead to one cluster alone
calm_leads : (at : ℕ) (events : List Event) (old new : Cluster) → AreCalm events → LeadsInMemory at events old new → new ≡ after_events at events old
calm_leads at [] old new calm led = led
calm_leads at (e ∷ es) old new (no_failure, calm) (next, step, led) = calm_leads (at + 1) es next new calm led ∙ ap (after_events (at + 1) es) (sure step)
  where
    sure : StepsInMemory at e old next → next ≡ event_step at false e old
    sure (inl is) = is
    sure (inr (fails, is)) = absurd (no_failure fails)

pub opened_so : (n : ℕ) (events : List Event) (new : Cluster) → events ≡ openings n → LeadsInMemory 2 events (new_cluster n) new → new ≡ opened n
opened_so n events new is led = calm_leads 2 (openings n) (new_cluster n) new (openings_are_calm 0 n) (subst (λ (es : List Event). LeadsInMemory 2 es (new_cluster n) new) is led)

-- ---- one event more

-- an event and those behind it
split : (events : List Event) (i : ℕ) (e : Event) → i < length events → e ≡ get_or events i e → drop i events ≡ e ∷ drop (i + 1) events
split events i e below is = drop_more events i e below ∙ ap (λ (x : Event). x ∷ drop (i + 1) events) (sym is)

either : (at : ℕ) (e : Event) (old new : Cluster) → StepsInMemory at e old new → Steps at e old new
either at e old new (inl is) = inl is
either at e old new (inr (fails, is)) = inr is

module _ (at i : ℕ) (events : List Event) (e : Event) (old next end : Cluster) (below : i < length events) (is : e ≡ get_or events i e) (step : StepsInMemory at e old next) where
  pub leads_more : LeadsInMemory (at + 1) (drop (i + 1) events) next end → LeadsInMemory at (drop i events) old end
  leads_more led = subst (λ (es : List Event). LeadsInMemory at es old end) (sym (split events i e below is)) (next, step, led)

  pub spelt_more : IsSpeltBehind e old next → LeadsSpelt (at + 1) (drop (i + 1) events) next end → LeadsSpelt at (drop i events) old end
  spelt_more spelt led = subst (λ (es : List Event). LeadsSpelt at es old end) (sym (split events i e below is)) (next, either at e old next step, spelt, led)
