-- A sweep of all events of a schedule.
use Rattle.std.proofs.Common.{◌≡◌, ℕ, zero, suc, ◌+◌, ◌<◌, Bool, true, false, nat_lt, ltb-true, if◌then◌else◌, List, [], ◌∷◌, ◌++◌, length, take, get_or, None, Some, refl, sym, ◌∙◌, ap, subst, arith}
use Rattle.std.specs.Prelude.{slice_get}
use Rattle.std.specs.List.{AllByRecursion}
use Rattle.std.proofs.lemmas.List.{take_more, length-take-le}
use Rattle.std.proofs.lemmas.Option.{slice_get_read}
use Rattle.rr_text.specs.declared.event.Event.{Event}
use Rattle.rr_text.specs.Scheduled.{IsEvent}
use Rattle.rr_sim.specs.Clusters.{first_fault}
use Rattle.rr_sim.proofs.ClusterLaws.{all_at}
use Rattle.rr_sim.specs.declared.sweeping.SweepLine.{SweepLine}
use Rattle.rr_sim.specs.declared.sweeping.Sweeping.{Sweeping}
use Rattle.rr_sim.specs.Sweeps.{HasSwept, IsNext}

-- where no event is at fault, each is at a node that is there
there_by : (n at : ℕ) (b : Bool) (x : Event) (xs : List Event) → nat_lt x.node n ≡ b → (if b then first_fault n (at + 1) xs else Some at) ≡ None → (x.node < n) × (first_fault n (at + 1) xs ≡ None)
there_by n at true x xs less none = (ltb-true _ _ less, none)
there_by n at false x xs less none = let no : Some at ≡ None = none in absurd (cc)

each_there : (n at : ℕ) (xs : List Event) (k : ℕ) (e : Event) → first_fault n at xs ≡ None → slice_get xs k ≡ Some e → e.node < n
each_there n at [] k e none here = let no : None ≡ Some e = here in absurd (cc)
each_there n at (x ∷ xs) zero e none here =
    let same : x ≡ e = (let both : Some x ≡ Some e = here in cc) in
    subst (λ (y : Event). y.node < n) same (there_by n at (nat_lt x.node n) x xs refl none).0
each_there n at (x ∷ xs) (suc k) e none here = each_there n (at + 1) xs k e (there_by n at (nat_lt x.node n) x xs refl none).1 here

module _ (n m seed : ℕ) (events : List Event) (each : AllByRecursion (IsEvent m) events) (none : first_fault n 2 events ≡ None) where
  -- the event at this place is the next
  pub is_next : (i at : ℕ) (lines : List SweepLine) (e : Event) (sweeping : Sweeping) → i < length events → e ≡ get_or events i e → at ≡ i + 2 → HasSwept n m seed (take i events) lines sweeping
      → IsNext n m seed (take i events) lines at e sweeping
  is_next i at lines e sweeping below own number swept =
      let here : slice_get events i ≡ Some e = slice_get_read events (length events) i e refl below own in
      record {
        swept = swept;
        is_event = all_at (IsEvent m) events i e each here;
        there = each_there n 2 events i e none here;
        line = (let long = length-take-le i events (omega (arith, below)) in omega (arith, below, number, long));
      }

-- and with it they are one more
pub taken_on : (events : List Event) (i : ℕ) (e : Event) → i < length events → e ≡ get_or events i e → take i events ++ e ∷ [] ≡ take (i + 1) events
taken_on events i e below own = ap (λ (x : Event). take i events ++ x ∷ []) own ∙ sym (take_more events i e below)
