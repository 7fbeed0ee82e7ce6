-- One event more of a sweep.
use Rattle.std.proofs.Common.{◌≡◌, inl, inr, ℕ, ◌+◌, ◌<◌, ◌≤◌, List, [], ◌∷◌, ◌++◌, length, Some, append-nil, append_assoc, refl, sym, ◌∙◌, ap, subst, arith}
use Rattle.std.specs.Prelude.{false, true, slice_get}
use Rattle.std.specs.List.{AllByRecursion}
use Rattle.rr_types.specs.declared.event.NodeEvent.TheVariants.{Device}
use Rattle.rr_node.specs.Seats.{Seat}
use Rattle.rr_text.specs.declared.event.Event.{Event}
use Rattle.rr_text.specs.declared.event.Happening.{Happening}
use Rattle.rr_text.specs.declared.event.Happening.TheVariants.{At}
use Rattle.rr_text.specs.Events.{event_of}
use Rattle.rr_text.specs.declared.report.ReportLine.{ReportLine}
use Rattle.rr_text.specs.Scheduled.{IsEvent}
use Rattle.rr_sim.specs.Clusters.{Cluster, new_cluster, Steps, IsSpeltBehind}
use Rattle.rr_sim.specs.Random.{StepsInMemory, seeded, word}
use Rattle.rr_sim.proofs.DrawingLemmas.{each_of_both}
use Rattle.rr_sim.proofs.ToldLaws.{behind_lines, stepped, whole, spelt_behind, length_push}
use Rattle.rr_sim.specs.declared.ending.Ending.{Ending}
use Rattle.rr_sim.specs.declared.sweeping.SweepLine.{SweepLine}
use Rattle.rr_sim.specs.declared.sweeping.Sweeping.{Sweeping}
use Rattle.rr_sim.specs.Endings.{all_endings}
use Rattle.rr_sim.specs.Openings.{IsInSome}
use Rattle.rr_sim.specs.Sweeps.{AreEndings, AreLinesOf, behind_event, AreSwept, IsSweep, HasSwept, IsNext, AreCrashes, MayCrash, AreCrashesBehind}
use Rattle.rr_sim.proofs.InCluster.{Goes, goes_on}
use Rattle.rr_sim.proofs.Restarts.{stands, seat_there, restart_behind}

-- ---- nothing yet

pub swept_none : (n m seed : ℕ) (sweeping : Sweeping) → n ≤ 7 → sweeping.cluster ≡ new_cluster n → sweeping.generator ≡ seeded seed → HasSwept n m seed [] [] sweeping
swept_none n m seed sweeping few is words = record {
  few = few;
  cluster = new_cluster n;
  each = tt;
  leads = refl;
  in_memory = refl;
  kept = is;
  swept = λ more rest are. subst (λ g. AreSwept n [] g more rest) words are;
}

-- ---- one event more

in_memory_behind : (at : ℕ) (e : Event) (ls : List ReportLine) (old new : Cluster) → StepsInMemory at e old new → StepsInMemory at e (behind_lines ls old) (behind_lines ls new)
in_memory_behind at e ls old new (inl is) = inl (ap (behind_lines ls) is ∙ sym (stepped at false e ls old))
in_memory_behind at e ls old new (inr (fails, is)) = inr (fails, ap (behind_lines ls) is ∙ sym (stepped at true e ls old))

either : (at : ℕ) (e : Event) (old new : Cluster) → StepsInMemory at e old new → Steps at e old new
either at e old new (inl is) = inl is
either at e old new (inr (fails, is)) = inr is

-- the cluster behind it, with all its lines
pub record Behind (n m : ℕ) (events : List Event) (e : Event) (kept : Cluster) : Type 0 where
  pub cluster : Cluster
  pub each : AllByRecursion (IsEvent m) (events ++ e ∷ [])
  pub goes : Goes 2 (events ++ e ∷ []) (new_cluster n) cluster
  pub is_kept : kept ≡ record cluster { lines = [] }

pub behind_it : (n m seed : ℕ) (events : List Event) (lines : List SweepLine) (at : ℕ) (e : Event) (old : Sweeping) (next kept : Cluster) → IsNext n m seed events lines at e old
    → StepsInMemory at e old.cluster next → IsSpeltBehind e old.cluster next → kept ≡ record next { lines = [] } → Behind n m events e kept
behind_it n m seed events lines at e old next kept is led spelt emptied =
    let h = is.swept in
    let same : behind_lines h.cluster.lines old.cluster ≡ h.cluster = whole h.cluster old.cluster h.kept in
    let on : Cluster = behind_lines h.cluster.lines next in
    let number : at ≡ 2 + length events = omega (arith, is.line) in
    let led_on : StepsInMemory (2 + length events) e h.cluster on = subst (λ k. StepsInMemory k e h.cluster on) number (subst (λ (c : Cluster). StepsInMemory at e c on) same (in_memory_behind at e h.cluster.lines old.cluster next led)) in
    let spelt_on : IsSpeltBehind e h.cluster on = spelt_behind e h.cluster.lines old.cluster next h.cluster same spelt in
    let last : Goes (2 + length events) (e ∷ []) h.cluster on = record { spelt = (on, either (2 + length events) e h.cluster on led_on, spelt_on, refl); memory = (on, led_on, refl) } in
    let front : Goes 2 events (new_cluster n) h.cluster = record { spelt = h.leads; memory = h.in_memory } in
    record {
      cluster = on;
      each = each_of_both (IsEvent m) events (e ∷ []) h.each (is.is_event, tt);
      goes = goes_on 2 events (e ∷ []) (new_cluster n) h.cluster on front last;
      is_kept = emptied;
    }

-- the seat of its node
module _ (n m : ℕ) (few : n ≤ 7) (events : List Event) (e : Event) (kept : Cluster) (b : Behind n m events e kept) (p : ℕ) where
  seats : kept.seats ≡ b.cluster.seats
  seats = ap (λ (c : Cluster). c.seats) b.is_kept

  pub its_seat : p < n → (seat : Seat) × (slice_get kept.seats p ≡ Some seat)
  its_seat below = let there = seat_there n m few (events ++ e ∷ []) b.cluster b.each b.goes.spelt p below in (there.0, ap (λ (xs : List Seat). slice_get xs p) seats ∙ there.1)

  pub it_stands : (seat : Seat) → slice_get kept.seats p ≡ Some seat → IsInSome n p seat
  it_stands seat here = stands n m few (events ++ e ∷ []) b.cluster b.each b.goes.spelt p seat (sym (ap (λ (xs : List Seat). slice_get xs p) seats) ∙ here)

  -- the lines of its crashes are restarts behind the events
  crashes_are : (at w : ℕ) (seat : Seat) (endings : List Ending) (lines : List SweepLine) → p < m → slice_get kept.seats p ≡ Some seat → at ≡ length (events ++ e ∷ []) + 1
      → AreCrashes at p seat w endings lines → AreEndings n p (events ++ e ∷ []) w endings lines
  crashes_are at w seat [] lines below here number is = is
  crashes_are at w seat (ending ∷ endings) lines below here number (restart, rest, is, opens, more) = (
    restart,
    rest,
    is ∙ ap (λ k. record { line = k; ending = ending; restart = restart } ∷ rest) number,
    restart_behind n m few (events ++ e ∷ []) b.cluster b.each b.goes.spelt b.goes.memory p w ending seat restart below (sym (ap (λ (xs : List Seat). slice_get xs p) seats) ∙ here) opens,
    crashes_are at w seat endings rest below here number more,
  )

-- a sweep behind one event more
swept_on : (n m seed at : ℕ) (events : List Event) (lines own : List SweepLine) (e : Event) (old new : Sweeping) → IsNext n m seed events lines at e old → Behind n m events e new.cluster
    → AreLinesOf n (events ++ e ∷ []) old.generator e.node e.what own → new.generator ≡ behind_event e.what old.generator → HasSwept n m seed (events ++ e ∷ []) (lines ++ own) new
swept_on n m seed at events lines own e old new is b are words = record {
  few = is.swept.few;
  cluster = b.cluster;
  each = b.each;
  leads = b.goes.spelt;
  in_memory = b.goes.memory;
  kept = b.is_kept;
  swept = λ more rest on.
      subst (λ (es : List Event). AreSwept n [] (seeded seed) es ((lines ++ own) ++ rest)) (sym (append_assoc events (e ∷ []) more))
      (subst (λ (ls : List SweepLine). AreSwept n [] (seeded seed) (events ++ e ∷ more) ls) (sym (append_assoc lines own rest))
      (is.swept.swept (e ∷ more) (own ++ rest) (own, rest, refl, are, subst (λ g. AreSwept n (events ++ e ∷ []) g more rest) words on)));
}

-- its node may crash, if it is a device call
pub may_crash : (n m : ℕ) → n ≤ 7 → (events : List Event) (p : ℕ) (what : Happening) (kept : Cluster) → Behind n m events (record { node = p; what = what }) kept → p < n → MayCrash p what kept
may_crash n m few events p (At Device) kept b below =
    let there = its_seat n m few events (event_of p Device) kept b p below in
    (there.0, n, p, there.1, it_stands n m few events (event_of p Device) kept b p there.0 there.1)
may_crash n m few events p _ kept b below = tt

its_lines : (n m seed at : ℕ) (events : List Event) (lines own : List SweepLine) (p : ℕ) (what : Happening) (old now : Sweeping) → IsNext n m seed events lines at (record { node = p; what = what }) old
    → Behind n m events (record { node = p; what = what }) now.cluster → now.generator ≡ old.generator → AreCrashesBehind at p what now own
    → AreLinesOf n (events ++ record { node = p; what = what } ∷ []) old.generator p what own
its_lines n m seed at events lines own p (At Device) old now is b words crashes =
    let there = its_seat n m is.swept.few events (event_of p Device) now.cluster b p is.there in
    let long = length_push events (event_of p Device) in
    let number : at ≡ length (events ++ event_of p Device ∷ []) + 1 = omega (arith, long, is.line) in
    let own_lines = crashes_are n m is.swept.few events (event_of p Device) now.cluster b p at (word now.generator) there.0 all_endings own is.is_event.node there.1 number (crashes there.0 there.1) in
    subst (λ g. AreEndings n p (events ++ event_of p Device ∷ []) (word g) all_endings own) words own_lines
its_lines n m seed at events lines own p _ old now is b words crashes = crashes

-- the sweep behind it
pub swept_more : (n m seed at : ℕ) (events : List Event) (lines own : List SweepLine) (e : Event) (old now new : Sweeping) → IsNext n m seed events lines at e old → Behind n m events e now.cluster
    → now.generator ≡ old.generator → AreCrashesBehind at e.node e.what now own → new.cluster ≡ now.cluster → new.generator ≡ behind_event e.what now.generator → HasSwept n m seed (events ++ e ∷ []) (lines ++ own) new
swept_more n m seed at events lines own e old now new is b same crashes stays words =
    swept_on n m seed at events lines own e old new is (subst (λ (c : Cluster). Behind n m events e c) (sym stays) b) (its_lines n m seed at events lines own e.node e.what old now is b same crashes)
    (words ∙ ap (behind_event e.what) same)

-- ---- all events

pub swept_all : (n m seed : ℕ) (events : List Event) (lines : List SweepLine) (sweeping : Sweeping) → HasSwept n m seed events lines sweeping → IsSweep n events seed lines
swept_all n m seed events lines sweeping h =
    subst (λ (ls : List SweepLine). AreSwept n [] (seeded seed) events ls) (append-nil lines)
    (subst (λ (es : List Event). AreSwept n [] (seeded seed) es (lines ++ [])) (append-nil events) (h.swept [] [] refl))
