-- The openings of one node more; events drawn before others.
use Rattle.std.proofs.Common.{◌≡◌, ℕ, zero, suc, ◌+◌, ◌*◌, ◌<◌, ◌≤◌, List, [], ◌∷◌, ◌++◌, length, replicate, refl, ap, ◌∙◌, sym, subst, arith, append_assoc, append-nil}
use Rattle.std.proofs.lemmas.List.{flat_map_more, length-append, length-replicate}
use Rattle.std.specs.List.{AllByRecursion, flat_map, range_with_len}
use Rattle.rand_pcg.specs.Lcg.{Lcg}
use Rattle.rr_types.specs.declared.event.NodeEvent.TheVariants.{Device}
use Rattle.rr_text.specs.declared.event.Event.{Event}
use Rattle.rr_text.specs.Events.{event_of}
use Rattle.rr_text.specs.Scheduled.{IsEvent, IsSchedule}
use Rattle.rr_sim.specs.Clusters.{Cluster}
use Rattle.rr_sim.specs.Random.{opening_of, openings, drawn, behind, StepsInMemory, AreDrawn, Draws}

range_push : (a n : ℕ) → range_with_len a (suc n) ≡ range_with_len a n ++ (a + n) ∷ []
range_push a zero = let e : a + 0 ≡ a = omega arith in rw e
range_push a (suc n) = let e : a + 1 + n ≡ a + suc n = omega arith in ap (λ (t : List ℕ). a ∷ t) (range_push (a + 1) n ∙ rw e)

range_more : (n : ℕ) → range_with_len 0 (n + 1) ≡ range_with_len 0 n ++ n ∷ []
range_more n = let e : n + 1 ≡ suc n = omega arith in let f : 0 + n ≡ n = omega arith in rw e (range_push 0 n ∙ rw f)

pub openings_more : (n : ℕ) → flat_map opening_of (range_with_len 0 n) ++ opening_of n ≡ flat_map opening_of (range_with_len 0 (n + 1))
openings_more n = flat_map_more opening_of [] (range_with_len 0 n) n ∙ ap (flat_map opening_of) (sym (range_more n))

-- both lists keep to a rule, so both together do
pub each_of_both : (P : Event → Type 0) (xs ys : List Event) → AllByRecursion P xs → AllByRecursion P ys → AllByRecursion P (xs ++ ys)
each_of_both P [] ys all more = more
each_of_both P (x ∷ xs) ys (here, all) more = (here, each_of_both P xs ys all more)

calls_are_events : (n p k : ℕ) → p < n → AllByRecursion (IsEvent n) (replicate k (event_of p Device))
calls_are_events n p zero below = tt
calls_are_events n p (suc k) below = (record { node = below; fields = tt }, calls_are_events n p k below)

pub opening_is_of_events : (n p : ℕ) → p < n → AllByRecursion (IsEvent n) (opening_of p)
opening_is_of_events n p below = (record { node = below; fields = tt }, calls_are_events n p 9 below)

-- the openings of k nodes from node a on
pub openings_from : (n a k : ℕ) → a + k ≤ n → AllByRecursion (IsEvent n) (flat_map opening_of (range_with_len a k))
openings_from n a zero within = tt
openings_from n a (suc k) within =
    each_of_both (IsEvent n) (opening_of a) (flat_map opening_of (range_with_len (a + 1) k)) (opening_is_of_events n a (omega (within, arith))) (openings_from n (a + 1) k (omega (within, arith)))

count_from : (a k : ℕ) → length (flat_map opening_of (range_with_len a k)) ≡ 10 * k
count_from a zero = refl
count_from a (suc k) =
    let front = length-append (opening_of a) (flat_map opening_of (range_with_len (a + 1) k)) in
    let calls = length-replicate 9 (event_of a Device) in
    let rest = count_from (a + 1) k in
    omega (front, calls, rest, arith)

pub openings_count : (n : ℕ) → length (openings n) ≡ 10 * n
openings_count n = count_from 0 n

-- a random schedule is one
pub is_a_schedule : (n steps : ℕ) (g : Lcg) (c : Cluster) (events : List Event) → 1 ≤ n → n ≤ 7 → steps ≤ 999930
    → Draws n steps g c (openings n) events → IsSchedule (record { nodes = n; events = events })
is_a_schedule n steps g c events some few within (more, is, count, each, drawn_so) = record {
  some = some;
  few = few;
  short = (let both = ap length is ∙ length-append (openings n) more in let opened = openings_count n in omega (both, opened, count, few, within, arith));
  each = subst (λ l. AllByRecursion (IsEvent n) l) (sym is) (each_of_both (IsEvent n) (openings n) more (openings_from n 0 n (omega arith)) each);
}

-- i of the events are drawn: where the words give others from here on, they give all of them
abbrev pub Drawing : ℕ → ℕ → Lcg → Cluster → List Event → List Event → ℕ → Lcg → Cluster → Type 0
Drawing n steps g c old items i h d =
    (more : List Event) × (items ≡ old ++ more) × (length more ≡ i) × AllByRecursion (IsEvent n) more
    × ((left : ℕ) (rest : List Event) → left + i ≡ steps → AreDrawn n (length items + 2) left h d rest → AreDrawn n (length old + 2) steps g c (more ++ rest))

pub drawing_none : (n steps : ℕ) (g : Lcg) (c : Cluster) (old : List Event) → Drawing n steps g c old old 0 g c
drawing_none n steps g c old =
    ([], sym (append-nil old), refl, tt, λ left rest all drawn_so. subst (λ k. AreDrawn n (length old + 2) k g c rest) (omega (all, arith)) drawn_so)

pub drawing_more : (n steps : ℕ) (g : Lcg) (c : Cluster) (old items : List Event) (i : ℕ) (h : Lcg) (d next : Cluster)
    → Drawing n steps g c old items i h d → IsEvent n (drawn n d.wire h) → StepsInMemory (length items + 2) (drawn n d.wire h) d next
    → Drawing n steps g c old (items ++ drawn n d.wire h ∷ []) (i + 1) (behind (behind h)) next
drawing_more n steps g c old items i h d next (more, is, count, each, on) valid led =
    let e = drawn n d.wire h in
    let longer : length (items ++ e ∷ []) + 2 ≡ length items + 2 + 1 = (let l = length-append items (e ∷ []) in omega (l, arith)) in (
      more ++ e ∷ [],
      ap (λ (l : List Event). l ++ e ∷ []) is ∙ append_assoc old more (e ∷ []),
      (let l = length-append more (e ∷ []) in omega (l, count, arith)),
      each_of_both (IsEvent n) more (e ∷ []) each (valid, tt),
      λ left rest all drawn_so.
          subst (λ l. AreDrawn n (length old + 2) steps g c l) (sym (append_assoc more (e ∷ []) rest))
          (on (suc left) (e ∷ rest) (omega (all, arith)) (next, rest, refl, led, subst (λ k. AreDrawn n k left (behind (behind h)) next rest) longer drawn_so)),
    )

-- one event more, with the generator and the cluster behind it
pub drawing_on : (n steps : ℕ) (g : Lcg) (c : Cluster) (old items : List Event) (i : ℕ) (h : Lcg) (d : Cluster) (line : ℕ) (e : Event) (longer : List Event) (after : Lcg) (next : Cluster)
    → Drawing n steps g c old items i h d → e ≡ drawn n d.wire h → IsEvent n e → line ≡ length items + 2 → StepsInMemory line e d next → longer ≡ items ++ e ∷ [] → after ≡ behind (behind h)
    → Drawing n steps g c old longer (i + 1) after next
drawing_on n steps g c old items i h d line e longer after next so_far is valid at led more words =
    subst (λ (l : List Event). Drawing n steps g c old l (i + 1) after next) (sym more)
    (subst (λ (w : Lcg). Drawing n steps g c old (items ++ e ∷ []) (i + 1) w next) (sym words)
    (subst (λ (x : Event). Drawing n steps g c old (items ++ x ∷ []) (i + 1) (behind (behind h)) next) (sym is)
    (drawing_more n steps g c old items i h d next so_far (subst (IsEvent n) is valid)
    (subst (λ (x : Event). StepsInMemory (length items + 2) x d next) is (subst (λ (k : ℕ). StepsInMemory k e d next) at led)))))

pub drawing_all : (n steps : ℕ) (g : Lcg) (c : Cluster) (old items : List Event) (h : Lcg) (d : Cluster)
    → Drawing n steps g c old items steps h d → Draws n steps g c old items
drawing_all n steps g c old items h d (more, is, count, each, on) =
    (more, is, count, each, subst (λ l. AreDrawn n (length old + 2) steps g c l) (append-nil more) (on 0 [] (omega arith) refl))
