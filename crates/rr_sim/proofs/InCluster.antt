-- What a node does alone after a crash it does in its cluster, and no other node hears of it.
use Rattle.std.proofs.Common.{◌≡◌, inl, inr, ℕ, zero, suc, ◌+◌, List, [], ◌∷◌, ◌++◌, length, append-nil, replicate, Ok, Option, Some, refl, sym, ◌∙◌, ap, subst, arith}
use Rattle.std.specs.Prelude.{false, if◌then◌else◌, slice_get, slice_set}
use Rattle.std.specs.Option.{option_map_or}
use Rattle.std.proofs.lemmas.List.{length-replicate}
use Rattle.rr_types.specs.declared.message.Message.{Message}
use Rattle.rr_journal.specs.Openings as phase
use Rattle.rr_types.specs.declared.event.NodeEvent.{NodeEvent}
use Rattle.rr_types.specs.declared.event.NodeEvent.TheVariants.{Device, Restart}
use Rattle.rr_node.specs.declared.event.Outcome.TheVariants.{Quiet, Opened}
use Rattle.rr_node.specs.Runs.{IsSpelt}
use Rattle.rr_node.specs.Seats.{Seat, Stopped, Opening, Answer, by_doing, seat_step, starve, crashed}
use Rattle.rr_text.specs.declared.event.Event.{Event}
use Rattle.rr_text.specs.Events.{event_of}
use Rattle.rr_text.specs.declared.report.ReportLine.{ReportLine}
use Rattle.rr_sim.specs.Clusters.{Cluster, with_answer, at_node, crash_at, event_step, LeadsSpelt, IsSpeltAt, IsSpeltBehind}
use Rattle.rr_sim.specs.Random.{LeadsInMemory, opening_of}
use Rattle.rr_sim.proofs.ClusterLaws.{get_here}
use Rattle.rr_sim.specs.Endings.{crash_of}
use Rattle.rr_sim.specs.Openings.{MakesCalls, Opens}

-- ---- lists

set_twice : {X : Type 0} (xs : List X) (p : ℕ) (x y : X) → slice_set (slice_set xs p x) p y ≡ slice_set xs p y
set_twice {X = X} [] p x y = refl
set_twice {X = X} (z ∷ xs) zero x y = refl
set_twice {X = X} (z ∷ xs) (suc p) x y = ap (λ (ys : List X). z ∷ ys) (set_twice xs p x y)

set_same : {X : Type 0} (xs : List X) (p : ℕ) (x : X) → slice_get xs p ≡ Some x → slice_set xs p x ≡ xs
set_same {X = X} [] p x e = refl
set_same {X = X} (z ∷ xs) zero x e = let same : z ≡ x = (let both : Some z ≡ Some x = e in cc) in ap (λ (y : X). y ∷ xs) (sym same)
set_same {X = X} (z ∷ xs) (suc p) x e = ap (λ (ys : List X). z ∷ ys) (set_same xs p x e)

replicate_parts : {X : Type 0} (k m : ℕ) (x : X) → replicate (k + suc m) x ≡ replicate k x ++ x ∷ replicate m x
replicate_parts {X = X} zero m x = let e : 0 + suc m ≡ suc m = omega arith in ap (λ j. replicate j x) e
replicate_parts {X = X} (suc k) m x = let e : suc k + suc m ≡ suc (k + suc m) = omega arith in ap (λ j. replicate j x) e ∙ ap (λ (ys : List X). x ∷ ys) (replicate_parts k m x)

-- ---- a run of events

-- events lead from one cluster to another with memory there, and what a node flushes behind each has a spelling
pub record Goes (at : ℕ) (events : List Event) (old new : Cluster) : Type 0 where
  pub spelt : LeadsSpelt at events old new
  pub memory : LeadsInMemory at events old new

spelt_both : (at : ℕ) (xs ys : List Event) (old mid new : Cluster) → LeadsSpelt at xs old mid → LeadsSpelt (at + length xs) ys mid new → LeadsSpelt at (xs ++ ys) old new
spelt_both at [] ys old mid new first second = subst (λ (c : Cluster). LeadsSpelt at ys c new) first (subst (λ k. LeadsSpelt k ys mid new) (omega arith) second)
spelt_both at (x ∷ xs) ys old mid new (next, steps, spelt, first) second = (next, steps, spelt, spelt_both (at + 1) xs ys next mid new first (subst (λ k. LeadsSpelt k ys mid new) (omega arith) second))

memory_both : (at : ℕ) (xs ys : List Event) (old mid new : Cluster) → LeadsInMemory at xs old mid → LeadsInMemory (at + length xs) ys mid new → LeadsInMemory at (xs ++ ys) old new
memory_both at [] ys old mid new first second = subst (λ (c : Cluster). LeadsInMemory at ys c new) first (subst (λ k. LeadsInMemory k ys mid new) (omega arith) second)
memory_both at (x ∷ xs) ys old mid new (next, steps, first) second = (next, steps, memory_both (at + 1) xs ys next mid new first (subst (λ k. LeadsInMemory k ys mid new) (omega arith) second))

pub goes_on : (at : ℕ) (xs ys : List Event) (old mid new : Cluster) → Goes at xs old mid → Goes (at + length xs) ys mid new → Goes at (xs ++ ys) old new
goes_on at xs ys old mid new first second = record { spelt = spelt_both at xs ys old mid new first.spelt second.spelt; memory = memory_both at xs ys old mid new first.memory second.memory }

-- one event
goes_once : (at : ℕ) (e : Event) (old new : Cluster) → new ≡ event_step at false e old → IsSpeltBehind e old new → Goes at (e ∷ []) old new
goes_once at e old new is spelt = record { spelt = (new, inl is, spelt, refl); memory = (new, inl is, refl) }

-- ---- node p

-- the cluster with this seat at place p
abbrev placed : ℕ → Seat → Cluster → Cluster
placed p s c = record c { seats = slice_set c.seats p s }

module _ (p : ℕ) where
  spelt_at : (c : Cluster) (s t : Seat) (ls : List ReportLine) (ms : List Message) → slice_get c.seats p ≡ Some s → IsSpelt t.doing → IsSpeltAt p (record { seats = slice_set c.seats p t; wire = ms; lines = ls })
  spelt_at c s t ls ms here spelt other there =
      let same : t ≡ other = (let both : Some t ≡ Some other = sym (get_here c.seats p s t here) ∙ there in cc) in
      subst (λ (x : Seat). IsSpelt x.doing) same spelt

  -- what node p answers in its cluster
  answers : (at : ℕ) (e : NodeEvent Message) (c : Cluster) (s : Seat) (answer : Answer) → slice_get c.seats p ≡ Some s → seat_step e s ≡ answer → at_node p at false e c ≡ with_answer p at c answer
  answers at e c s answer here is = ap (λ (o : Option Seat). option_map_or (λ seat. with_answer p at c (if false then starve e seat else seat_step e seat)) o c) here ∙ ap (with_answer p at c) is

  quiet : (at : ℕ) (e : NodeEvent Message) (c : Cluster) (s t : Seat) → slice_get c.seats p ≡ Some s → seat_step e s ≡ (Ok Quiet, t) → at_node p at false e c ≡ placed p t c
  quiet at e c s t here is = answers at e c s (Ok Quiet, t) here is ∙ (λ i. record { seats = slice_set c.seats p t; wire = append-nil c.wire i; lines = append-nil c.lines i })

  calls_in : (k at : ℕ) (c : Cluster) (s t : Seat) → slice_get c.seats p ≡ Some s → MakesCalls k s t → Goes at (replicate k (event_of p Device)) c (placed p t c)
  calls_in zero at c s t here same =
      let stays : placed p t c ≡ c = ap (λ (x : Seat). placed p x c) same ∙ (λ i. record c { seats = set_same c.seats p s here i }) in
      record { spelt = stays; memory = stays }
  calls_in (suc k) at c s t here (next, is, spelt, rest) =
      let step : placed p next c ≡ event_step at false (event_of p Device) c = sym (quiet at Device c s next here is) in
      let on = calls_in k (at + 1) (placed p next c) next t (get_here c.seats p s next here) rest in
      let end : placed p t (placed p next c) ≡ placed p t c = (λ i. record c { seats = set_twice c.seats p next t i }) in
      let go = subst (λ (x : Cluster). Goes (at + 1) (replicate k (event_of p Device)) (placed p next c) x) end on in
      record {
        spelt = (placed p next c, inl step, inr (spelt_at c s next c.lines c.wire here spelt), go.spelt);
        memory = (placed p next c, inl step, go.memory);
      }

  -- its crash
  pub crash_in : (at a b : ℕ) (fill : List ℕ) (c : Cluster) (s : Seat) → slice_get c.seats p ≡ Some s → Goes at (crash_of p a b fill ∷ []) c (placed p (crashed a b fill s) c)
  crash_in at a b fill c s here =
      let is : placed p (crashed a b fill s) c ≡ crash_at p a b fill c = sym (ap (λ (o : Option Seat). option_map_or (λ (seat : Seat). record c { seats = slice_set c.seats p (crashed a b fill seat) }) o c) here) in
      goes_once at (crash_of p a b fill) c (placed p (crashed a b fill s) c) is (inr (spelt_at c s (crashed a b fill s) c.lines c.wire here tt))

  restarts : (s : Seat) → s.doing ≡ Stopped → seat_step Restart s ≡ (Ok Quiet, record s { doing = Opening phase.Settling })
  restarts s down = ap (by_doing Restart s) down

  -- the opening of its disk, of which the report tells the line and nothing else
  pub opening_in : (at : ℕ) (c : Cluster) (s : Seat) (told : ReportLine) → slice_get c.seats p ≡ Some s → Opens p s told → (end : Cluster) × Goes at (opening_of p) c end × (end.lines ≡ c.lines ++ told ∷ [])
  opening_in at c s told here o =
      let open_seat : Seat = record s { doing = Opening phase.Settling } in
      let begun : Cluster = placed p open_seat c in
      let first : Goes at (event_of p Restart ∷ []) c begun = goes_once at (event_of p Restart) c begun (sym (quiet at Restart c s open_seat here (restarts s o.down))) (inr (spelt_at c s open_seat c.lines c.wire here tt)) in
      let called : Cluster = placed p o.before begun in
      let calls : Goes (at + 1) (replicate o.calls (event_of p Device)) begun called = calls_in o.calls (at + 1) begun open_seat o.before (get_here c.seats p s open_seat here) o.begins in
      let there : slice_get called.seats p ≡ Some o.before = get_here begun.seats p open_seat o.before (get_here c.seats p s open_seat here) in
      let k = at + 1 + o.calls in
      let opened : Cluster = with_answer p k called (Ok (Opened o.facts o.decided o.names), o.after) in
      let last : Goes k (event_of p Device ∷ []) called opened = goes_once k (event_of p Device) called opened (sym (answers k Device called o.before (Ok (Opened o.facts o.decided o.names), o.after) there o.ends)) (inr (spelt_at called o.before o.after opened.lines opened.wire there o.spelt)) in
      let idle : Goes (k + 1) (replicate o.more (event_of p Device)) opened (placed p o.after opened) = calls_in o.more (k + 1) opened o.after o.after (get_here called.seats p o.before o.after there) o.rests in
      let both : Goes k (event_of p Device ∷ replicate o.more (event_of p Device)) called (placed p o.after opened) = goes_on k (event_of p Device ∷ []) (replicate o.more (event_of p Device)) called opened (placed p o.after opened) last idle in
      let long : at + 1 + length (replicate o.calls (event_of p Device)) ≡ k = (let l = length-replicate o.calls (event_of p Device) in omega (l, arith)) in
      let nine : Goes (at + 1) (replicate o.calls (event_of p Device) ++ event_of p Device ∷ replicate o.more (event_of p Device)) begun (placed p o.after opened) =
      goes_on (at + 1) (replicate o.calls (event_of p Device)) (event_of p Device ∷ replicate o.more (event_of p Device)) begun called (placed p o.after opened) calls (subst (λ j. Goes j (event_of p Device ∷ replicate o.more (event_of p Device)) called (placed p o.after opened)) (sym long) both) in
      let events : replicate o.calls (event_of p Device) ++ event_of p Device ∷ replicate o.more (event_of p Device) ≡ replicate 9 (event_of p Device) = sym (replicate_parts o.calls o.more (event_of p Device)) ∙ ap (λ j. replicate j (event_of p Device)) o.nine in (
        placed p o.after opened,
        goes_on at (event_of p Restart ∷ []) (replicate 9 (event_of p Device)) c begun (placed p o.after opened) first (subst (λ (es : List Event). Goes (at + 1) es begun (placed p o.after opened)) events nine),
        ap (λ (l : ReportLine). c.lines ++ l ∷ []) (sym o.tells),
      )
