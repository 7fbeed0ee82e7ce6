-- A node that a crash has left opens its disk within nine device calls, and is refused for want of memory alone.
use Rattle.std.proofs.Common.{◌≡◌, ◌⊎◌, inl, inr, ℕ, zero, suc, ◌+◌, ◌-◌, ◌^◌, ◌<◌, ◌≤◌, Bool, true, false, List, [], ◌∷◌, ◌++◌, length, take, Option, None, Some, MatchOption, Result, Ok, Err, refl, sym, ◌∙◌, ap, subst, arith, if◌then◌else◌}
use Rattle.rr_types.specs.declared.refusal.Refusal.{Refusal}
use Rattle.rr_types.specs.declared.refusal.Refusal.TheVariants as because
use Rattle.rr_types.specs.Registry.{Bindings}
use Rattle.rr_model.specs.World.{World}
use Rattle.rr_disk.specs.declared.area.Area.{Area}
use Rattle.rr_disk.specs.declared.area.Area.TheVariants.{First, Second}
use Rattle.rr_disk.specs.Areas.{Areas, extent_of, read_of}
use Rattle.rr_frame.specs.SnapshotFormat.{snapshot_bytes}
use Rattle.rr_journal.specs.Image.{Content, Found, Unformatted, Broken, Active, Outdated, found}
use Rattle.rr_journal.specs.Held.{StandsFor}
use Rattle.rr_journal.specs.Calls.{after_call, must_close, rewrite_calls}
use Rattle.rr_journal.specs.Openings as phase
use Rattle.rr_journal.specs.Openings.{After, Goes, Stops, bytes_in, snapshot_with, migrate_calls, after_found, due_call}
use Rattle.rr_journal.specs.Migration.{migrated, may_migrate}
use Rattle.rr_journal.specs.OtherAreas.{other_area}
use Rattle.rr_journal.proofs.OpeningLaws.{read_at_rest}
use Rattle.rr_types.specs.declared.event.NodeEvent.TheVariants.{Device, Restart}
use Rattle.rr_node.specs.declared.event.Outcome.{Outcome}
use Rattle.rr_node.specs.declared.event.Outcome.TheVariants.{Quiet, Opened}
use Rattle.rr_node.specs.Runs.{IsSpelt}
use Rattle.rr_node.specs.Seats.{Seat, Doing, Stopped, Faulted, Opening, Serving, Answer, Gives, opens_on, by_doing, called, seat_step, starve, starve_doing}
use Rattle.rr_node.specs.Worlds.{InStep}
use Rattle.rr_node.proofs.Falling.{seated}
use Rattle.rr_node.proofs.Opens.{end_anew}
use Rattle.rr_node.proofs.Stepping.{steps_in_step}
use Rattle.rr_model.specs.Laws.{after_steps}
use Rattle.rr_sim.proofs.Wanting.{IsWanting, wanting_or_same}
use Rattle.rr_text.specs.declared.report.ReportLine.{ReportLine}
use Rattle.rr_text.specs.declared.report.ReportLine.TheVariants as line
use Rattle.rr_sim.specs.Clusters.{shown}
use Rattle.rr_sim.specs.Openings.{MakesCalls, Opens, AreLeft, IsInSome, IsOpening, HasOpened}

not_both : (outcome : Outcome) (e : Refusal) (r : Result Outcome Refusal) → r ≡ Ok outcome → r ≡ Err e → ⊥
not_both outcome e r one other = cc

same_refusal : (e f : Refusal) (r : Result Outcome Refusal) → r ≡ Err e → r ≡ Err f → e ≡ f
same_refusal e f r one other = cc

same_outcome : (x y : Outcome) (r : Result Outcome Refusal) → r ≡ Ok x → r ≡ Ok y → x ≡ y
same_outcome x y r one other = cc

never : (may : Bool) → may ≡ true → may ≡ false → ⊥
never may one other = cc

-- what an answer is, of the answer with the seat behind it
answered : (a b : Answer) → a ≡ b → a.0 ≡ b.0
answered a b e = ap (λ (x : Answer). x.0) e

seat_behind : (a b : Answer) → a ≡ b → a.1 ≡ b.1
seat_behind a b e = ap (λ (x : Answer). x.1) e

-- what a device call of an opening comes to where memory is there, with at most so many left behind it
data Comes (left : ℕ) (answer : Answer) : Type 0 where
  goes : (next : Seat) → answer ≡ (Ok Quiet, next) → AreLeft left next.doing → Comes left answer
  ends : (facts decided : ℕ) (names : Bindings) (next : Seat) → answer ≡ (Ok (Opened facts decided names), next) → HasOpened next.doing → Comes left answer

rewrite_length : (area : Area) (b : Bool) (payload : List ℕ) → (1 ≤ length (rewrite_calls area b payload)) × (length (rewrite_calls area b payload) ≤ 6)
rewrite_length area true payload = (omega arith, omega arith)
rewrite_length area false payload = (omega arith, omega arith)

module _ (n p : ℕ) (w : World) (m q k : ℕ) (areas : Areas) where
  -- what both reads find is formatted, or an area is written anew
  finds : (left : ℕ) (first : List ℕ) → InStep n p (seated m q k areas (Opening (phase.ReadingSecond first))) w → 7 ≤ suc left → (next : Seat) → (f : Found)
      → found m q first (read_of 0 (2 ^ 64 - 1) (extent_of areas Second)) ≡ f → Comes left (opens_on next (after_found m q first (read_of 0 (2 ^ 64 - 1) (extent_of areas Second)) f))
  finds left first h some next f is = by f is
    where
      rests_at : found m q first (read_of 0 (2 ^ 64 - 1) (extent_of areas Second)) ≡ found n p h.doing.1.opens.0.start.of_first h.doing.1.opens.0.start.of_second
      rests_at =
          let rests = h.doing.1.opens.0 in
          let bytes : read_of 0 (2 ^ 64 - 1) (extent_of areas Second) ≡ rests.start.of_second = ap (λ (b : Areas). read_of 0 (2 ^ 64 - 1) (extent_of b Second)) rests.stands ∙ read_at_rest rests.start.of_second rests.second_fits in
          ap (λ x. found x q first (read_of 0 (2 ^ 64 - 1) (extent_of areas Second))) h.nodes
          ∙ ap (λ x. found n x first (read_of 0 (2 ^ 64 - 1) (extent_of areas Second))) h.node
          ∙ ap (λ (b : List ℕ). found n p b (read_of 0 (2 ^ 64 - 1) (extent_of areas Second))) h.doing.1.opens.1
          ∙ ap (λ (b : List ℕ). found n p rests.start.of_first b) bytes

      by : (f : Found) → found m q first (read_of 0 (2 ^ 64 - 1) (extent_of areas Second)) ≡ f → Comes left (opens_on next (after_found m q first (read_of 0 (2 ^ 64 - 1) (extent_of areas Second)) f))
      by Unformatted e =
          let long = rewrite_length First (must_close first) (snapshot_bytes (record { node = q; nodes = m; epoch = 1; next = 0; entries = [] })) in
          goes _ refl (long.0, omega (arith, long.1, some))
      by (Broken area offset) e = absurd (subst (λ (f : Found). StandsFor f (w.kept p ++ take h.doing.1.count (w.staged p))) (sym rests_at ∙ e) h.doing.1.opens.0.holds.stands)
      by (Active area c) e = ends _ _ _ _ refl (record { state = _; journal = _; is = refl })
      by (Outdated area c) e =
          let stands : StandsFor (Outdated area c) (w.kept p ++ take h.doing.1.count (w.staged p)) = subst (λ (f : Found). StandsFor f (w.kept p ++ take h.doing.1.count (w.staged p))) (sym rests_at ∙ e) h.doing.1.opens.0.holds.stands in
          migrates area c stands.2 (may_migrate c) refl
        where
          migrates : (area : Area) (c : Content) → may_migrate c ≡ true → (may : Bool) → may_migrate c ≡ may
              → Comes left (opens_on next (if may then Goes (phase.Rewriting (Outdated area c) (migrate_calls m q area c (bytes_in (other_area area) first (read_of 0 (2 ^ 64 - 1) (extent_of areas Second))))) else Stops because.TooLarge))
          migrates area c stands true may =
              let long = rewrite_length (other_area area) (must_close (bytes_in (other_area area) first (read_of 0 (2 ^ 64 - 1) (extent_of areas Second)))) (snapshot_bytes (snapshot_with m q (migrated c))) in
              goes _ refl (long.0, omega (arith, long.1, some))
          migrates area c stands false may = absurd (never (may_migrate c) stands may)

  comes_by : (left : ℕ) (doing : Doing) → InStep n p (seated m q k areas doing) w → AreLeft (suc left) doing → Comes left (seat_step Device (seated m q k areas doing))
  comes_by left Stopped h some = absurd some
  comes_by left Faulted h some = absurd some
  comes_by left (Opening phase.Settling) h some = goes _ refl (omega (arith, some))
  comes_by left (Opening phase.ReadingFirst) h some = goes _ refl (omega (arith, some))
  comes_by left (Opening (phase.ReadingSecond first)) h some = finds left first h some (called (after_call (due_call (phase.ReadingSecond first)) areas) (seated m q k areas (Opening (phase.ReadingSecond first)))) (found m q first (read_of 0 (2 ^ 64 - 1) (extent_of areas Second))) refl
  comes_by left (Opening (phase.Rewriting f [])) h some = absurd (omega (arith, some.0))
  comes_by left (Opening (phase.Rewriting f (call ∷ []))) h some =
      subst (λ (after : After). Comes left (opens_on (called (after_call call areas) (seated m q k areas (Opening (phase.Rewriting f (call ∷ []))))) after)) (sym (end_anew f h.doing.1.opens.rewrites.due))
      (ends _ _ _ _ refl (record { state = _; journal = _; is = refl }))
  comes_by left (Opening (phase.Rewriting f (call ∷ next ∷ calls))) h some = goes _ refl (omega arith, omega (arith, some.1))
  comes_by left (Serving s journal flush) h some = absurd some

comes : (n p left : ℕ) (seat : Seat) → IsOpening n p (suc left) seat → Comes left (seat_step Device seat)
comes n p left seat o = comes_by n p o.stands.world seat.nodes seat.node seat.calls seat.areas left seat.doing o.stands.in_step o.left_of_it

-- a device call that is refused found no memory
never_refused : (left : ℕ) (seat next : Seat) (e : Refusal) → Comes left (seat_step Device seat) → (Err e, next) ≡ seat_step Device seat → ⊥
never_refused left seat next e (goes after given rest) is = not_both Quiet e (seat_step Device seat).0 (answered _ _ given) (sym (answered _ _ is))
never_refused left seat next e (ends facts decided names after given rest) is = not_both (Opened facts decided names) e (seat_step Device seat).0 (answered _ _ given) (sym (answered _ _ is))

pub refused_for_want : (n p left : ℕ) (seat next : Seat) (e : Refusal) → IsOpening n p (left + 1) seat → Gives Device seat (Err e) next → (e ≡ because.OutOfMemory) ⊎ (e ≡ because.Device)
refused_for_want n p left seat next e o gives = by gives (wanting_or_same Device seat)
  where
    never : (Err e, next) ≡ seat_step Device seat → ⊥
    never is = never_refused left seat next e (comes n p left seat (subst (λ k. IsOpening n p k seat) (omega arith) o)) is

    by : Gives Device seat (Err e) next → IsWanting (starve Device seat) ⊎ (starve Device seat ≡ seat_step Device seat) → (e ≡ because.OutOfMemory) ⊎ (e ≡ because.Device)
    by (inl is) any = absurd (never is)
    by (inr is) (inl w) =
        let same : w.refusal ≡ e = same_refusal w.refusal e (starve Device seat).0 w.is (sym (answered _ _ is)) in
        subst (λ (r : Refusal). (r ≡ because.OutOfMemory) ⊎ (r ≡ because.Device)) same w.wants
    by (inr is) (inr same) = absurd (never (is ∙ same))

-- one that isn't refused is as it is where memory is there
in_memory : (seat next : Seat) (outcome : Outcome) → Gives Device seat (Ok outcome) next → seat_step Device seat ≡ (Ok outcome, next)
in_memory seat next outcome gives = by gives (wanting_or_same Device seat)
  where
    by : Gives Device seat (Ok outcome) next → IsWanting (starve Device seat) ⊎ (starve Device seat ≡ seat_step Device seat) → seat_step Device seat ≡ (Ok outcome, next)
    by (inl is) any = sym is
    by (inr is) (inl w) = absurd (not_both outcome w.refusal (starve Device seat).0 (sym (answered _ _ is)) w.is)
    by (inr is) (inr same) = sym (is ∙ same)

-- what it answers and where it leaves the node
pub record CallMade (n p left : ℕ) (seat : Seat) (outcome : Outcome) (next : Seat) : Type 0 where
  pub step : seat_step Device seat ≡ (Ok outcome, next)
  pub how : ((outcome ≡ Quiet) × IsOpening n p left next) ⊎ ((facts : ℕ) × (decided : ℕ) × (names : Bindings) × (outcome ≡ Opened facts decided names) × HasOpened next.doing)

pub call_made : (n p left : ℕ) (seat next : Seat) (outcome : Outcome) → IsOpening n p (left + 1) seat → Gives Device seat (Ok outcome) next → IsSpelt next.doing → CallMade n p left seat outcome next
call_made n p left seat next outcome o gives spelt = record { step = is; how = by (comes n p left seat (subst (λ k. IsOpening n p k seat) (omega arith) o)) }
  where
    is : seat_step Device seat ≡ (Ok outcome, next)
    is = in_memory seat next outcome gives

    by : Comes left (seat_step Device seat) → ((outcome ≡ Quiet) × IsOpening n p left next) ⊎ ((facts : ℕ) × (decided : ℕ) × (names : Bindings) × (outcome ≡ Opened facts decided names) × HasOpened next.doing)
    by (goes after given rest) =
        let here : after ≡ next = sym (seat_behind _ _ given) ∙ seat_behind _ _ is in
        let took = steps_in_step n p o.stands.few Device seat next o.stands.world (Ok outcome) o.stands.in_step tt gives spelt in
        inl (
          same_outcome outcome Quiet (seat_step Device seat).0 (answered _ _ is) (answered _ _ given),
          record { stands = record { few = o.stands.few; world = after_steps o.stands.world took.steps; in_step = took.in_step }; left_of_it = subst (λ (s : Seat). AreLeft left s.doing) here rest },
        )
    by (ends facts decided names after given rest) =
        let here : after ≡ next = sym (seat_behind _ _ given) ∙ seat_behind _ _ is in
        inr (facts, decided, names, same_outcome outcome (Opened facts decided names) (seat_step Device seat).0 (answered _ _ is) (answered _ _ given), subst (λ (s : Seat). HasOpened s.doing) here rest)

-- which an ending that is told of, or that is not, says
pub ended_is : (n p left : ℕ) (seat next : Seat) (outcome : Outcome) (ended : Option (ℕ × ℕ × Bindings)) → CallMade n p left seat outcome next
    → MatchOption ended ((facts decided : ℕ) (names : Bindings) → outcome ≡ Opened facts decided names → ⊥) (λ x. outcome ≡ Opened x.0 x.1 x.2)
    → MatchOption ended ((seat_step Device seat ≡ (Ok Quiet, next)) × IsOpening n p left next) (λ x. (seat_step Device seat ≡ (Ok (Opened x.0 x.1 x.2), next)) × HasOpened next.doing)
ended_is n p left seat next outcome None made none = by made.how
  where
    by : ((outcome ≡ Quiet) × IsOpening n p left next) ⊎ ((facts : ℕ) × (decided : ℕ) × (names : Bindings) × (outcome ≡ Opened facts decided names) × HasOpened next.doing) → (seat_step Device seat ≡ (Ok Quiet, next)) × IsOpening n p left next
    by (inl (quiet, more)) = (made.step ∙ ap (λ (o : Outcome). (Ok o, next)) quiet, more)
    by (inr (facts, decided, names, is, opened)) = absurd (none facts decided names is)
ended_is n p left seat next outcome (Some x) made some = by made.how
  where
    quiet_opens : outcome ≡ Quiet → outcome ≡ Opened x.0 x.1 x.2 → ⊥
    quiet_opens one other = cc

    by : ((outcome ≡ Quiet) × IsOpening n p left next) ⊎ ((facts : ℕ) × (decided : ℕ) × (names : Bindings) × (outcome ≡ Opened facts decided names) × HasOpened next.doing) → (seat_step Device seat ≡ (Ok (Opened x.0 x.1 x.2), next)) × HasOpened next.doing
    by (inl (quiet, more)) = absurd (quiet_opens quiet some)
    by (inr (facts, decided, names, is, opened)) = (made.step ∙ ap (λ (o : Outcome). (Ok o, next)) some, opened)

-- what stands of an answer that is there, and of one that isn't
pub where_some : {X : Type 0} (A : Type 0) (B : X → Type 0) (o : Option X) (x : X) → o ≡ Some x → MatchOption o A B → B x
where_some A B o x is holds = subst (λ (o : Option _). MatchOption o A B) is holds

pub where_none : {X : Type 0} (A : Type 0) (B : X → Type 0) (o : Option X) → ((x : X) → o ≡ Some x → ⊥) → MatchOption o A B → A
where_none A B None not holds = holds
where_none A B (Some x) not holds = absurd (not x refl)

-- none is left of no opening
pub some_are_left : (n p : ℕ) (seat : Seat) → IsOpening n p 0 seat → ⊥
some_are_left n p seat o = by seat.doing o.left_of_it
  where
    by : (doing : Doing) → AreLeft 0 doing → ⊥
    by Stopped some = some
    by Faulted some = some
    by (Opening phase.Settling) some = omega (arith, some)
    by (Opening phase.ReadingFirst) some = omega (arith, some)
    by (Opening (phase.ReadingSecond first)) some = omega (arith, some)
    by (Opening (phase.Rewriting f calls)) some = omega (arith, some.0, some.1)
    by (Serving s journal flush) some = some

-- ---- the opening, call by call

-- so many device calls were made of an opening, and it goes on
pub record OpeningSoFar (seat : Seat) (k : ℕ) (now : Seat) : Type 0 where
  pub made : MakesCalls k (record seat { doing = Opening phase.Settling }) now
  pub n : ℕ
  pub p : ℕ
  pub left : ℕ
  pub all : left + k ≡ 9
  pub goes : IsOpening n p left now

-- the restart of a node that is down
begun : (seat next : Seat) (answer : Result Outcome Refusal) (doing : Doing) → seat.doing ≡ doing → doing ≡ Stopped → Gives Restart seat answer next → next ≡ record seat { doing = Opening phase.Settling }
begun seat next answer doing does down gives = by gives
  where
    is_down : seat.doing ≡ Stopped
    is_down = does ∙ down

    by : Gives Restart seat answer next → next ≡ record seat { doing = Opening phase.Settling }
    by (inl is) = ap (λ (a : Answer). a.1) (is ∙ ap (by_doing Restart seat) is_down)
    by (inr is) = ap (λ (a : Answer). a.1) (is ∙ ap (λ (d : Doing). starve_doing d Restart seat) is_down ∙ ap (by_doing Restart seat) is_down)

pub open_begins : (seat next : Seat) (answer : Result Outcome Refusal) → ((n : ℕ) × (p : ℕ) × IsInSome n p seat) → seat.doing ≡ Stopped → Gives Restart seat answer next → IsSpelt next.doing → OpeningSoFar seat 0 next
open_begins seat next answer (n, p, stands) down gives spelt =
    let is : next ≡ record seat { doing = Opening phase.Settling } = begun seat next answer seat.doing refl down gives in
    let took = steps_in_step n p stands.few Restart seat next stands.world answer stands.in_step tt gives spelt in
    record {
      made = is;
      n = n;
      p = p;
      left = 9;
      all = omega arith;
      goes = record {
        stands = record { few = stands.few; world = after_steps stands.world took.steps; in_step = took.in_step };
        left_of_it = subst (λ (s : Seat). AreLeft 9 s.doing) (sym is) (omega arith);
      };
    }

calls_more : (k : ℕ) (s t u : Seat) → MakesCalls k s t → seat_step Device t ≡ (Ok Quiet, u) → IsSpelt u.doing → MakesCalls (suc k) s u
calls_more zero s t u same is spelt = (u, subst (λ (x : Seat). seat_step Device x ≡ (Ok Quiet, u)) same is, spelt, refl)
calls_more (suc k) s t u (next, first, fine, rest) is spelt = (next, first, fine, calls_more k next t u rest is spelt)

-- one is left of it
pub open_is_left : (seat now : Seat) (k : ℕ) → OpeningSoFar seat k now → k < 9 → (n : ℕ) × (p : ℕ) × (left : ℕ) × IsOpening n p (left + 1) now
open_is_left seat now k o below = (o.n, o.p, o.left - 1, subst (λ j. IsOpening o.n o.p j now) (let all = o.all in omega (arith, below, all)) o.goes)

-- the next call tells nothing
pub open_goes_on : (seat now next : Seat) (k : ℕ) → OpeningSoFar seat k now → k < 9
    → ((n p left : ℕ) → IsOpening n p (left + 1) now → (seat_step Device now ≡ (Ok Quiet, next)) × IsOpening n p left next) → IsSpelt next.doing → OpeningSoFar seat (k + 1) next
open_goes_on seat now next k o below made spelt =
    let left : ℕ = o.left - 1 in
    let some : o.left ≡ left + 1 = (let all = o.all in omega (arith, below, all)) in
    let goes : IsOpening o.n o.p (left + 1) now = subst (λ j. IsOpening o.n o.p j now) some o.goes in
    let on = made o.n o.p left goes in
    record {
      made = (let one : suc k ≡ k + 1 = omega arith in subst (λ j. MakesCalls j (record seat { doing = Opening phase.Settling }) next) one (calls_more k (record seat { doing = Opening phase.Settling }) now next o.made on.0 spelt));
      n = o.n;
      p = o.p;
      left = left;
      all = (let all = o.all in omega (arith, some, all));
      goes = on.1;
    }

-- a node that serves makes no device call of its own accord
idles : (m : ℕ) (after : Seat) → HasOpened after.doing → IsSpelt after.doing → MakesCalls m after after
idles zero after opened spelt = refl
idles (suc m) after opened spelt = (after, ap (by_doing Device after) opened.is, spelt, idles m after opened spelt)

-- or is the last
pub open_ends : (node : ℕ) (seat now next : Seat) (k facts decided : ℕ) (names : Bindings) (told : ReportLine) → OpeningSoFar seat k now → k < 9 → seat.doing ≡ Stopped
    → ((n p left : ℕ) → IsOpening n p (left + 1) now → (seat_step Device now ≡ (Ok (Opened facts decided names), next)) × HasOpened next.doing) → IsSpelt next.doing
    → told ≡ line.Restart node facts decided (shown names) → Opens node seat told
open_ends node seat now next k facts decided names told o below down made spelt is =
    let some = open_is_left seat now k o below in
    let end = made some.0 some.1 some.2 some.3 in
    record {
      facts = facts;
      decided = decided;
      names = names;
      tells = is;
      down = down;
      calls = k;
      more = 8 - k;
      nine = omega (arith, below);
      before = now;
      after = next;
      begins = o.made;
      ends = end.0;
      spelt = spelt;
      rests = idles (8 - k) next end.1 spelt;
    }

-- within nine calls
pub open_ends_in_time : (seat now : Seat) (k : ℕ) → OpeningSoFar seat k now → 9 ≤ k → ⊥
open_ends_in_time seat now k o past =
    let none : o.left ≡ 0 = (let all = o.all in omega (arith, past, all)) in
    some_are_left o.n o.p now (subst (λ j. IsOpening o.n o.p j now) none o.goes)
