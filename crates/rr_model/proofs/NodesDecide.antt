-- Behind a restart the nodes of a majority can decide the lowest undecided instance, and serve the client of a new command.
use Rattle.std.proofs.Common.{◌≡◌, ℕ, ◌+◌, ◌-◌, ◌*◌, ◌/◌, ◌%◌, ◌≤◌, ◌<◌, ◌⊎◌, inl, inr, Bool, true, false, find, List, [], ◌∷◌, ◌++◌, length, map, Contains, Option, None, Some, option_map, refl, ap, sym, ◌∙◌, subst, arith, append-nil}
use Rattle.std.specs.List.{list_any}
use Rattle.std.specs.Option.{option_map_or}
use Rattle.std.proofs.lemmas.Bool.{cases_lt}
use Rattle.std.proofs.lemmas.Nat.{mod-mul-add}
use Rattle.std.proofs.lemmas.Option.{none-some}
use Rattle.rr_types.specs.declared.command.Command.{Command}
use Rattle.rr_types.specs.declared.fact.Fact.{Fact}
use Rattle.rr_types.specs.declared.message.Body.TheVariants as say
use Rattle.rr_types.specs.declared.message.Message.{Message}
use Rattle.rr_types.specs.declared.promise.Standing.{Standing}
use Rattle.rr_types.specs.declared.promise.Standing.TheVariants.{Decided, Open}
use Rattle.rr_types.specs.Facts.{standing_of}
use Rattle.rr_types.specs.Promises.{AscendsFrom, standing_in, promise_of, all_fit, decided_from}
use Rattle.rr_types.specs.Registry.{has_request}
use Rattle.rr_types.specs.Rounds.{Estimated, OpenAt, coordinator_of, majority_of}
use Rattle.rr_types.specs.Standings.{is_undecided}
use Rattle.rr_model.specs.Lawful.{count_below}
use Rattle.rr_model.specs.World.{nothing_heard}
use Rattle.rr_model.specs.NodeState.{NodeState, Row, next_number, no_votes, row_of, standing_at, decided_prefix}
use Rattle.rr_model.specs.NodeParts.{backing_at}
use Rattle.rr_model.specs.NodeStep.{promised_row, restored, next_acknowledged}
use Rattle.rr_model.specs.NodeReached.{IsReached, Opened, opened_over}
use Rattle.rr_model.specs.NodesGoOn.{Cluster, restarted, IsFreeAt, IsReadyFor, NodesCanGoOn, StandsIn, RoundsCanEnd, CanDecideNext}
use Rattle.rr_model.proofs.NodeBacks.{IsBackedOpen}
use Rattle.rr_model.proofs.NodeBits.{parts}
use Rattle.rr_model.proofs.NodeKnows.{Knows, in_flight, backs, stood_backed}
use Rattle.rr_model.proofs.NodePrefixes.{ascends_all}
use Rattle.rr_model.proofs.NodeReached.{reached_knows}
use Rattle.rr_model.proofs.NodeRounds.{reached_round_above}
use Rattle.rr_model.proofs.NodeRows.{stands, stands-promised}
use Rattle.rr_model.proofs.NodeSteady.{started_stays}
use Rattle.rr_model.proofs.Plans.{some_member}
use Rattle.rr_model.proofs.Promised.{standing_in-promise_of}
use Rattle.rr_model.proofs.Reaches.{In}
use Rattle.rr_model.proofs.NodeFirsts.{row_for, First, first_row, decided_among}
use Rattle.rr_model.proofs.NodeMoves.{if_true, Owes, Sits, standing_first, from_to, estimated}
use Rattle.rr_model.proofs.NodeBeyond.{at_first, restless}
use Rattle.rr_model.proofs.NodeCounts.{AllVotes, votes_stay, best_ok}
use Rattle.rr_model.proofs.NodeAlone.{IsUp, Comes, no_event, and_then}
use Rattle.rr_model.proofs.NodePhases.{InRound, Ended, enters_round}
use Rattle.rr_model.proofs.NodesLearn.{Knowing}
use Rattle.rr_model.proofs.NodeRestates.{SameRows, started_same, Parted, parted, Leading, leading, lie_beyond, decides_request, unheld, holds, opened_owes, promised_backing}
use Rattle.rr_model.proofs.NodeBegins.{OpenAndWaiting, submits_open, submits_owing, IsBlank, submits_blank}
use Rattle.rr_model.proofs.NodesTogether.{AreUp, Leads, from_before}

-- a vote of any node for such a command
abbrev pub Plain : (Command → Type 0) → ℕ → Estimated → Type 0
Plain Ok q e = Ok e.command

-- a round above the bound, and at most n above it, that node k coordinates
abbrev pub RoundFor : ℕ → ℕ → ℕ → Type 0
RoundFor n bound k = (r : ℕ) × (bound < r) × (r ≤ bound + n) × (coordinator_of r n ≡ k)

times_more : (a n : ℕ) → (a + 1) * n ≡ a * n + n
times_more a n = grind arith

pub round_for : (n bound k : ℕ) → k < n → RoundFor n bound k
round_for n bound k l =
    let whole : (bound / n) * n + bound % n ≡ bound = parts bound n (omega arith) in
    let small : bound % n < n = omega arith in
    let more : (bound / n + 1) * n ≡ (bound / n) * n + n = times_more (bound / n) n in
    elim (cases_lt (bound % n) k) [
      | inl m ↦ ((bound / n) * n + k, omega arith, omega arith, mod-mul-add (bound / n) n k l)
      | inr m ↦ ((bound / n + 1) * n + k, omega arith, omega arith, mod-mul-add (bound / n + 1) n k l)
    ]

-- a node that has marked all knows of each instance what its promise says
pub record AllKnown (n p : ℕ) (s : NodeState) : Type 0 where
  pub ascends : AscendsFrom 0 s.marked
  pub says : (j : ℕ) → standing_in s.marked j ≡ standing_at s j

pub all_known : (n p : ℕ) (s : NodeState) → IsUp n p s → s.running ≡ None → s.staged ≡ [] → AllKnown n p s
all_known n p s U a b =
    let facts : List Fact = U.0 in
    let K : Knows (Unit {0}) n p facts U.1 s = reached_knows n p facts U.1 s U.2 in
    let whole : facts ≡ K.kept = K.whole ∙ ap (λ z. K.kept ++ (in_flight z ++ s.staged)) a ∙ ap (λ z. K.kept ++ z) b ∙ append-nil K.kept in
    record {
      ascends = subst (AscendsFrom 0) (sym K.promise) (ascends_all [] K.kept tt);
      says = λ j. ap (λ z. standing_in z j) K.promise ∙ standing_in-promise_of K.kept j ∙ ap (standing_of j) (sym whole) ∙ sym (K.standings j);
    }

some_facts : (i : ℕ) (facts : List Fact) (st : Standing) → standing_of i facts ≡ Some st → 0 < length facts
some_facts i [] st e = absurd (none-some st e)
some_facts i (f ∷ fs) st e = omega arith

-- what a restarted node is
module _ (n q : ℕ) (facts : List Fact) where
  same_opened : SameRows (restored n q (promise_of facts) (length facts)) (opened_over n q facts)
  same_opened = started_same n q (promise_of facts) (length facts)

  opened_parted : (i : ℕ) → ((j : ℕ) → j < i → is_undecided (standing_of j facts) ≡ false) → Parted (length facts) 0 i (promise_of facts)
  opened_parted i d = parted (length facts) 0 i (promise_of facts) (ascends_all [] facts tt) (omega arith) (λ j l m. ap is_undecided (standing_in-promise_of facts j) ∙ d j m)

  pub opened_at : (i : ℕ) (st : Standing) → ((j : ℕ) → j < i → is_undecided (standing_of j facts) ≡ false) → standing_of i facts ≡ Some st → Sits i q n st no_votes (opened_over n q facts)
  opened_at i st d e =
      let P : Parted (length facts) 0 i (promise_of facts) = opened_parted i d in
      let L : Leading i st P.later = leading i st P.later P.ascends (P.same ∙ standing_in-promise_of facts i ∙ e) in
      let row : promised_row (length facts) L.entry ≡ row_for i st (promised_row (length facts) L.entry).backing no_votes =
      ap (λ z. row_for z L.entry.standing (promised_row (length facts) L.entry).backing no_votes) L.instance ∙ ap (λ z. row_for i z (promised_row (length facts) L.entry).backing no_votes) L.standing in
      record {
        row = record {
          before = P.before;
          after = map (promised_row (length facts)) L.rest;
          backing = (promised_row (length facts) L.entry).backing;
          below = P.below;
          is = same_opened.0 ∙ P.is ∙ ap (λ z. P.before ++ map (promised_row (length facts)) z) L.is ∙ ap (λ z. P.before ++ z ∷ map (promised_row (length facts)) L.rest) row;
        };
        nodes = same_opened.2.nodes;
        node = same_opened.2.node;
        trusts = same_opened.2.suspects;
      }

  -- where it has decided the instance, it knows which fact backs that
  pub opened_knowing : (i : ℕ) (v : Command) → ((j : ℕ) → j < i → is_undecided (standing_of j facts) ≡ false) → standing_of i facts ≡ Some (Decided v) → Knowing i q n v (opened_over n q facts)
  opened_knowing i v d e =
      let s : NodeState = opened_over n q facts in
      let S : Sits i q n (Decided v) no_votes s = opened_at i (Decided v) d e in
      let row : row_of s.rows i ≡ Some (row_for i (Decided v) S.row.backing no_votes) = first_row i (Decided v) no_votes s.rows S.row in
      let back : backing_at (λ b. b.decided) s i ≡ length facts - 1 =
      ap (λ z. option_map_or (λ (r : Row). r.backing.decided) z 0) row ∙ (promised_backing (length facts) i (promise_of facts) _ (ap (λ z. row_of z i) (sym same_opened.0) ∙ row)).1 in
      let some : 0 < length facts = some_facts i facts (Decided v) e in
      let more : length facts + 0 + 0 ≤ next_number s = same_opened.2.number in
      record { t = no_votes; sits = S; backed = omega arith }

  row_none : (o : Option Row) → stands o ≡ None → o ≡ None
  row_none None e = refl
  row_none (Some r) e = absurd (none-some _ (sym e))

  pub opened_blank : (i : ℕ) (c : Command) → ((j : ℕ) → j < i → is_undecided (standing_of j facts) ≡ false) → standing_of i facts ≡ None → IsFreeAt n q i c facts → IsBlank i q n c (opened_over n q facts)
  opened_blank i c d e free =
      let P : Parted (length facts) 0 i (promise_of facts) = opened_parted i d in
      let none : standing_in (promise_of facts) i ≡ None = standing_in-promise_of facts i ∙ e in
      record {
        before = P.before;
        rest = map (promised_row (length facts)) P.later;
        below = P.below;
        beyond = lie_beyond (length facts) i P.later P.ascends (P.same ∙ none);
        is = same_opened.0 ∙ P.is;
        nodes = same_opened.2.nodes;
        node = same_opened.2.node;
        trusts = same_opened.2.suspects;
        waiting = same_opened.2.waiting;
        pool = same_opened.1;
        none = ap (λ z. row_of z i) same_opened.0 ∙ row_none (row_of (map (promised_row (length facts)) (promise_of facts)) i) (stands-promised (length facts) (promise_of facts) i ∙ none);
        unheld = ap (λ z. has_request (decided_from 0 z) c.request) (started_stays n q (promise_of facts) (length facts)).marked ∙ unheld (length facts) 0 c.request (promise_of facts) (ap (list_any (decides_request c.request)) (sym same_opened.0) ∙ free.0);
        undecided = free.0;
        free = free.1;
      }

  -- it was reached, so its open instances have a round, which their stamp isn't above
  pub opened_round : (i : ℕ) (o : OpenAt) → IsReached n q facts nothing_heard (opened_over n q facts) → standing_at (opened_over n q facts) i ≡ Some (Open o) → (o.stamp ≤ o.round) × (0 < o.round)
  opened_round i o R e =
      let s : NodeState = opened_over n q facts in
      let B : IsBackedOpen facts i (backs s i) o = stood_backed (Unit {0}) n q facts nothing_heard s (reached_knows n q facts nothing_heard s R) tt i (Open o) e in
      (B.below, reached_round_above n q facts nothing_heard s R i o e)

-- a node that is ready enters a round above the bound
pub ready_enters : (n i k r : ℕ) (c : Command) (Ok : Command → Type 0) (small : i < 1048576) (positive : 0 < r) (coordinates : coordinator_of r n ≡ k) → r ≤ 2147483647 → (q bound : ℕ) (facts : List Fact) → bound < r → 1 ≤ bound → IsReadyFor n bound i c q facts → ((o : OpenAt) → standing_of i facts ≡ Some (Open o) → Ok o.estimate) → (standing_of i facts ≡ None → Ok c) → (w : List Message) → Comes i r restless n q c (opened_over n q facts) w (InRound n i k r c (c.request ∷ []) restless (Plain Ok) Ok small positive coordinates q)
ready_enters n i k r c Ok small positive coordinates within q bound facts above one R old new w = by R.here
  where
    goes_from : (o : OpenAt) → o.stamp ≤ o.round → 0 < o.round → o.round ≤ bound → Ok o.estimate → Comes i r restless n q c (opened_over n q facts) w (λ t v. OpenAndWaiting i q n c o t) → Comes i r restless n q c (opened_over n q facts) w (InRound n i k r c (c.request ∷ []) restless (Plain Ok) Ok small positive coordinates q)
    goes_from o a b l ok C =
        and_then i r restless n q c (opened_over n q facts) w (λ t v. OpenAndWaiting i q n c o t) (InRound n i k r c (c.request ∷ []) restless (Plain Ok) Ok small positive coordinates q) C (λ u x z A.
        enters_round n i k r c (c.request ∷ []) restless (Plain Ok) Ok small positive coordinates q (r - o.round - 1) o no_votes u x A.sits a b (omega arith) within ok A.waiting)

    by : ((o : OpenAt) × (standing_of i facts ≡ Some (Open o)) × (o.round ≤ bound)) ⊎ ((standing_of i facts ≡ None) × IsFreeAt n q i c facts) → Comes i r restless n q c (opened_over n q facts) w (InRound n i k r c (c.request ∷ []) restless (Plain Ok) Ok small positive coordinates q)
    by (inl (o, e, m)) =
        let S : Sits i q n (Open o) no_votes (opened_over n q facts) = opened_at n q facts i (Open o) R.below e in
        let x : (o.stamp ≤ o.round) × (0 < o.round) = opened_round n q facts i o (Opened facts R.fit) (standing_first i (Open o) no_votes (opened_over n q facts) S.row) in
        goes_from o x.0 x.1 m (old o e) (submits_open i r q n c o (opened_over n q facts) w small S (same_opened n q facts).2.waiting)
    by (inr (e, free)) = goes_from (at_first c) (omega arith) (omega arith) one (new e) (submits_blank i r q n c (opened_over n q facts) w small (opened_blank n q facts i c R.below e free))

-- the nodes of a majority over facts that fit
module _ (n : ℕ) (set : ℕ → Bool) (facts : ℕ → List Fact) (c : Command) (i : ℕ) (enough : majority_of n ≤ count_below set n) (small : i < 1048576) (fit : (q : ℕ) → q < n → set q ≡ true → all_fit n q [] (facts q) ≡ true) where
  -- no node of them has a fact of the instance
  abbrev AreNew : Type 0
  AreNew = (q : ℕ) → q < n → set q ≡ true → standing_of i (facts q) ≡ None

  -- what may be decided: where none has a fact of it, the client's command
  abbrev Fits : Command → Type 0
  Fits v = AreNew → v ≡ c

  -- a round that one of them coordinates
  module _ (k r : ℕ) (exists : k < n) (member : set k ≡ true) (positive : 0 < r) (within : r ≤ 2147483647) (coordinates : coordinator_of r n ≡ k) where
    abbrev Enters : ℕ → NodeState → List Message → Type 0
    Enters q s w = InRound n i k r c (c.request ∷ []) restless (Plain Fits) Fits small positive coordinates q s w

    -- a node that stands in it is there
    stands_there : (q : ℕ) → q < n → set q ≡ true → StandsIn n r i q (facts q) → (w : List Message) → Comes i r restless n q c (opened_over n q (facts q)) w (Enters q)
    stands_there q l y R w =
        let s : NodeState = opened_over n q (facts q) in
        let o : OpenAt = R.present in
        let S : Sits i q n (Open o) no_votes s = opened_at n q (facts q) i (Open o) R.below R.here in
        let F : First i (Open o) no_votes (restored n q (promise_of (facts q)) (length (facts q))).rows = subst (First i (Open o) no_votes) (same_opened n q (facts q)).0 S.row in
        let O : Owes s (from_to q (coordinator_of o.round n) (say.Estimate i (estimated o.round o))) = opened_owes n q i (length (facts q)) (promise_of (facts q)) o F small (some_facts i (facts q) (Open o) R.here) (subst (λ z. o.stamp < z) (sym R.round) R.stamp) R.none in
        and_then i r restless n q c s w (λ t v. OpenAndWaiting i q n c o t × Contains v (from_to q (coordinator_of o.round n) (say.Estimate i (estimated o.round o)))) (Enters q) (submits_owing i r q n c o s w _ small S (same_opened n q (facts q)).2.waiting O) (λ u x a A.
        no_event i r restless n q c u x (Enters q) (record {
          o = o;
          sits = A.0.sits;
          round = R.round;
          stamp = R.stamp;
          none = R.none;
          ok = λ new. absurd (none-some (Open o) (sym (new q l y) ∙ R.here));
          said = subst (λ z. Contains x (from_to q z (say.Estimate i (estimated r o)))) coordinates (subst (λ z. Contains x (from_to q (coordinator_of z n) (say.Estimate i (estimated z o)))) R.round A.1);
          waits = A.0.waiting;
        }))

    are_up : AreUp n set (restarted n facts)
    are_up q l y = (facts q, nothing_heard, Opened (facts q) (fit q l y))

    -- a node that has decided the client's command acknowledges its request next
    is_answered : (v : Command) (q : ℕ) (s : NodeState) → IsUp n q s → Ended n i k r c (c.request ∷ []) restless (Plain Fits) Fits small positive coordinates v q s → v ≡ c → next_acknowledged s ≡ Some c.request
    is_answered v q s U E same =
        let K : AllKnown n q s = all_known n q s U E.running E.staged in
        let F : First i (Decided v) E.t s.rows = E.sits.row in
        let below : (j : ℕ) → 0 ≤ j → j < i → is_undecided (standing_in s.marked j) ≡ false =
        λ j z m. ap is_undecided (K.says j) ∙ ap (λ x. is_undecided (option_map (λ (x2 : Row). x2.standing) (row_of x j))) F.is ∙ decided_among 0 i F.before (row_for i (Decided v) F.backing E.t ∷ F.after) F.below j z m in
        let here : standing_in s.marked i ≡ Some (Decided c) = K.says i ∙ standing_first i (Decided v) E.t s F ∙ ap (λ z. Some (Decided z)) same in
        ap (find (λ z. has_request (decided_prefix s) z)) E.waits ∙ if_true (has_request (decided_prefix s) c.request) (Some c.request) None (holds 0 i c s.marked K.ascends (omega arith) below here)

    -- where each can enter the round, they can decide in it
    leads_in : ((q : ℕ) → q < n → set q ≡ true → (w : List Message) → Comes i r restless n q c (opened_over n q (facts q)) w (Enters q)) → Leads i r restless n set c (restarted n facts) (λ h. (v : Command) × Fits v × ((q : ℕ) → q < n → set q ≡ true → Ended n i k r c (c.request ∷ []) restless (Plain Fits) Fits small positive coordinates v q (h.state q)))
    leads_in enters = from_before n i k r c (c.request ∷ []) restless (Plain Fits) Fits small positive coordinates set enough exists member (λ x. x) (λ m es. AllVotes Fits es) tt (λ m e es y. votes_stay Fits (record { sender = m; stamp = e.stamp; command = e.command }) es) (λ m es y a. a) (λ m es b a. best_ok Fits es a b) (restarted n facts) are_up enters

    decides_in : ((q : ℕ) → q < n → set q ≡ true → (w : List Message) → Comes i r restless n q c (opened_over n q (facts q)) w (Enters q)) → CanDecideNext n set facts c i
    decides_in enters =
        let L : Leads i r restless n set c (restarted n facts) (λ h. (v : Command) × Fits v × ((q : ℕ) → q < n → set q ≡ true → Ended n i k r c (c.request ∷ []) restless (Plain Fits) Fits small positive coordinates v q (h.state q))) = leads_in enters in
        let v : Command = L.goal.0 in
        record {
          end = L.end;
          goes_on = L.goes;
          command = v;
          is_decided = λ q l y. let E : Ended n i k r c (c.request ∷ []) restless (Plain Fits) Fits small positive coordinates v q (L.end.state q) = L.goal.2 q l y in (all_known n q (L.end.state q) (L.up q l y) E.running E.staged).says i ∙ standing_first i (Decided v) E.t (L.end.state q) E.sits.row;
          is_new = L.goal.1;
          is_due = λ same q l y. is_answered v q (L.end.state q) (L.up q l y) (L.goal.2 q l y) same;
        }

-- the node has decided instance i so, and marked all that it staged
pub record HasDecided (i : ℕ) (v : Command) (s : NodeState) : Type 0 where
  pub running : s.running ≡ None
  pub staged : s.staged ≡ []
  pub stands : standing_at s i ≡ Some (Decided v)

-- each node of the set has
abbrev pub AllDecided : ℕ → ℕ → (ℕ → Bool) → Cluster → Type 0
AllDecided i n set h = (v : Command) × ((q : ℕ) → q < n → set q ≡ true → HasDecided i v (h.state q))

-- where each is ready, they can decide
pub ready_leads : (n : ℕ) (set : ℕ → Bool) (facts : ℕ → List Fact) (c : Command) (i bound : ℕ) → majority_of n ≤ count_below set n → i < 1048576 → 1 ≤ bound → bound + n ≤ 2147483647 → ((q : ℕ) → q < n → set q ≡ true → IsReadyFor n bound i c q (facts q)) → (r : ℕ) × Leads i r restless n set c (restarted n facts) (AllDecided i n set)
ready_leads n set facts c i bound enough small one most ready =
    let k : (q : ℕ) × In n set q = some_member n set enough in
    let r : RoundFor n bound k.0 = round_for n bound k.0 k.1.0 in
    let above : bound < r.0 = r.1 in
    let within : r.0 ≤ bound + n = r.2 in
    (r.0, decided_in k.0 r.0 k.1.0 k.1.1 above (omega arith) (omega arith) r.3)
  where
    decided_in : (k r : ℕ) → k < n → set k ≡ true → bound < r → 0 < r → r ≤ 2147483647 → coordinator_of r n ≡ k → Leads i r restless n set c (restarted n facts) (AllDecided i n set)
    decided_in k r exists member above positive within coordinates =
        let L : Leads i r restless n set c (restarted n facts) (λ h. (v : Command) × (((j : ℕ) → j < n → set j ≡ true → standing_of i (facts j) ≡ None) → v ≡ c) × ((q : ℕ) → q < n → set q ≡ true → Ended n i k r c (c.request ∷ []) restless (Plain (λ v2. ((j : ℕ) → j < n → set j ≡ true → standing_of i (facts j) ≡ None) → v2 ≡ c)) (λ v2. ((j : ℕ) → j < n → set j ≡ true → standing_of i (facts j) ≡ None) → v2 ≡ c) small positive coordinates v q (h.state q))) =
        leads_in n set facts c i enough small (λ q l y. (ready q l y).fit) k r exists member positive within coordinates
        (λ q l y w. ready_enters n i k r c (λ v. ((j : ℕ) → j < n → set j ≡ true → standing_of i (facts j) ≡ None) → v ≡ c) small positive coordinates within q bound (facts q) above one (ready q l y) (λ o e new. absurd (none-some (Open o) (sym (new q l y) ∙ e))) (λ e new. refl) w) in
        record {
          end = L.end;
          goes = L.goes;
          up = L.up;
          keeps = L.keeps;
          goal = (L.goal.0, λ q l y. let E : Ended n i k r c (c.request ∷ []) restless (Plain (λ v. ((j : ℕ) → j < n → set j ≡ true → standing_of i (facts j) ≡ None) → v ≡ c)) (λ v. ((j : ℕ) → j < n → set j ≡ true → standing_of i (facts j) ≡ None) → v ≡ c) small positive coordinates L.goal.0 q (L.end.state q) = L.goal.2 q l y in record { running = E.running; staged = E.staged; stands = standing_first i (Decided L.goal.0) E.t (L.end.state q) E.sits.row });
        }

-- in such a round, where each is ready
ready_decide : (n : ℕ) (set : ℕ → Bool) (facts : ℕ → List Fact) (c : Command) (i bound : ℕ) → majority_of n ≤ count_below set n → i < 1048576 → 1 ≤ bound → ((q : ℕ) → q < n → set q ≡ true → IsReadyFor n bound i c q (facts q)) → (k r : ℕ) → k < n → set k ≡ true → bound < r → 0 < r → r ≤ 2147483647 → coordinator_of r n ≡ k → CanDecideNext n set facts c i
ready_decide n set facts c i bound enough small one ready k r exists member above positive within coordinates =
    decides_in n set facts c i enough small (λ q l y. (ready q l y).fit) k r exists member positive within coordinates
    (λ q l y w. ready_enters n i k r c (λ v. ((j : ℕ) → j < n → set j ≡ true → standing_of i (facts j) ≡ None) → v ≡ c) small positive coordinates within q bound (facts q) above one (ready q l y) (λ o e new. absurd (none-some (Open o) (sym (new q l y) ∙ e))) (λ e new. refl) w)

-- the nodes of a majority can decide their lowest undecided instance, and answer the client
pub decide_next : NodesCanGoOn
decide_next n set facts c i bound enough small one most ready =
    let k : (q : ℕ) × In n set q = some_member n set enough in
    let r : RoundFor n bound k.0 = round_for n bound k.0 k.1.0 in
    let above : bound < r.0 = r.1 in
    let within : r.0 ≤ bound + n = r.2 in
    ready_decide n set facts c i bound enough small one ready k.0 r.0 k.1.0 k.1.1 above (omega arith) (omega arith) r.3

below_n : (r n : ℕ) → 0 < n → r % n < n
below_n r n l = omega arith

-- and where they stand in one round that one of them coordinates, they can decide in it
pub end_round : RoundsCanEnd
end_round n set facts c i r enough small within member stands =
    let q : (q : ℕ) × In n set q = some_member n set enough in
    let R : StandsIn n r i q.0 (facts q.0) = stands q.0 q.1.0 q.1.1 in
    let positive : 0 < r = (let x : R.present.stamp < r = R.stamp in omega arith) in
    let exists : coordinator_of r n < n = below_n r n (let x : q.0 < n = q.1.0 in omega arith) in
    decides_in n set facts c i enough small (λ q2 l y. (stands q2 l y).fit) (coordinator_of r n) r exists member positive within refl
    (λ q2 l y w. stands_there n set facts c i enough small (λ q3 l3 y3. (stands q3 l3 y3).fit) (coordinator_of r n) r exists member positive within refl q2 l y (stands q2 l y) w)
