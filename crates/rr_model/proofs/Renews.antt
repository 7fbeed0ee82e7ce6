-- A disk is made anew of decisions: in the world it is as if the node had kept its facts and staged what is news to it, and
-- as if it had said each of these decisions to itself.
use Rattle.std.proofs.Common.{◌≡◌, ℕ, ◌+◌, ◌≤◌, ◌<◌, inl, inr, zero, suc, Bool, true, false, ◌==◌, if◌then◌else◌, List, [], ◌∷◌, ◌++◌, length, slice_get, filter, Contains, Option, None, Some, refl, ap, sym, ◌∙◌, subst, arith, append-nil, append_assoc, eqb-true}
use Rattle.std.specs.Option.{option_map_or}
use Rattle.std.proofs.lemmas.Bool.{ne_eqb, eqb-false, and_from}
use Rattle.std.proofs.lemmas.List.Elements.{All-contains_itself, All-filter, All-contains, Contains-append_cases, Contains-append_left, Contains-append_right}
use Rattle.std.proofs.lemmas.Option.{none-some, same_Some}
use Rattle.rr_types.specs.declared.command.Command.{Command}
use Rattle.rr_types.specs.declared.fact.Fact.{Fact}
use Rattle.rr_types.specs.declared.fact.Fact.TheVariants.{Decide}
use Rattle.rr_types.specs.declared.message.Body.TheVariants.{Decision}
use Rattle.rr_types.specs.declared.message.Message.{Message}
use Rattle.rr_types.specs.declared.promise.Entry.{Entry}
use Rattle.rr_types.specs.declared.promise.Standing.TheVariants.{Decided}
use Rattle.rr_types.specs.Facts.{instance_of, standing_of, decision_of}
use Rattle.rr_types.specs.Promises.{standing_in, take_on, all_fit}
use Rattle.rr_types.specs.Standings.{is_undecided}
use Rattle.rr_model.specs.Deeds.{Lives, unmarked_of}
use Rattle.rr_model.specs.Lawful.{Heard, Says, IsBacked}
use Rattle.rr_model.specs.LostDisks.{decisions_from, decisions_of, news_of, StandAlike, all_facts}
use Rattle.rr_model.specs.NodeInWorld.{IsDownIn, LeavesAlone}
use Rattle.rr_model.specs.NodeState.{NodeState}
use Rattle.rr_model.specs.RenewedDisks.{Renewed, renewed, after_turn, MayTurn}
use Rattle.rr_model.specs.Sound.{IsChosen, IsChosenList}
use Rattle.rr_model.specs.World.{World, with_at, decided_prefix}
use Rattle.rr_model.proofs.DeedsInWorld.{IsLifeIn, SaysDecision, IsAlike, down_is, life_alone}
use Rattle.rr_model.proofs.Growth.{Within, history_grows, history_push, chosen_grows, at_each, at_each_two}
use Rattle.rr_model.proofs.Histories.{History, standing_push}
use Rattle.rr_model.proofs.Invariants.{Invariant, all_said, grounded}
use Rattle.rr_model.proofs.Locking.{one_chosen}
use Rattle.rr_model.proofs.NodeFollows.{at_same}
use Rattle.rr_model.proofs.Outweighed.{decision_there, nothing_from, news_outweigh}
use Rattle.rr_model.proofs.Permitted.{command_in}
use Rattle.rr_model.proofs.Prefixes.{Begins, begins_itself, prefix_grows, decided_by}
use Rattle.rr_model.proofs.Promised.{standing_in-take_on}
use Rattle.rr_model.proofs.Shifted.{IsShifted, shifted_on, shifted_standings, backed_within}
use Rattle.rr_model.proofs.Truths.{truthful_grows}

-- ---- the decisions of a list

later_in : {A : Type 0} (y : A) (xs : List A) (x : A) → Contains xs x → Contains (y ∷ xs) x
later_in y xs x c = (suc c.0, (let l : c.0 < length xs = c.1 in omega arith), c.2)

-- a decision of a list, and the place of its command
record IsDecision (i : ℕ) (list : List Command) (f : Fact) : Type 0 where
  place : ℕ
  command : Command
  at : slice_get list place ≡ Some command
  is : f ≡ Decide (i + place) command

a_decision : (i : ℕ) (list : List Command) (f : Fact) → Contains (decisions_from i list) f → IsDecision i list f
a_decision i [] f c = absurd (let l : c.0 < 0 = c.1 in omega arith)
a_decision i (v ∷ list) f (zero, l, e) = record { place = 0; command = v; at = refl; is = sym e ∙ ap (λ z. Decide z v) (let z : i ≡ i + 0 = omega arith in z) }
a_decision i (v ∷ list) f (suc k, l, e) =
    let r : IsDecision (i + 1) list f = a_decision (i + 1) list f (k, (omega arith), e) in
    record { place = suc r.place; command = r.command; at = r.at; is = r.is ∙ ap (λ z. Decide z r.command) (let z : (i + 1) + r.place ≡ i + suc r.place = omega arith in z) }

-- each place of a list has its decision
decision_in : (i k : ℕ) (list : List Command) (v : Command) → slice_get list k ≡ Some v → Contains (decisions_from i list) (Decide (i + k) v)
decision_in i k [] v e = absurd (none-some v e)
decision_in i zero (w ∷ list) v e = (0, omega arith, ap (λ z. Decide i z) (same_Some w v e) ∙ ap (λ z. Decide z v) (let z : i ≡ i + 0 = omega arith in z))
decision_in i (suc k) (w ∷ list) v e = later_in (Decide i w) (decisions_from (i + 1) list) (Decide (i + suc k) v)
    (subst (λ z. Contains (decisions_from (i + 1) list) (Decide z v)) (let z : (i + 1) + k ≡ i + suc k = omega arith in z) (decision_in (i + 1) k list v e))

-- the decisions of a list fit behind entries that say nothing from there on
decisions_fit : (n p i : ℕ) (list : List Command) (es : List Entry) → ((j : ℕ) → i ≤ j → standing_in es j ≡ None) → all_fit n p es (decisions_from i list) ≡ true
decisions_fit n p i [] es none = refl
decisions_fit n p i (v ∷ list) es none = and_from _ _ (ap is_undecided (none i (omega arith)))
    (decisions_fit n p (i + 1) list (take_on es (Decide i v)) (λ j l. standing_in-take_on es (Decide i v) j ∙ ap (λ (b : Bool). if b then Some (Decided v) else standing_in es j) (ne_eqb i j (λ e. omega arith)) ∙ none j (omega arith)))

-- ---- news

-- news are decisions of the list
of_news : (facts : List Fact) (list : List Command) (f : Fact) → Contains (news_of facts list) f → Contains (decisions_of list) f
of_news facts list f c = All-contains (Contains (decisions_of list)) (news_of facts list) f (All-filter (λ g. is_undecided (standing_of (instance_of g) facts)) (Contains (decisions_of list)) (decisions_of list) (All-contains_itself (decisions_of list))) c

-- what passes a test stays
stays_in : (test : Fact → Bool) (facts : List Fact) (f : Fact) → test f ≡ true → Contains facts f → Contains (filter test facts) f
stays_in test [] f e c = c
stays_in test (g ∷ facts) f e (zero, l, x) = subst (λ (b : Bool). Contains (if b then g ∷ filter test facts else filter test facts) f) (sym (ap test x ∙ e)) (0, omega arith, x)
stays_in test (g ∷ facts) f e (suc k, l, x) = by (stays_in test facts f e (k, (omega arith), x)) (test g)
  where
    by : Contains (filter test facts) f → (b : Bool) → Contains (if b then g ∷ filter test facts else filter test facts) f
    by c true = later_in g (filter test facts) f c
    by c false = c

-- news of a list are a history behind the facts, where each decision was said
history_news : (n p : ℕ) (h : Heard) (facts : List Fact) (i : ℕ) (list : List Command) (before : List Fact) → History n p h before
    → ((j : ℕ) → i ≤ j → standing_of j before ≡ standing_of j facts) → ((j : ℕ) (v : Command) → Contains (decisions_from i list) (Decide j v) → Says h.messages p (Decision j v))
    → History n p h (before ++ filter (λ f. is_undecided (standing_of (instance_of f) facts)) (decisions_from i list))
history_news n p h facts i [] before H same said = subst (History n p h) (sym (append-nil before)) H
history_news n p h facts i (v ∷ list) before H same said = by (λ b G s. history_news n p h facts (i + 1) list b G s (λ j w c. said j w (later_in (Decide i v) (decisions_from (i + 1) list) (Decide j w) c))) (is_undecided (standing_of i facts)) refl
  where
    rest : List Fact
    rest = filter (λ f. is_undecided (standing_of (instance_of f) facts)) (decisions_from (i + 1) list)

    by : ((b : List Fact) → History n p h b → ((j : ℕ) → i + 1 ≤ j → standing_of j b ≡ standing_of j facts) → History n p h (b ++ filter (λ f. is_undecided (standing_of (instance_of f) facts)) (decisions_from (i + 1) list)))
        → (t : Bool) → is_undecided (standing_of i facts) ≡ t → History n p h (before ++ (if t then Decide i v ∷ rest else rest))
    by ih true e = subst (History n p h) (append_assoc before (Decide i v ∷ []) rest)
        (ih (before ++ Decide i v ∷ []) (history_push n p h before (Decide i v) H (ap is_undecided (same i (omega arith)) ∙ e, inl (p, said i v (0, omega arith, refl))))
        (λ j l. standing_push j before (Decide i v) ∙ ap (λ (b : Bool). if b then Some (Decided v) else standing_of j before) (ne_eqb i j (λ x. omega arith)) ∙ same j (omega arith)))
    by ih false e = ih before H (λ j l. same j (omega arith))

-- ---- the world

-- node p says to itself what a list decides from instance i on
abbrev said_from : ℕ → ℕ → List Command → List Message
said_from p i [] = []
said_from p i (v ∷ list) = record { from = p; to = p; body = Decision i v } ∷ said_from p (i + 1) list

record IsSaying (p i : ℕ) (list : List Command) (m : Message) : Type 0 where
  place : ℕ
  command : Command
  at : slice_get list place ≡ Some command
  is : m ≡ record { from = p; to = p; body = Decision (i + place) command }

a_saying : (p i : ℕ) (list : List Command) (m : Message) → Contains (said_from p i list) m → IsSaying p i list m
a_saying p i [] m c = absurd (let l : c.0 < 0 = c.1 in omega arith)
a_saying p i (v ∷ list) m (zero, l, e) = record { place = 0; command = v; at = refl; is = sym e ∙ ap (λ z. record { from = p; to = p; body = Decision z v }) (let z : i ≡ i + 0 = omega arith in z) }
a_saying p i (v ∷ list) m (suc k, l, e) =
    let r : IsSaying p (i + 1) list m = a_saying p (i + 1) list m (k, (omega arith), e) in
    record { place = suc r.place; command = r.command; at = r.at; is = r.is ∙ ap (λ z. record { from = p; to = p; body = Decision z r.command }) (let z : (i + 1) + r.place ≡ i + suc r.place = omega arith in z) }

saying_in : (p i k : ℕ) (list : List Command) (v : Command) → slice_get list k ≡ Some v → Contains (said_from p i list) (record { from = p; to = p; body = Decision (i + k) v })
saying_in p i k [] v e = absurd (none-some v e)
saying_in p i zero (w ∷ list) v e = (0, omega arith, ap (λ z. record { from = p; to = p; body = Decision i z }) (same_Some w v e) ∙ ap (λ z. record { from = p; to = p; body = Decision z v }) (let z : i ≡ i + 0 = omega arith in z))
saying_in p i (suc k) (w ∷ list) v e = later_in (record { from = p; to = p; body = Decision i w }) (said_from p (i + 1) list) (record { from = p; to = p; body = Decision (i + suc k) v })
    (subst (λ z. Contains (said_from p (i + 1) list) (record { from = p; to = p; body = Decision z v })) (let z : (i + 1) + k ≡ i + suc k = omega arith in z) (saying_in p (i + 1) k list v e))

-- what node p keeps then
abbrev pub renewed_facts : ℕ → List Command → World → List Fact
renewed_facts p list w = (w.kept p ++ w.staged p) ++ news_of (w.kept p ++ w.staged p) list

-- the world once the disk is made anew
abbrev pub renewed_world : ℕ → List Command → World → World
renewed_world p list w = record w { wire = w.wire ++ said_from p 0 list; kept = with_at w.kept p (renewed_facts p list w); staged = with_at w.staged p [] }

module _ (n p : ℕ) (list : List Command) (w : World) (I : Invariant n w) (chosen : IsChosenList n w.wire list) (none : (j : ℕ) → length list ≤ j → standing_of j (w.kept p ++ w.staged p) ≡ None) where
  -- what the node has decided is what the list has
  agree : (j : ℕ) (a b : Command) → decision_of (standing_of j (w.kept p ++ w.staged p)) ≡ Some a → slice_get list j ≡ Some b → a ≡ b
  agree j a b d e = elim (decided_by None j a (w.kept p ++ w.staged p) d) [
    | inl x ↦ absurd (none-some a x)
    | inr c ↦ one_chosen n (all_said w) w.kept (grounded n w I) j a b (I.decides p j a c) (chosen j b e)
  ]

  alike : StandAlike (renewed_facts p list w) (decisions_of list)
  alike = news_outweigh (w.kept p ++ w.staged p) list none agree

  -- it keeps each decision of the list
  holds : (j : ℕ) (v : Command) → slice_get list j ≡ Some v → Contains (renewed_facts p list w) (Decide j v)
  holds j v e = by (is_undecided (standing_of j (w.kept p ++ w.staged p))) refl
    where
      by : (b : Bool) → is_undecided (standing_of j (w.kept p ++ w.staged p)) ≡ b → Contains (renewed_facts p list w) (Decide j v)
      by true u = Contains-append_right (w.kept p ++ w.staged p) (news_of (w.kept p ++ w.staged p) list) (Decide j v)
          (stays_in (λ f. is_undecided (standing_of (instance_of f) (w.kept p ++ w.staged p))) (decisions_of list) (Decide j v) u (subst (λ z. Contains (decisions_of list) (Decide z v)) (let z : 0 + j ≡ j = omega arith in z) (decision_in 0 j list v e)))
      by false u =
          let d : (a : Command) × (standing_of j (w.kept p ++ w.staged p) ≡ Some (Decided a)) = decision_there (standing_of j (w.kept p ++ w.staged p)) u in
          elim (decided_by None j d.0 (w.kept p ++ w.staged p) (ap decision_of d.1)) [
            | inl x ↦ absurd (none-some d.0 x)
            | inr c ↦ Contains-append_left (w.kept p ++ w.staged p) (news_of (w.kept p ++ w.staged p) list) (Decide j v) (subst (λ z. Contains (w.kept p ++ w.staged p) (Decide j z)) (agree j d.0 v (ap decision_of d.1) e) c)
          ]

  holds_all : (f : Fact) → Contains (decisions_of list) f → Contains (renewed_facts p list w) f
  holds_all f c =
      let d : IsDecision 0 list f = a_decision 0 list f c in
      let same : 0 + d.place ≡ d.place = omega arith in
      subst (Contains (renewed_facts p list w)) (sym (d.is ∙ ap (λ z. Decide z d.command) same)) (holds d.place d.command d.at)

  -- its facts and the list's decisions
  pub renewed_shift : IsShifted n p (renewed_facts p list w) (decisions_of list)
  renewed_shift = record {
    old = renewed_facts p list w;
    new = decisions_of list;
    more = [];
    kept_is = sym (append-nil (renewed_facts p list w));
    marked_is = sym (append-nil (decisions_of list));
    alike = alike;
    within = holds_all;
    fits = decisions_fit n p 0 list [] (λ j l. refl);
  }

  wider : Within (all_said w) (all_said (renewed_world p list w))
  wider = record { messages = λ m c. Contains-append_left w.wire (said_from p 0 list) m c; commands = λ c x. x }

  history : History n p (all_said (renewed_world p list w)) (renewed_facts p list w)
  history = history_news n p (all_said (renewed_world p list w)) (w.kept p ++ w.staged p) 0 list (w.kept p ++ w.staged p)
      (history_grows (all_said w) (all_said (renewed_world p list w)) wider n p (w.kept p ++ w.staged p) (I.history p)) (λ j l. refl)
      (λ j v c. let d : IsDecision 0 list (Decide j v) = a_decision 0 list (Decide j v) c in
      let same : Decide j v ≡ Decide (0 + d.place) d.command = d.is in
      let place : j ≡ 0 + d.place = ap instance_of same in
      let command : v ≡ d.command = cc in (
        p,
        Contains-append_right w.wire (said_from p 0 list) (record { from = p; to = p; body = Decision j v })
            (subst (λ z. Contains (said_from p 0 list) (record { from = p; to = p; body = Decision j z })) (sym command)
            (subst (λ z. Contains (said_from p 0 list) (record { from = p; to = p; body = Decision z d.command })) (sym place) (saying_in p 0 d.place list d.command d.at))),
      ))

  -- what is on the wire is backed
  kept_within : (f : Fact) → Contains (w.kept p) f → Contains (renewed_facts p list w) f
  kept_within f c = Contains-append_left (w.kept p ++ w.staged p) (news_of (w.kept p ++ w.staged p) list) f (Contains-append_left (w.kept p) (w.staged p) f c)

  backed : (m : Message) → Contains (renewed_world p list w).wire m → IsBacked m.body ((renewed_world p list w).kept m.from)
  backed m c = elim (Contains-append_cases w.wire (said_from p 0 list) m c) [
    | inl x ↦ at_each (λ q s. m.from ≡ q → IsBacked m.body s) w.kept p (renewed_facts p list w)
        (λ e. backed_within m.body (w.kept p) (renewed_facts p list w) kept_within (subst (λ z. IsBacked m.body (w.kept z)) e (I.backed m x)))
        (λ q e. subst (λ z. IsBacked m.body (w.kept z)) e (I.backed m x)) m.from refl
    | inr x ↦ (let y : IsSaying p 0 list m = a_saying p 0 list m x in
        subst (λ (k : Message). IsBacked k.body ((renewed_world p list w).kept k.from)) (sym y.is)
        (subst (λ z. Contains z (Decide (0 + y.place) y.command)) (sym (at_same w.kept p (renewed_facts p list w)))
        (subst (λ z. Contains (renewed_facts p list w) (Decide z y.command)) (let z : y.place ≡ 0 + y.place = omega arith in z) (holds y.place y.command y.at))))
  ]

  grown : (i : ℕ) (v : Command) → IsChosen n w.wire i v → IsChosen n (renewed_world p list w).wire i v
  grown i v c = chosen_grows n w.wire (renewed_world p list w).wire wider.messages i v c

  decides : (i : ℕ) (v : Command) → Contains (renewed_facts p list w) (Decide i v) → IsChosen n (renewed_world p list w).wire i v
  decides i v c = elim (Contains-append_cases (w.kept p ++ w.staged p) (news_of (w.kept p ++ w.staged p) list) (Decide i v) c) [
    | inl x ↦ grown i v (I.decides p i v x)
    | inr x ↦ (let d : IsDecision 0 list (Decide i v) = a_decision 0 list (Decide i v) (of_news (w.kept p ++ w.staged p) list (Decide i v) x) in
        let same : Decide i v ≡ Decide (0 + d.place) d.command = d.is in
        let place : i ≡ 0 + d.place = ap instance_of same in
        let command : v ≡ d.command = cc in
        grown i v (subst (λ z. IsChosen n w.wire i z) (sym command) (subst (λ z. IsChosen n w.wire z d.command) (let z : d.place ≡ i = omega arith in z) (chosen d.place d.command d.at))))
  ]

  pub renewed_invariant : Invariant n (renewed_world p list w)
  renewed_invariant = record {
    heard = λ q. record { messages = λ m c. wider.messages m ((I.heard q).messages m c); commands = (I.heard q).commands };
    history = at_each_two (λ q k s. History n q (all_said (renewed_world p list w)) (k ++ s)) w.kept w.staged p (renewed_facts p list w) []
        (subst (History n p (all_said (renewed_world p list w))) (sym (append-nil (renewed_facts p list w))) history)
        (λ q. history_grows (all_said w) (all_said (renewed_world p list w)) wider n q (w.kept q ++ w.staged q) (I.history q));
    backed = backed;
    names = record {
      messages = λ m v c e. elim (Contains-append_cases w.wire (said_from p 0 list) m c) [
        | inl x ↦ I.names.messages m v x e
        | inr x ↦ (let y : IsSaying p 0 list m = a_saying p 0 list m x in
            let same : y.command ≡ v = same_Some y.command v (sym (ap (λ (k : Message). command_in k.body) y.is) ∙ e) in
            subst (Contains w.submitted) same (let k : IsChosen n w.wire y.place y.command = chosen y.place y.command y.at in I.names.messages _ y.command k.proposed.1 refl))
      ];
      commands = I.names.commands;
    };
    decides = at_each_two (λ q k s. (i : ℕ) (v : Command) → Contains (k ++ s) (Decide i v) → IsChosen n (renewed_world p list w).wire i v) w.kept w.staged p (renewed_facts p list w) []
        (λ i v c. decides i v (subst (λ z. Contains z (Decide i v)) (append-nil (renewed_facts p list w)) c))
        (λ q i v c. grown i v (I.decides q i v c));
    told = truthful_grows w.trace (λ q. decided_prefix (w.kept q)) (λ q. decided_prefix ((renewed_world p list w).kept q))
        (at_each (λ q s. Begins (decided_prefix (w.kept q)) (decided_prefix s)) w.kept p (renewed_facts p list w)
        (subst (λ z. Begins (decided_prefix (w.kept p)) (decided_prefix z)) (sym whole) (prefix_grows n p (all_said (renewed_world p list w)) (w.kept p) (w.staged p ++ news_of (w.kept p ++ w.staged p) list) (subst (History n p (all_said (renewed_world p list w))) whole history)))
        (λ q. begins_itself (decided_prefix (w.kept q))))
        I.told;
  }
    where
      whole : renewed_facts p list w ≡ w.kept p ++ (w.staged p ++ news_of (w.kept p ++ w.staged p) list)
      whole = append_assoc (w.kept p) (w.staged p) (news_of (w.kept p ++ w.staged p) list)

-- the world takes a disk along that is made anew
module _ (n p : ℕ) (list : List Command) (v : Lives) (w : World) (A : IsAlike n v w) (may : MayTurn n v (Renewed p list)) where
  down : IsDownIn p (w.kept p) (v.life p).unmarked w × IsShifted n p (w.kept p) (v.life p).marked
  down = down_is n p (v.life p) w may.0 (A.lives p)

  chosen_here : IsChosenList n w.wire list
  chosen_here i u e = chosen_grows n v.wire w.wire A.wire i u (may.1 i u e)

  nothing_above : (j : ℕ) → length list ≤ j → standing_of j (w.kept p ++ w.staged p) ≡ None
  nothing_above j l =
      ap (λ z. standing_of j (w.kept p ++ z)) down.0.stages
      ∙ shifted_standings n p (w.kept p ++ (v.life p).unmarked) ((v.life p).marked ++ (v.life p).unmarked) (shifted_on n p (w.kept p) (v.life p).marked (v.life p).unmarked down.1) j
      ∙ ap (λ (o : Option NodeState). standing_of j ((v.life p).marked ++ option_map_or unmarked_of o (v.life p).unmarked)) (sym may.0)
      ∙ nothing_from (length list) j (all_facts (v.life p)) may.2 l

  here : IsLifeIn n p (renewed list) (renewed_world p list w) None
  here = (
    record { down = down.0.down; keeps = refl; stages = at_same w.staged p []; heard = down.0.heard },
    subst (λ k. IsShifted n p k (decisions_of list)) (sym (at_same w.kept p (renewed_facts p list w))) (renewed_shift n p list w A.sound chosen_here nothing_above),
  )

  there : (q : ℕ) → (q ≡ p → ⊥) → LeavesAlone q w (renewed_world p list w)
  there q other = record {
    up = refl;
    kept = ap (λ (b : Bool). if b then renewed_facts p list w else w.kept q) (ne_eqb q p other);
    staged = ap (λ (b : Bool). if b then [] else w.staged q) (ne_eqb q p other);
    heard = refl;
    submitted = λ c x. x;
    wire = λ m c. Contains-append_left w.wire (said_from p 0 list) m c;
  }

  pub renews_alike : IsAlike n (after_turn n (Renewed p list) v) (renewed_world p list w)
  renews_alike = record {
    lives = λ q. by q (q == p) refl;
    wire = λ m c. Contains-append_left w.wire (said_from p 0 list) m (A.wire m c);
    extra = λ m c. elim (Contains-append_cases w.wire (said_from p 0 list) m c) [
      | inl x ↦ A.extra m x
      | inr x ↦ (let y : IsSaying p 0 list m = a_saying p 0 list m x in inr (subst (λ (k : Message). SaysDecision k.body) (sym y.is) tt))
    ];
    proper = A.proper;
    sound = renewed_invariant n p list w A.sound chosen_here nothing_above;
  }
    where
      by : (q : ℕ) (b : Bool) → (q == p) ≡ b → IsLifeIn n q (if b then renewed list else v.life q) (renewed_world p list w) (if b then renewed list else v.life q).state
      by q true e = subst (λ x. IsLifeIn n x (renewed list) (renewed_world p list w) None) (sym (eqb-true q p e)) here
      by q false e = life_alone n q (v.life q) w (renewed_world p list w) (there q (eqb-false q p e)) (v.life q).state (A.lives q)
