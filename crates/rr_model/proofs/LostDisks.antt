-- What a majority promises bounds the instances of which any node can have had a fact. So decisions for these outweigh its
-- facts, and its disk may be made anew of them.
use Rattle.std.proofs.Common.{◌≡◌, ℕ, ◌+◌, ◌-◌, ◌≤◌, ◌<◌, inl, inr, zero, suc, Bool, true, false, ◌==◌, if◌then◌else◌, List, [], ◌∷◌, ◌++◌, length, take, drop, slice_get, Contains, Option, None, Some, refl, ap, sym, ◌∙◌, subst, arith, le_refl, append-nil, append_assoc, take-append-drop}
use Rattle.std.specs.List.{flat_map}
use Rattle.std.specs.Option.{option_map_or}
use Rattle.std.proofs.lemmas.Bool.{cases_lt, ne_eqb}
use Rattle.std.proofs.lemmas.List.Elements.{Contains-append_left}
use Rattle.std.proofs.lemmas.Option.{none-some}
use Rattle.rr_types.specs.declared.command.Command.{Command}
use Rattle.rr_types.specs.declared.fact.Fact.{Fact}
use Rattle.rr_types.specs.declared.fact.Fact.TheVariants.{Enter, Propose, Adopt, Decide}
use Rattle.rr_types.specs.declared.promise.Standing.{Standing}
use Rattle.rr_types.specs.declared.promise.Standing.TheVariants.{Decided, Open}
use Rattle.rr_types.specs.declared.message.Body.TheVariants.{Ack}
use Rattle.rr_types.specs.Facts.{instance_of, standing_of, after_fact, decision_of}
use Rattle.rr_types.specs.Promises.{standing_in, decided_from}
use Rattle.rr_types.specs.Standings.{is_undecided, standing_from}
use Rattle.rr_model.specs.Deeds.{Life, Lives, unmarked_of, nothing_done, after_what, after_deed, after_deeds, sent_by, IsHistory, OpensWell}
use Rattle.rr_model.specs.Lawful.{Says, HasMajority, count_below}
use Rattle.rr_model.specs.LostDisks.{AreBelow, DecideBelow, StandsByTheList, unmarked_facts, all_facts, left_facts, lives_after, PromisesNothingFrom, DoesAMajorityEnd, BoundsLostFacts, MayBeginAnew}
use Rattle.rr_model.specs.NodeOpens.{undecided_below, IsOfOpen, AreOfOpen}
use Rattle.rr_model.specs.NodeState.{NodeState}
use Rattle.rr_model.specs.RenewedDisks.{Turn, Does, Renewed, renewed, after_turn, after_turns, AreTurns, deeds_of, lives_then, AreDisksChosen, IsIdle, MayBeRenewed}
use Rattle.rr_model.specs.Sound.{IsChosen, IsChosenList}
use Rattle.rr_model.specs.World.{World, empty_world}
use Rattle.rr_model.specs.declared.deed.Deed.{Deed}
use Rattle.rr_model.proofs.DeedAgrees.{does_all, does_deeds, does_turns}
use Rattle.rr_model.proofs.DeedOpens.{HasOfOpen, turns_low}
use Rattle.rr_model.proofs.DeedsInWorld.{IsLifeIn, IsAlike}
use Rattle.rr_model.proofs.Growth.{chosen_grows}
use Rattle.rr_model.proofs.Histories.{OnOpen, standing_from-append}
use Rattle.rr_model.proofs.Invariants.{Invariant, all_said, grounded}
use Rattle.rr_model.proofs.Kept.{stamps_rise, later}
use Rattle.rr_model.proofs.Locking.{AtPlace, at_place, after_adopt, Grounded}
use Rattle.rr_model.proofs.NodePrefixes.{same_prefix}
use Rattle.rr_model.proofs.Outweighed.{decision_there, nothing_from, news_outweigh}
use Rattle.rr_model.proofs.Places.{Place, place_of}
use Rattle.rr_model.proofs.Prefixes.{decided_by, prefix_decides}
use Rattle.rr_model.proofs.Promised.{standing_in-promise_of}
use Rattle.rr_model.proofs.Quorums.{majorities_meet}
use Rattle.rr_model.proofs.Shifted.{IsShifted, shifted_on, shifted_standings, shifted_within}
use Rattle.rr_model.proofs.TurnsInWorld.{starts_alike, TookAll, take_all, turns_front, turns_append, turns_wire, chosen_here, one_here}

-- ---- what the world has

-- the world has all facts of a node
all_in_world : (n p : ℕ) (v : Lives) (w : World) → IsAlike n v w → (f : Fact) → Contains (all_facts (v.life p)) f → Contains (w.kept p ++ w.staged p) f
all_in_world n p v w A f c = by (v.life p).state refl (A.lives p)
  where
    both : (unmarked : List Fact) → IsShifted n p (w.kept p) (v.life p).marked → w.staged p ≡ unmarked → unmarked_facts (v.life p) ≡ unmarked → Contains (w.kept p ++ w.staged p) f
    both unmarked S staged same = subst (λ z. Contains (w.kept p ++ z) f) (sym staged)
        (shifted_within n p (w.kept p ++ unmarked) ((v.life p).marked ++ unmarked) (shifted_on n p (w.kept p) (v.life p).marked unmarked S) f (subst (λ z. Contains ((v.life p).marked ++ z) f) same c))

    by : (o : Option NodeState) → (v.life p).state ≡ o → IsLifeIn n p (v.life p) w o → Contains (w.kept p ++ w.staged p) f
    by None e D = both (v.life p).unmarked D.1 D.0.stages (ap (λ x. option_map_or unmarked_of x (v.life p).unmarked) e)
    by (Some s) e t = both (unmarked_of s) t.shift t.in_world.staged (ap (λ x. option_map_or unmarked_of x (v.life p).unmarked) e)

-- and instances stand there as by the marked ones
marked_in_world : (n p : ℕ) (v : Lives) (w : World) → IsAlike n v w → (i : ℕ) → standing_of i (w.kept p) ≡ standing_of i (v.life p).marked
marked_in_world n p v w A i = by (v.life p).state (A.lives p)
  where
    by : (o : Option NodeState) → IsLifeIn n p (v.life p) w o → standing_of i (w.kept p) ≡ standing_of i (v.life p).marked
    by None D = shifted_standings n p (w.kept p) (v.life p).marked D.1 i
    by (Some s) t = shifted_standings n p (w.kept p) (v.life p).marked t.shift i

-- ---- decisions

-- an adoption that is kept leaves its instance with a standing
adopted_stands : (n q : ℕ) (w : World) (i r : ℕ) (u : Command) → Invariant n w → Contains (w.kept q) (Adopt i r u) → standing_of i (w.kept q) ≡ None → ⊥
adopted_stands n q w i r u I c none =
    let G : Grounded n (all_said w) w.kept = grounded n w I in
    let x : AtPlace n q (all_said w) (w.kept q) (Adopt i r u) = at_place n q (all_said w) (w.kept q) (Adopt i r u) (G.history q) c in
    let stands : OnOpen (λ o. r ≤ o.stamp) ⊥ (standing_of i (w.kept q)) =
    later n q (all_said w) i (λ o. r ≤ o.stamp) (stamps_rise n q (all_said w) i r) x.before (Adopt i r u) x.after (w.kept q) (G.history q) x.is refl (after_adopt (λ o. r ≤ o.stamp) (standing_of i x.before) i r u x.lawful.0 (λ o z. le_refl r)) in
    subst (OnOpen (λ o. r ≤ o.stamp) ⊥) none stands

-- an instance that has a standing never loses it
after_some : (s : Standing) (f : Fact) → after_fact (Some s) f ≡ None → ⊥
after_some s (Enter i e) x = none-some _ (sym x)
after_some (Decided v) (Propose i r u) x = none-some _ (sym x)
after_some (Open o) (Propose i r u) x = none-some _ (sym x)
after_some (Decided v) (Adopt i r u) x = none-some _ (sym x)
after_some (Open o) (Adopt i r u) x = none-some _ (sym x)
after_some s (Decide i u) x = none-some _ (sym x)

after_more : (s : Option Standing) (i : ℕ) (facts : List Fact) → standing_from s i facts ≡ None → s ≡ None
after_more s i [] e = e
after_more s i (f ∷ facts) e = by s (instance_of f == i) (after_more (if instance_of f == i then after_fact s f else s) i facts e)
  where
    by : (s : Option Standing) (b : Bool) → (if b then after_fact s f else s) ≡ None → s ≡ None
    by None b x = refl
    by (Some t) true x = absurd (after_some t f x)
    by (Some t) false x = x

-- of which the promise on a disk says nothing, of that nothing is marked
none_marked : (l : Life) (end i : ℕ) → PromisesNothingFrom end l → end ≤ i → standing_of i l.marked ≡ None
none_marked l end i (promise, next, found, none) m = after_more (standing_of i l.marked) i (take found.0 l.unmarked)
    (sym (standing_from-append None i l.marked (take found.0 l.unmarked)) ∙ sym (standing_in-promise_of (l.marked ++ take found.0 l.unmarked) i) ∙ ap (λ z. standing_in z i) (sym found.3) ∙ none i m)

-- what is chosen lies below the end of what a majority has marked
chosen_below : (n : ℕ) (v : Lives) (w : World) → IsAlike n v w → (end : ℕ) → HasMajority n (λ q. PromisesNothingFrom end (v.life q)) → (i : ℕ) (u : Command) → IsChosen n w.wire i u → i < end
chosen_below n v w A end M i u C = elim (cases_lt i end) [
  | inl l ↦ l
  | inr m ↦ (let both : (q : ℕ) × (q < n) × PromisesNothingFrom end (v.life q) × Says w.wire q (Ack i C.round) = majorities_meet n (λ q. PromisesNothingFrom end (v.life q)) (λ q. Says w.wire q (Ack i C.round)) M C.acknowledged in
      let q : ℕ = both.0 in
      let kept : (u : Command) × Contains (w.kept q) (Adopt i C.round u) = A.sound.backed _ (both.3).1 in
      let none : standing_of i (w.kept q) ≡ None = marked_in_world n q v w A i ∙ none_marked (v.life q) end i both.2 (omega arith) in
      absurd (adopted_stands n q w i C.round kept.0 A.sound kept.1 none))
]

-- what any node has decided is chosen
decides_chosen : (n p : ℕ) (v : Lives) (w : World) → IsAlike n v w → (i : ℕ) (u : Command) → Contains (all_facts (v.life p)) (Decide i u) → IsChosen n w.wire i u
decides_chosen n p v w A i u c = A.sound.decides p i u (all_in_world n p v w A (Decide i u) c)

-- ---- other facts

-- facts of open instances, one of them at its place
low_at : (b before : List Fact) (f : Fact) (after : List Fact) → AreOfOpen b (before ++ f ∷ after) → IsOfOpen (b ++ before) f
low_at b [] f after a = subst (λ z. IsOfOpen z f) (sym (append-nil b)) a.0
low_at b (g ∷ before) f after a = subst (λ z. IsOfOpen z f) (append_assoc b (g ∷ []) before) (low_at (b ++ g ∷ []) before f after a.1)

-- where all are counted between
count_all : (f : ℕ → Bool) (e d : ℕ) → ((k : ℕ) → e ≤ k → k < e + d → f k ≡ true) → d ≤ count_below f (e + d)
count_all f e zero all = omega arith
count_all f e (suc d) all =
    let s : e + suc d ≡ suc (e + d) = omega arith in
    let ih : d ≤ count_below f (e + d) = count_all f e d (λ k l m. all k l (omega arith)) in
    subst (λ z. suc d ≤ count_below f z) (sym s) (subst (λ (b : Bool). suc d ≤ (if b then suc (count_below f (e + d)) else count_below f (e + d))) (sym (all (e + d) (omega arith) (omega arith))) (omega arith))

-- facts that decide no instance from the end on leave all of these undecided
undecided_from_end : (end : ℕ) (facts : List Fact) → DecideBelow end facts → (k : ℕ) → end ≤ k → is_undecided (standing_of k facts) ≡ true
undecided_from_end end facts below k l = by (is_undecided (standing_of k facts)) refl
  where
    by : (b : Bool) → is_undecided (standing_of k facts) ≡ b → b ≡ true
    by true e = refl
    by false e =
        let w : (w : Command) × (standing_of k facts ≡ Some (Decided w)) = decision_there (standing_of k facts) e in
        elim (decided_by None k w.0 facts (ap decision_of w.1)) [
          | inl x ↦ absurd (none-some w.0 x)
          | inr c ↦ absurd (let m : k < end = below k w.0 c in omega arith)
        ]

-- an instance of which fewer than eight below are undecided lies less than eight above the end
open_below : (end i : ℕ) (before : List Fact) → DecideBelow end before → undecided_below i before < 8 → i < end + 8
open_below end i before below few = elim (cases_lt i end) [
  | inl l ↦ omega arith
  | inr m ↦ (let s : end + (i - end) ≡ i = omega arith in
      let many : i - end ≤ count_below (λ j. is_undecided (standing_of j before)) (end + (i - end)) = count_all (λ j. is_undecided (standing_of j before)) end (i - end) (λ k a b. undecided_from_end end before below k a) in
      let all : i - end ≤ undecided_below i before = subst (λ z. i - end ≤ count_below (λ j. is_undecided (standing_of j before)) z) s many in
      omega arith)
]

fact_below : (end : ℕ) (before : List Fact) (f : Fact) → DecideBelow end before → ((i : ℕ) (u : Command) → f ≡ Decide i u → i < end) → IsOfOpen before f → instance_of f < end + 8
fact_below end before (Enter i e) below own low = open_below end i before below low
fact_below end before (Propose i r u) below own low = open_below end i before below low
fact_below end before (Adopt i r u) below own low = open_below end i before below low
fact_below end before (Decide i u) below own low = let l : i < end = own i u refl in omega arith

-- facts of open instances, of which none decides the end or one above
facts_below : (end : ℕ) (facts : List Fact) → DecideBelow end facts → AreOfOpen [] facts → AreBelow (end + 8) facts
facts_below end facts below low f c =
    let x : Place facts f = place_of facts f c in
    fact_below end x.before f
    (λ i u d. below i u (subst (λ z. Contains z (Decide i u)) (sym x.is) (Contains-append_left x.before (f ∷ x.after) (Decide i u) d)))
    (λ i u e. below i u (subst (Contains facts) e c))
    (low_at [] x.before f x.after (subst (AreOfOpen []) x.is low))

-- ---- moments

-- a node that is idle stays as it is
idle_life : (n p : ℕ) (ts : List Turn) (v : Lives) → IsIdle p ts → (after_turns n ts v).life p ≡ v.life p
idle_life n p [] v idle = refl
idle_life n p (Does d ∷ ts) v idle = idle_life n p ts (after_deed n d v) idle.1 ∙ ap (λ (b : Bool). if b then after_what n d.node d.what (v.life d.node) else v.life p) (ne_eqb p d.node idle.0)
idle_life n p (Renewed q list ∷ ts) v idle = idle_life n p ts (after_turn n (Renewed q list) v) idle.1 ∙ ap (λ (b : Bool). if b then renewed list else v.life p) (ne_eqb p q idle.0)

-- what a crash leaves are facts of the node
left_within : (l : Life) (count : ℕ) (f : Fact) → Contains (left_facts l count) f → Contains (all_facts l) f
left_within l count f c = subst (λ z. Contains z f) (append_assoc l.marked (take count (unmarked_facts l)) (drop count (unmarked_facts l)) ∙ ap (λ z. l.marked ++ z) (take-append-drop count (unmarked_facts l)))
    (Contains-append_left (left_facts l count) (drop count (unmarked_facts l)) f c)

never_low : (p : ℕ) → HasOfOpen (nothing_done.life p)
never_low p = tt

module _ (n : ℕ) (ts : List Turn) (h : AreTurns n ts) where
  moment : TookAll n ts nothing_done empty_world
  moment = take_all n ts nothing_done empty_world (starts_alike n) h

  -- the bound
  pub bounds_lost_facts : BoundsLostFacts n (lives_then n ts)
  bounds_lost_facts end M p =
      let v : Lives = lives_then n ts in
      let decided : DecideBelow end (all_facts (v.life p)) = (λ i u c. chosen_below n v moment.world moment.alike end M i u (decides_chosen n p v moment.world moment.alike i u c)) in
      (decided, facts_below end (all_facts (v.life p)) decided (turns_low n ts nothing_done empty_world (starts_alike n) h never_low p))

  -- what a crash leaves of a node is chosen where it is decided
  crashed_chosen : (p count j : ℕ) (u : Command) → decision_of (standing_of j (left_facts ((lives_then n ts).life p) count)) ≡ Some u → IsChosen n (lives_then n ts).wire j u
  crashed_chosen p count j u d = elim (decided_by None j u (left_facts ((lives_then n ts).life p) count) d) [
    | inl x ↦ absurd (none-some u x)
    | inr c ↦ chosen_here n (lives_then n ts) moment.world moment.alike j u (decides_chosen n p (lives_then n ts) moment.world moment.alike j u (left_within ((lives_then n ts).life p) count (Decide j u) c))
  ]

  -- and so is what its disk has decided without a gap
  pub disks_chosen : AreDisksChosen n (lives_then n ts)
  disks_chosen p promise next down found i u e =
      let l : Life = (lives_then n ts).life p in
      let facts : List Fact = l.marked ++ take found.0 l.unmarked in
      let here : Contains facts (Decide i u) = prefix_decides facts i u (subst (λ z. slice_get z i ≡ Some u) (ap (decided_from 0) found.3 ∙ same_prefix facts) e) in
      let left : left_facts l found.0 ≡ facts = ap (λ o. l.marked ++ take found.0 (option_map_or unmarked_of o l.unmarked)) down in
      chosen_here n (lives_then n ts) moment.world moment.alike i u
      (decides_chosen n p (lives_then n ts) moment.world moment.alike i u (left_within l found.0 (Decide i u) (subst (λ z. Contains z (Decide i u)) (sym left) here)))

-- ---- a lost node

module _ (n : ℕ) (before after : List Turn) (h : AreTurns n (before ++ after)) where
  front : AreTurns n before
  front = (turns_front n before after nothing_done h).0

  wire_then : (lives_then n (before ++ after)).wire ≡ (lives_then n before).wire ++ flat_map sent_by (deeds_of after)
  wire_then = ap (λ (v : Lives). v.wire) (turns_append n before after nothing_done) ∙ turns_wire n after (lives_then n before)

  -- at the end it stands by the list, with what a crash left of it
  pub stands_by_the_list : (end : ℕ) → DoesAMajorityEnd n (lives_then n before) end → (list : List Command) → IsChosenList n (lives_then n (before ++ after)).wire list → end + 8 ≤ length list
      → (p count : ℕ) → StandsByTheList list (left_facts ((lives_then n before).life p) count)
  stands_by_the_list end M list chosen long p count = news_outweigh (left_facts l count) list
      (λ j m. nothing_from (length list) j (left_facts l count) (λ f c. let b : instance_of f < end + 8 = (bounds_lost_facts n before front end M p).1 f (left_within l count f c) in omega arith) m)
      (λ j a b d e. one_here n (lives_then n (before ++ after)) whole.world whole.alike j a b
      (chosen_grows n (lives_then n before).wire (lives_then n (before ++ after)).wire (λ m c. subst (λ ms. Contains ms m) (sym wire_then) (Contains-append_left (lives_then n before).wire (flat_map sent_by (deeds_of after)) m c)) j a (crashed_chosen n before front p count j a d))
      (chosen j b e))
    where
      l : Life
      l = (lives_then n before).life p

      whole : TookAll n (before ++ after) nothing_done empty_world
      whole = moment n (before ++ after) h

  -- and its disk may be made anew, if it did nothing since
  pub may_be_renewed : MayBeRenewed n before after
  may_be_renewed p end down M idle list chosen long =
      let same : (lives_then n (before ++ after)).life p ≡ (lives_then n before).life p = ap (λ (v : Lives). v.life p) (turns_append n before after nothing_done) ∙ idle_life n p after (lives_then n before) idle in
      (ap (λ (l : Life). l.state) same ∙ down, chosen, subst (λ (l : Life). AreBelow (length list) (all_facts l)) (sym same) (λ f c. let b : instance_of f < end + 8 = (bounds_lost_facts n before front end M p).1 f c in omega arith))

-- ---- histories in which no disk is made anew

does_lives : (n : ℕ) (ds : List Deed) (v : Lives) → after_turns n (does_all ds) v ≡ after_deeds n ds v
does_lives n [] v = refl
does_lives n (d ∷ ds) v = does_lives n ds (after_deed n d v)

does_append : (a b : List Deed) → does_all (a ++ b) ≡ does_all a ++ does_all b
does_append [] b = refl
does_append (d ∷ a) b = ap (λ z. Does d ∷ z) (does_append a b)

module _ (n : ℕ) (deeds : List Deed) (h : IsHistory n deeds) (o : OpensWell n deeds) where
  pub history_bounds : BoundsLostFacts n (lives_after n deeds)
  history_bounds = subst (BoundsLostFacts n) (does_lives n deeds nothing_done) (bounds_lost_facts n (does_all deeds) (does_turns n deeds nothing_done h o))

  pub may_begin_anew : MayBeginAnew n deeds
  may_begin_anew before after e end M list chosen long p count =
      let split : does_all deeds ≡ does_all before ++ does_all after = ap does_all e ∙ does_append before after in
      let turns : AreTurns n (does_all before ++ does_all after) = subst (AreTurns n) split (does_turns n deeds nothing_done h o) in
      let alike : lives_then n (does_all before) ≡ lives_after n before = does_lives n before nothing_done in
      let wire : flat_map sent_by deeds ≡ (lives_then n (does_all before ++ does_all after)).wire =
      ap (flat_map sent_by) (sym (does_deeds deeds)) ∙ sym (turns_wire n (does_all deeds) nothing_done) ∙ ap (λ ts. (lives_then n ts).wire) split in
      subst (λ (v : Lives). StandsByTheList list (left_facts (v.life p) count)) alike
      (stands_by_the_list n (does_all before) (does_all after) turns end (subst (λ v. DoesAMajorityEnd n v end) (sym alike) M) list (subst (λ ms. IsChosenList n ms list) wire chosen) long p count)
