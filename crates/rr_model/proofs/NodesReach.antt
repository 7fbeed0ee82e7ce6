-- All instances below the first one that no node of the set knows are decided, while one node keeps clear of that one and all above it.
use Rattle.std.proofs.Common.{◌≡◌, ℕ, ◌+◌, ◌≤◌, ◌<◌, inl, inr, zero, suc, Bool, true, false, ◌==◌, ◌&&◌, ◌||◌, is_none, List, [], Option, None, Some, refl, ap, sym, ◌∙◌, subst, arith, eq-eqb}
use Rattle.std.proofs.lemmas.Bool.{false≢true, ne_eqb, and_from}
use Rattle.std.proofs.lemmas.Option.{none-some}
use Rattle.rr_types.specs.declared.command.Command.{Command}
use Rattle.rr_types.specs.declared.fact.Fact.{Fact}
use Rattle.rr_types.specs.declared.promise.Standing.{Standing}
use Rattle.rr_types.specs.declared.promise.Standing.TheVariants.{Decided, Open}
use Rattle.rr_types.specs.Facts.{standing_of}
use Rattle.rr_types.specs.Promises.{all_fit}
use Rattle.rr_types.specs.Rounds.{majority_of}
use Rattle.rr_types.specs.Standings.{is_undecided}
use Rattle.rr_model.specs.Lawful.{count_below}
use Rattle.rr_model.specs.NodeState.{NodeState}
use Rattle.rr_model.specs.NodeReached.{opened_over}
use Rattle.rr_model.specs.NodesGoOn.{Cluster, CanGoOn, restarted, IsFreeAt}
use Rattle.rr_model.specs.NodesRestart.{IsNewTo, HasMarked, CanRestartOver, OnceMore}
use Rattle.rr_model.proofs.NodeBeyond.{at_first, Beside, Calm, SameStandings, Keeps, restless}
use Rattle.rr_model.proofs.NodeAlone.{IsUp}
use Rattle.rr_model.proofs.NodesTogether.{Leads, Each}
use Rattle.rr_model.proofs.NodeBegins.{IsBlank}
use Rattle.rr_model.proofs.NodesDecide.{opened_blank, HasDecided}
use Rattle.rr_model.proofs.NodesFill.{Kept, what_is_kept, opened_quiet, FactsOn, facts_on, IsNext, wider, untold, NoneHas, look, AreAt, decided_as, both_true, chosen, are_further, new_command}
use Rattle.rr_model.proofs.NodesIdle.{says_opened, opened_marked, opened_calm, HasBegun, begin_all, BegunNext, begun_next, are_begun, idle_decide, idle_learn}

-- nobody of the set is open at it in a round above 0 with a stamp: nothing, or an estimate never adopted
abbrev pub IsFresh : Option Standing → Type 0
IsFresh None = Unit {0}
IsFresh (Some (Open o)) = o.stamp ≡ 0
IsFresh (Some (Decided v)) = ⊥

-- the nodes have come so far: each has decided all below i; from T on node m knows nothing, and the others nothing that was adopted
pub record Come (n : ℕ) (set : ℕ → Bool) (c : Command) (facts : ℕ → List Fact) (m T bound i : ℕ) : Type 0 where
  pub kept : ℕ → List Fact
  pub restarts : CanRestartOver n set (Some c) facts kept
  pub at : AreAt n set bound (suc T) i kept
  pub clear : (j : ℕ) → T ≤ j → standing_of j (kept m) ≡ None
  pub fresh : (q : ℕ) → q < n → set q ≡ true → (j : ℕ) → T ≤ j → IsFresh (standing_of j (kept q))

-- a node keeps what it knew of the others as it was, if it is to
pub record NextOf (n q i : ℕ) (v : Command) (facts : List Fact) (s : NodeState) (calm : Type 0) (after : List Fact) : Type 0 where
  pub next : IsNext n q i v facts s after
  pub same : calm → (j : ℕ) → (j ≡ i → ⊥) → standing_of j after ≡ standing_of j facts

pub next_exactly : (n q i r : ℕ) (v : Command) (facts : List Fact) (s : NodeState) (calm : Type 0) → all_fit n q [] facts ≡ true → IsUp n q s → HasDecided i v s → Keeps i r calm (opened_over n q facts) s → (after : List Fact) × NextOf n q i v facts s calm after
next_exactly n q i r v facts s calm fit U D keeps =
    let K : Kept n q s = what_is_kept n q s U D.running D.staged in
    let B : Beside i (opened_over n q facts) s = keeps.0 (opened_quiet n q i facts) in (
      K.facts,
      record {
        next = record { marked = K.marked; fit = K.fit; here = K.says i ∙ D.stands; others = λ j away. facts_on n q j facts s fit K (B.others j away) };
        same = λ f j away. let x : Calm i r s × SameStandings i (opened_over n q facts) s = keeps.1 (opened_quiet n q i facts) f (opened_calm n q i r facts) in K.says j ∙ x.1 j away ∙ says_opened n q facts fit j;
      },
    )

next_still : (n q i : ℕ) (v : Command) (facts : List Fact) (s : NodeState) (calm : Type 0) → all_fit n q [] facts ≡ true → s ≡ opened_over n q facts → standing_of i facts ≡ Some (Decided v) → (after : List Fact) × NextOf n q i v facts s calm after
next_still n q i v facts s calm fit same e = (facts, record { next = record { marked = subst (HasMarked facts) (sym same) (opened_marked n q facts); fit = fit; here = e; others = λ j away. inl refl }; same = λ f j away. refl })

-- nodes that have no fact of the instance begin it
module _ (n : ℕ) (set : ℕ → Bool) (bound last i : ℕ) (facts : ℕ → List Fact) (d : Command) (tells : ℕ → Bool) (small : i < 1048576) (one : 1 ≤ bound) (A : AreAt n set bound last i facts) (can : (q : ℕ) → q < n → set q ≡ true → tells q ≡ true → (standing_of i (facts q) ≡ None) × IsFreeAt n q i d (facts q)) where
  pub record HaveBegun : Type 0 where
    pub end : Cluster
    pub goes : CanGoOn n set d (restarted n facts) end
    pub after : ℕ → List Fact
    pub next : (q : ℕ) → q < n → set q ≡ true → BegunNext n q i d (facts q) (end.state q) (tells q) (after q)
    pub at : AreAt n set bound last i after

  pub begin_them : HaveBegun
  begin_them =
      let L : Leads i 0 restless n set d (restarted n facts) (Each n set (λ q t v. HasBegun n set i facts d tells small A.fit blank q t)) = begin_all n set i facts d tells small A.fit blank in
      let next : (q : ℕ) → q < n → set q ≡ true → (fs : List Fact) × BegunNext n q i d (facts q) (L.end.state q) (tells q) fs = λ q l y. begun_next n q i d (facts q) (L.end.state q) (tells q) (A.fit q l y) (L.up q l y) (L.goal q l y) in
      let all : (q : ℕ) → (fs : List Fact) × (q < n → set q ≡ true → BegunNext n q i d (facts q) (L.end.state q) (tells q) fs) = chosen n set (λ q fs. BegunNext n q i d (facts q) (L.end.state q) (tells q) fs) next in
      record {
        end = L.end;
        goes = L.goes;
        after = λ q. (all q).0;
        next = λ q l y. (all q).1 l y;
        at = are_begun n set bound last i facts (λ q. (all q).0) d L.end tells one A (λ q l y. (all q).1 l y);
      }
    where
      blank : (q : ℕ) → q < n → set q ≡ true → tells q ≡ true → IsBlank i q n d (opened_over n q (facts q))
      blank q l y x = opened_blank n q (facts q) i d (A.below q l y) (can q l y x).0 (can q l y x).1

pub fresh_on : (a b : Option Standing) → b ≡ a → IsFresh a → IsFresh b
fresh_on a b e f = subst IsFresh (sym e) f

is_blank : List Fact → ℕ → Bool
is_blank facts i = is_none (standing_of i facts)

pub none_if : (o : Option Standing) → is_none o ≡ true → o ≡ None
none_if None e = refl
none_if (Some st) e = absurd (false≢true e)

pub some_if : (o : Option Standing) → is_none o ≡ false → o ≡ None → ⊥
some_if None x e = absurd (false≢true (sym x))
some_if (Some st) x e = none-some st (sym e)

-- one instance more, below T
module _ (n : ℕ) (set : ℕ → Bool) (c : Command) (facts : ℕ → List Fact) (m T bound i k : ℕ) (enough : majority_of n ≤ count_below set n) (further : i < T) (small : T < 1048576) (one : 1 ≤ bound) (most : bound + n ≤ 2147483647) (exists : k < n) (member : set k ≡ true) (apart : k ≡ m → ⊥) (here : m < n) (in_set : set m ≡ true) where
  -- each that has no fact of it begins it with a new command
  begun_here : (C : Come n set c facts m T bound i) → (D : Come n set c facts m T bound i) × ((q : ℕ) → q < n → set q ≡ true → standing_of i (D.kept q) ≡ None → ⊥)
  begun_here C =
      let d : (d : Command) × IsNewTo n set C.kept d = new_command n set C.kept in
      let tells : ℕ → Bool = λ q. is_none (standing_of i (C.kept q)) in
      let H : HaveBegun n set bound (suc T) i C.kept d.0 tells (omega arith) one C.at (λ q l y x. (none_if _ x, d.1 q l y i)) = begin_them n set bound (suc T) i C.kept d.0 tells (omega arith) one C.at (λ q l y x. (none_if _ x, d.1 q l y i)) in (
        record {
          kept = H.after;
          restarts = OnceMore C.kept H.after d.0 H.end C.restarts (inr d.1) H.goes (λ q l y. (H.next q l y).marked);
          at = H.at;
          clear = λ j x. (H.next m here in_set).others j (λ t same. omega arith) ∙ C.clear j x;
          fresh = λ q l y j x. fresh_on _ _ ((H.next q l y).others j (λ t same. omega arith)) (C.fresh q l y j x);
        },
        λ q l y e. stands q (H.after q) (tells q) refl ((H.next q l y).here) ((H.next q l y).others i) e,
      )
    where
      stands : (q : ℕ) (after : List Fact) (b : Bool) → is_none (standing_of i (C.kept q)) ≡ b → (b ≡ true → standing_of i after ≡ Some (Open (at_first (new_command n set C.kept).0))) → ((b ≡ true → i ≡ i → ⊥) → standing_of i after ≡ standing_of i (C.kept q)) → standing_of i after ≡ None → ⊥
      stands q after true x told rest e = none-some _ (sym e ∙ told refl)
      stands q after false x told rest e = some_if (standing_of i (C.kept q)) x (sym (rest (λ t. absurd (false≢true t))) ∙ e)

  -- and then it is decided
  record Passed (facts2 : ℕ → List Fact) : Type 0 where
    v : Command
    end : Cluster
    d : Command
    goes : CanGoOn n set d (restarted n facts2) end
    new : IsNewTo n set facts2 d
    next : (q : ℕ) → q < n → set q ≡ true → (fs : List Fact) × NextOf n q i v (facts2 q) (end.state q) (q ≡ m) fs

  module _ (D : Come n set c facts m T bound i) (some : (q : ℕ) → q < n → set q ≡ true → standing_of i (D.kept q) ≡ None → ⊥) where
    d : (d : Command) × IsNewTo n set D.kept d
    d = new_command n set D.kept

    passes_alone : NoneHas n set D.kept i → Passed D.kept
    passes_alone none =
        let x : (r : ℕ) × Leads i r (λ q. q ≡ m) n set d.0 (restarted n D.kept) (λ h. (v : Command) × Unit {0} × ((q : ℕ) → q < n → set q ≡ true → HasDecided i v (h.state q))) =
        idle_decide n set bound (suc T) i D.kept d.0 (λ q. q ≡ m) enough (omega arith) (omega arith) most D.at some (λ q e. Unit {0}) (λ v. Unit {0}) k exists member apart none (λ r q l y o e. tt) (λ a es. Unit {0}) tt (λ a e es y f z. tt) (λ a es y z. tt) (λ a es b z e. tt) in
        let L : Leads i x.0 (λ q. q ≡ m) n set d.0 (restarted n D.kept) (λ h. (v : Command) × Unit {0} × ((q : ℕ) → q < n → set q ≡ true → HasDecided i v (h.state q))) = x.1 in
        record {
          v = L.goal.0;
          end = L.end;
          d = d.0;
          goes = L.goes;
          new = d.1;
          next = λ q l y. next_exactly n q i x.0 L.goal.0 (D.kept q) (L.end.state q) (q ≡ m) (D.at.fit q l y) (L.up q l y) (L.goal.2 q l y) (L.keeps q l y);
        }

    module _ (a : ℕ) (lower : a < n) (inside : set a ≡ true) (v : Command) (has : standing_of i (D.kept a) ≡ Some (Decided v)) where
      part : ℕ → Bool
      part q = set q && (a == q || is_undecided (standing_of i (D.kept q)))

      lacks : (q : ℕ) → q < n → part q ≡ true → (q ≡ a → ⊥) → is_undecided (standing_of i (D.kept q)) ≡ true
      unfolding part
      lacks q l y other = sym (ap (λ z. z || is_undecided (standing_of i (D.kept q))) (ne_eqb a q (λ e. other (sym e)))) ∙ (both_true (set q) _ y).1

      of : (q : ℕ) → part q ≡ true → set q ≡ true
      unfolding part
      of q y = (both_true (set q) _ y).0

      told : part a ≡ true
      unfolding part
      told = and_from _ _ inside (ap (λ z. z || is_undecided (standing_of i (D.kept a))) (eq-eqb a a refl))

      had : (q : ℕ) → q < n → set q ≡ true → part q ≡ false → standing_of i (D.kept q) ≡ Some (Decided v)
      unfolding part
      had q l y out =
          let u : is_undecided (standing_of i (D.kept q)) ≡ false = not_either (a == q) _ (sym (ap (λ z. z && (a == q || is_undecided (standing_of i (D.kept q)))) y) ∙ out) in
          let w : (w : Command) × (standing_of i (D.kept q) ≡ Some (Decided w)) = decided_as (standing_of i (D.kept q)) u in
          w.1 ∙ ap (λ z. Some (Decided z)) (D.at.agreed i q a w.0 v l y lower inside w.1 has)
        where
          not_either : (x b : Bool) → (x || b) ≡ false → b ≡ false
          not_either true b e = absurd (false≢true (sym e))
          not_either false b e = e

      passes_on : Passed D.kept
      passes_on =
          let x : (r : ℕ) × Leads i r (λ q. q ≡ m) n part d.0 (restarted n D.kept) (λ h. (q : ℕ) → q < n → part q ≡ true → HasDecided i v (h.state q)) =
          idle_learn n set bound (suc T) i D.kept d.0 (λ q. q ≡ m) enough (omega arith) (omega arith) most D.at some a lower inside v has part of told lacks in
          let L : Leads i x.0 (λ q. q ≡ m) n part d.0 (restarted n D.kept) (λ h. (q : ℕ) → q < n → part q ≡ true → HasDecided i v (h.state q)) = x.1 in
          record {
            v = v;
            end = L.end;
            d = d.0;
            goes = wider n part set d.0 (restarted n D.kept) L.end of L.goes;
            new = d.1;
            next = λ q l y. by q l y x.0 (part q) refl L.end L.goes (λ z. L.up q l z) (λ z. L.goal q l z) (λ z. L.keeps q l z);
          }
        where
          by : (q : ℕ) → q < n → set q ≡ true → (r : ℕ) (b : Bool) → part q ≡ b → (end : Cluster) → CanGoOn n part d.0 (restarted n D.kept) end → (part q ≡ true → IsUp n q (end.state q)) → (part q ≡ true → HasDecided i v (end.state q)) → (part q ≡ true → Keeps i r (q ≡ m) (opened_over n q (D.kept q)) (end.state q)) → (fs : List Fact) × NextOf n q i v (D.kept q) (end.state q) (q ≡ m) fs
          by q l y r true z end goes up decided keeps = next_exactly n q i r v (D.kept q) (end.state q) (q ≡ m) (D.at.fit q l y) (up z) (decided z) (keeps z)
          by q l y r false z end goes up decided keeps = next_still n q i v (D.kept q) (end.state q) (q ≡ m) (D.at.fit q l y) (untold n part d.0 (restarted n D.kept) end q z goes) (had q l y z)

    passes : Passed D.kept
    passes = elim (look n set D.kept i) [
      | inl h ↦ passes_on h.0 h.1 h.2 h.3 h.4
      | inr none ↦ passes_alone none
    ]

    come_further : Come n set c facts m T bound (suc i)
    come_further =
        let P : Passed D.kept = passes in
        let all : (q : ℕ) → (fs : List Fact) × (q < n → set q ≡ true → NextOf n q i P.v (D.kept q) (P.end.state q) (q ≡ m) fs) = chosen n set (λ q fs. NextOf n q i P.v (D.kept q) (P.end.state q) (q ≡ m) fs) P.next in
        record {
          kept = λ q. (all q).0;
          restarts = OnceMore D.kept (λ q. (all q).0) P.d P.end D.restarts (inr P.new) P.goes (λ q l y. (((all q).1 l y).next).marked);
          at = are_further n set bound (suc T) i D.kept (λ q. (all q).0) P.v P.end one D.at (λ q l y. ((all q).1 l y).next);
          clear = λ j x. ((all m).1 here in_set).same refl j (λ same. omega arith) ∙ D.clear j x;
          fresh = λ q l y j x. still_fresh (all q).0 q l y j x (((all q).1 l y).next.others j (λ same. omega arith));
        }
      where
        still_fresh : (after : List Fact) (q : ℕ) → q < n → set q ≡ true → (j : ℕ) → T ≤ j → FactsOn j (D.kept q) after → IsFresh (standing_of j after)
        still_fresh after q l y j x (inl a) = fresh_on _ _ a (D.fresh q l y j x)
        still_fresh after q l y j x (inr a) = fresh_on (Some (Open (at_first a.1.0))) _ a.1.1 refl

  step_on : Come n set c facts m T bound i → Come n set c facts m T bound (suc i)
  step_on C = let D : (D : Come n set c facts m T bound i) × ((q : ℕ) → q < n → set q ≡ true → standing_of i (D.kept q) ≡ None → ⊥) = begun_here C in come_further D.0 D.1

-- up to T
pub come_to : (n : ℕ) (set : ℕ → Bool) (c : Command) (facts : ℕ → List Fact) (m T bound k : ℕ) → majority_of n ≤ count_below set n → T < 1048576 → 1 ≤ bound → bound + n ≤ 2147483647 → k < n → set k ≡ true → (k ≡ m → ⊥) → m < n → set m ≡ true → Come n set c facts m T bound 0 → (i : ℕ) → i ≤ T → Come n set c facts m T bound i
come_to n set c facts m T bound k enough small one most exists member apart here in_set C zero l = C
come_to n set c facts m T bound k enough small one most exists member apart here in_set C (suc i) l = step_on n set c facts m T bound i k enough (omega arith) small one most exists member apart here in_set (come_to n set c facts m T bound k enough small one most exists member apart here in_set C i (omega arith))
