-- Behind a restart the nodes of a majority can decide one instance after another, with a restart and a new command for each.
use Rattle.std.proofs.Common.{◌≡◌, ℕ, ◌+◌, ◌≤◌, ◌<◌, ◌⊎◌, inl, inr, zero, suc, Bool, true, false, ◌==◌, ◌&&◌, ◌||◌, not, if◌then◌else◌, List, [], ◌∷◌, ◌++◌, length, map, Option, None, Some, option_map, refl, ap, sym, ◌∙◌, subst, arith, eq-eqb, append-nil}
use Rattle.std.specs.List.{list_any}
use Rattle.std.specs.Option.{option_map_or}
use Rattle.std.proofs.lemmas.Bool.{false≢true, cases_lt, cases_eq, ne_eqb, and_from}
use Rattle.std.proofs.lemmas.Option.{none-some, same_Some}
use Rattle.rr_types.specs.declared.command.Command.{Command}
use Rattle.rr_types.specs.declared.command.RequestNo.{RequestNo}
use Rattle.rr_types.specs.declared.fact.Fact.{Fact}
use Rattle.rr_types.specs.declared.promise.Entry.{Entry}
use Rattle.rr_types.specs.declared.promise.Standing.{Standing}
use Rattle.rr_types.specs.declared.promise.Standing.TheVariants.{Decided, Open}
use Rattle.rr_types.specs.Commands.{is_same_command, is_same_op}
use Rattle.rr_types.specs.Facts.{standing_of, decision_of}
use Rattle.rr_types.specs.Promises.{promise_of, all_fit}
use Rattle.rr_types.specs.Registry.{is_same_request}
use Rattle.rr_types.specs.Rounds.{OpenAt, majority_of}
use Rattle.rr_types.specs.Standings.{is_undecided, estimate_of}
use Rattle.rr_model.specs.Lawful.{count_below}
use Rattle.rr_model.specs.World.{nothing_heard}
use Rattle.rr_model.specs.Examples.{claim_a_x}
use Rattle.rr_model.specs.NodeState.{NodeState, Row, no_votes, row_of, standing_at, decided_command, open_instances}
use Rattle.rr_model.specs.NodeParts.{is_estimate_beside}
use Rattle.rr_model.specs.NodeStep.{promised_row}
use Rattle.rr_model.specs.NodeLaws.{after_event}
use Rattle.rr_model.specs.NodeReached.{Opened, opened_over}
use Rattle.rr_model.specs.NodesGoOn.{Cluster, CanGoOn, NotAtAll, ByOneMore, restarted, IsOpenUpTo, IsFreeAt, IsReadyFor}
use Rattle.rr_model.specs.NodesRestart.{IsNewTo, HasMarked, CanRestartOver, AsTheyAre, OnceMore, HasRoom, AreAgreed, GapsCanBeFilled}
use Rattle.rr_model.proofs.NodeKnows.{Knows, in_flight}
use Rattle.rr_model.proofs.NodeReached.{reached_knows, reached_fits}
use Rattle.rr_model.proofs.NodeSteady.{started_stays}
use Rattle.rr_model.proofs.Plans.{bound}
use Rattle.rr_model.proofs.NodeMoves.{if_false}
use Rattle.rr_model.proofs.NodeBeyond.{at_first, IsQuietAbove, StandsOn, Beside, Loose, restless}
use Rattle.rr_model.proofs.NodeAlone.{IsUp}
use Rattle.rr_model.proofs.NodesTogether.{Leads}
use Rattle.rr_model.proofs.NodeRestates.{started_same}
use Rattle.rr_model.proofs.NodesDecide.{HasDecided, AllDecided, ready_leads}
use Rattle.rr_model.proofs.NodesPassOn.{learned_leads}

-- the facts that a node has marked, which are all that it has
pub record Kept (n q : ℕ) (s : NodeState) : Type 0 where
  pub facts : List Fact
  pub marked : HasMarked facts s
  pub fit : all_fit n q [] facts ≡ true
  pub says : (j : ℕ) → standing_of j facts ≡ standing_at s j

pub what_is_kept : (n q : ℕ) (s : NodeState) → IsUp n q s → s.running ≡ None → s.staged ≡ [] → Kept n q s
what_is_kept n q s U a b =
    let facts : List Fact = U.0 in
    let K : Knows (Unit {0}) n q facts U.1 s = reached_knows n q facts U.1 s U.2 in
    let whole : facts ≡ K.kept = K.whole ∙ ap (λ z. K.kept ++ (in_flight z ++ s.staged)) a ∙ ap (λ z. K.kept ++ z) b ∙ append-nil K.kept in
    record { facts = facts; marked = (K.promise ∙ ap promise_of (sym whole), K.count ∙ ap length (sym whole)); fit = reached_fits n q facts U.1 s U.2; says = λ j. sym (K.standings j) }

pub opened_kept : (n q : ℕ) (facts : List Fact) → all_fit n q [] facts ≡ true → Kept n q (opened_over n q facts)
opened_kept n q facts fit = record {
  facts = facts;
  marked = ((started_stays n q (promise_of facts) (length facts)).marked, (started_stays n q (promise_of facts) (length facts)).marked_end);
  fit = fit;
  says = λ j. sym ((reached_knows n q facts nothing_heard (opened_over n q facts) (Opened facts fit)).standings j);
}

pub promised_tally : (next j : ℕ) (es : List Entry) (row : Row) → row_of (map (promised_row next) es) j ≡ Some row → row.tally ≡ no_votes
promised_tally next j [] row e = absurd (none-some row e)
promised_tally next j (x ∷ es) row e = by (x.instance == j) (promised_tally next j es row) e
  where
    by : (b : Bool) → (row_of (map (promised_row next) es) j ≡ Some row → row.tally ≡ no_votes) → (if b then Some (promised_row next x) else row_of (map (promised_row next) es) j) ≡ Some row → row.tally ≡ no_votes
    by true ih y = ap (λ (z : Row). z.tally) (sym (same_Some _ row y))
    by false ih y = ih y

-- a node that has restarted has heard no votes
pub opened_quiet : (n q i : ℕ) (facts : List Fact) → IsQuietAbove i (opened_over n q facts)
opened_quiet n q i facts j l row e = promised_tally (length facts) j (promise_of facts) row (ap (λ z. row_of z j) (sym (started_same n q (promise_of facts) (length facts)).0) ∙ e)

-- instance j stands as it did, or was begun
abbrev pub FactsOn : ℕ → List Fact → List Fact → Type 0
FactsOn j a b = (standing_of j b ≡ standing_of j a) ⊎ ((standing_of j a ≡ None) × ((v : Command) × (standing_of j b ≡ Some (Open (at_first v)))))

pub facts_on : (n q j : ℕ) (facts : List Fact) (s : NodeState) → all_fit n q [] facts ≡ true → (K : Kept n q s) → StandsOn j (opened_over n q facts) s → FactsOn j facts K.facts
unfolding opened_kept
facts_on n q j facts s fit K (inl a) = inl (K.says j ∙ a ∙ sym ((opened_kept n q facts fit).says j))
facts_on n q j facts s fit K (inr a) = inr ((opened_kept n q facts fit).says j ∙ a.0, (a.1.0, K.says j ∙ a.1.1))

-- what a node has marked once v was decided for instance i
pub record IsNext (n q i : ℕ) (v : Command) (facts : List Fact) (s : NodeState) (after : List Fact) : Type 0 where
  pub marked : HasMarked after s
  pub fit : all_fit n q [] after ≡ true
  pub here : standing_of i after ≡ Some (Decided v)
  pub others : (j : ℕ) → (j ≡ i → ⊥) → FactsOn j facts after

abbrev pub Next : (n q i : ℕ) (v : Command) (facts : List Fact) (s : NodeState) → Type 0
Next n q i v facts s = (after : List Fact) × IsNext n q i v facts s after

pub next_of : (n q i : ℕ) (v : Command) (facts : List Fact) (s : NodeState) → all_fit n q [] facts ≡ true → IsUp n q s → HasDecided i v s → Loose i (opened_over n q facts) s → Next n q i v facts s
next_of n q i v facts s fit U D keeps =
    let K : Kept n q s = what_is_kept n q s U D.running D.staged in
    let B : Beside i (opened_over n q facts) s = keeps (opened_quiet n q i facts) in
    (K.facts, record { marked = K.marked; fit = K.fit; here = K.says i ∙ D.stands; others = λ j away. facts_on n q j facts s fit K (B.others j away) })

pub still_next : (n q i : ℕ) (v : Command) (facts : List Fact) (s : NodeState) → all_fit n q [] facts ≡ true → s ≡ opened_over n q facts → standing_of i facts ≡ Some (Decided v) → Next n q i v facts s
unfolding opened_kept
still_next n q i v facts s fit same e = (facts, record { marked = subst (HasMarked facts) (sym same) (opened_kept n q facts fit).marked; fit = fit; here = e; others = λ j away. inl refl })

-- what nodes of a set can do, nodes of a larger one can
pub wider : (n : ℕ) (a b : ℕ → Bool) (c : Command) (g h : Cluster) → ((q : ℕ) → a q ≡ true → b q ≡ true) → CanGoOn n a c g h → CanGoOn n b c g h
wider n a b c g _ f NotAtAll = NotAtAll
wider n a b c g _ f (ByOneMore h p e x l y m) = ByOneMore h p e (wider n a b c g h f x) l (f p y) m

-- the others stay as they are
pub untold : (n : ℕ) (set : ℕ → Bool) (c : Command) (g h : Cluster) (q : ℕ) → set q ≡ false → CanGoOn n set c g h → h.state q ≡ g.state q
untold n set c g _ q out NotAtAll = refl
untold n set c g _ q out (ByOneMore h p e x l y m) = if_false (q == p) (after_event (h.state p) e) (h.state q) (ne_eqb q p (λ same. false≢true (sym out ∙ ap set same ∙ y))) ∙ untold n set c g h q out x

-- a node of the set has decided the instance, or none has
abbrev pub HasOne : ℕ → (ℕ → Bool) → (ℕ → List Fact) → ℕ → Type 0
HasOne n set facts i = (k : ℕ) × (k < n) × (set k ≡ true) × (v : Command) × (standing_of i (facts k) ≡ Some (Decided v))

abbrev pub NoneHas : ℕ → (ℕ → Bool) → (ℕ → List Fact) → ℕ → Type 0
NoneHas n set facts i = (q : ℕ) → q < n → set q ≡ true → is_undecided (standing_of i (facts q)) ≡ true

none_more : (n : ℕ) (set : ℕ → Bool) (facts : ℕ → List Fact) (i : ℕ) → NoneHas n set facts i → (set n ≡ true → is_undecided (standing_of i (facts n)) ≡ true) → NoneHas (suc n) set facts i
none_more n set facts i none last q l z = elim (cases_lt q n) [
  | inl m ↦ none q m z
  | inr m ↦ (let same : n ≡ q = omega arith in subst (λ j. is_undecided (standing_of i (facts j)) ≡ true) same (last (subst (λ j. set j ≡ true) (sym same) z)))
]

search_one : (n : ℕ) (set : ℕ → Bool) (facts : ℕ → List Fact) (i : ℕ) (b : Bool) → set n ≡ b → (o : Option Standing) → standing_of i (facts n) ≡ o → HasOne n set facts i ⊎ NoneHas n set facts i → HasOne (suc n) set facts i ⊎ NoneHas (suc n) set facts i
search_one n set facts i b x o y (inl h) = inl (h.0, (let l : h.0 < n = h.1 in omega arith), h.2, h.3, h.4)
search_one n set facts i true x (Some (Decided v)) y (inr none) = inl (n, (omega arith), x, v, y)
search_one n set facts i true x (Some (Open o)) y (inr none) = inr (none_more n set facts i none (λ z. ap is_undecided y))
search_one n set facts i true x None y (inr none) = inr (none_more n set facts i none (λ z. ap is_undecided y))
search_one n set facts i false x o y (inr none) = inr (none_more n set facts i none (λ z. absurd (false≢true (sym x ∙ z))))

pub look : (n : ℕ) (set : ℕ → Bool) (facts : ℕ → List Fact) (i : ℕ) → HasOne n set facts i ⊎ NoneHas n set facts i
look zero set facts i = inr (λ q l y. absurd (omega arith))
look (suc n) set facts i = search_one n set facts i (set n) refl (standing_of i (facts n)) refl (look n set facts i)

-- where the nodes of the set stand: each has decided all below i
pub record AreAt (n : ℕ) (set : ℕ → Bool) (bound last i : ℕ) (facts : ℕ → List Fact) : Type 0 where
  pub fit : (q : ℕ) → q < n → set q ≡ true → all_fit n q [] (facts q) ≡ true
  pub rounds : (q : ℕ) → q < n → set q ≡ true → (j : ℕ) (o : OpenAt) → j < last → standing_of j (facts q) ≡ Some (Open o) → o.round ≤ bound
  pub below : (q : ℕ) → q < n → set q ≡ true → (j : ℕ) → j < i → is_undecided (standing_of j (facts q)) ≡ false
  pub agreed : AreAgreed n set facts

ready_if : (n bound i q : ℕ) (d : Command) (facts : List Fact) → all_fit n q [] facts ≡ true → ((j : ℕ) → j < i → is_undecided (standing_of j facts) ≡ false) → ((o : OpenAt) → standing_of i facts ≡ Some (Open o) → o.round ≤ bound) → IsFreeAt n q i d facts → is_undecided (standing_of i facts) ≡ true → IsReadyFor n bound i d q facts
ready_if n bound i q d facts fit below rounds free u = record { fit = fit; below = below; here = by (standing_of i facts) refl u }
  where
    by : (o : Option Standing) → standing_of i facts ≡ o → is_undecided o ≡ true → IsOpenUpTo bound i facts ⊎ ((standing_of i facts ≡ None) × IsFreeAt n q i d facts)
    by None e x = inr (e, free)
    by (Some (Open o)) e x = inl (o, e, rounds o e)
    by (Some (Decided v)) e x = absurd (false≢true x)

pub decided_as : (o : Option Standing) → is_undecided o ≡ false → (w : Command) × (o ≡ Some (Decided w))
decided_as None e = absurd (false≢true (sym e))
decided_as (Some (Open o)) e = absurd (false≢true (sym e))
decided_as (Some (Decided w)) e = (w, refl)

pub both_true : (a b : Bool) → (a && b) ≡ true → (a ≡ true) × (b ≡ true)
both_true true b e = (refl, e)
both_true false b e = absurd (false≢true e)

-- one instance more is decided
record Stepped (n : ℕ) (set : ℕ → Bool) (facts : ℕ → List Fact) (d : Command) (i : ℕ) : Type 0 where
  v : Command
  end : Cluster
  goes : CanGoOn n set d (restarted n facts) end
  next : (q : ℕ) → q < n → set q ≡ true → Next n q i v (facts q) (end.state q)
  same : (q : ℕ) (w : Command) → q < n → set q ≡ true → standing_of i (facts q) ≡ Some (Decided w) → w ≡ v

module _ (n : ℕ) (set : ℕ → Bool) (bound last i : ℕ) (facts : ℕ → List Fact) (d : Command) (enough : majority_of n ≤ count_below set n) (further : i < last) (small : i < 1048576) (one : 1 ≤ bound) (most : bound + n ≤ 2147483647) (A : AreAt n set bound last i facts) (new : IsNewTo n set facts d) where
  is_ready : (q : ℕ) → q < n → set q ≡ true → is_undecided (standing_of i (facts q)) ≡ true → IsReadyFor n bound i d q (facts q)
  is_ready q l y u = ready_if n bound i q d (facts q) (A.fit q l y) (A.below q l y) (λ o. A.rounds q l y i o further) (new q l y i) u

  -- none has decided it: they decide
  decides_one : NoneHas n set facts i → Stepped n set facts d i
  decides_one none =
      let x : (r : ℕ) × Leads i r restless n set d (restarted n facts) (AllDecided i n set) = ready_leads n set facts d i bound enough small one most (λ q l y. is_ready q l y (none q l y)) in
      let L : Leads i x.0 restless n set d (restarted n facts) (AllDecided i n set) = x.1 in
      record {
        v = L.goal.0;
        end = L.end;
        goes = L.goes;
        next = λ q l y. next_of n q i L.goal.0 (facts q) (L.end.state q) (A.fit q l y) (L.up q l y) (L.goal.1 q l y) (L.keeps q l y).0;
        same = λ q w l y e. absurd (false≢true (sym (ap is_undecided e) ∙ none q l y));
      }

  -- node k has decided it: those that haven't learn of it
  module _ (k : ℕ) (exists : k < n) (member : set k ≡ true) (v : Command) (at : standing_of i (facts k) ≡ Some (Decided v)) where
    abbrev lacking : ℕ → Bool
    lacking q = set q && (k == q || is_undecided (standing_of i (facts q)))

    lacks : (q : ℕ) → lacking q ≡ true → (q ≡ k → ⊥) → is_undecided (standing_of i (facts q)) ≡ true
    lacks q y other = sym (ap (λ z. z || is_undecided (standing_of i (facts q))) (ne_eqb k q (λ e. other (sym e)))) ∙ (both_true (set q) _ y).1

    learns_one : Stepped n set facts d i
    learns_one =
        let told : lacking k ≡ true = and_from _ _ member (ap (λ z. z || is_undecided (standing_of i (facts k))) (eq-eqb k k refl)) in
        let x : (r : ℕ) × Leads i r restless n lacking d (restarted n facts) (λ h. (q : ℕ) → q < n → lacking q ≡ true → HasDecided i v (h.state q)) =
        learned_leads n lacking facts d i bound small one most k exists told (A.fit k exists member) (A.below k exists member) v at (λ q l y other. is_ready q l (both_true (set q) _ y).0 (lacks q y other)) in
        let L : Leads i x.0 restless n lacking d (restarted n facts) (λ h. (q : ℕ) → q < n → lacking q ≡ true → HasDecided i v (h.state q)) = x.1 in
        record {
          v = v;
          end = L.end;
          goes = wider n lacking set d (restarted n facts) L.end (λ q y. (both_true (set q) _ y).0) L.goes;
          next = λ q l y. by q l y (lacking q) refl L.end L.goes (λ z. L.up q l z) (λ z. L.goal q l z) (λ z. (L.keeps q l z).0);
          same = λ q w l y e. A.agreed i q k w v l y exists member e at;
        }
      where
        had : (q : ℕ) → q < n → set q ≡ true → lacking q ≡ false → standing_of i (facts q) ≡ Some (Decided v)
        had q l y out =
            let u : is_undecided (standing_of i (facts q)) ≡ false = not_either (k == q) _ (sym (ap (λ z. z && (k == q || is_undecided (standing_of i (facts q)))) y) ∙ out) in
            let w : (w : Command) × (standing_of i (facts q) ≡ Some (Decided w)) = decided_as (standing_of i (facts q)) u in
            w.1 ∙ ap (λ z. Some (Decided z)) (A.agreed i q k w.0 v l y exists member w.1 at)
          where
            not_either : (a b : Bool) → (a || b) ≡ false → b ≡ false
            not_either true b e = absurd (false≢true (sym e))
            not_either false b e = e

        by : (q : ℕ) → q < n → set q ≡ true → (b : Bool) → lacking q ≡ b → (end : Cluster) → CanGoOn n lacking d (restarted n facts) end → (lacking q ≡ true → IsUp n q (end.state q)) → (lacking q ≡ true → HasDecided i v (end.state q)) → (lacking q ≡ true → Loose i (opened_over n q (facts q)) (end.state q)) → Next n q i v (facts q) (end.state q)
        by q l y true x end goes up has keeps = next_of n q i v (facts q) (end.state q) (A.fit q l y) (up x) (has x) (keeps x)
        by q l y false x end goes up has keeps = still_next n q i v (facts q) (end.state q) (A.fit q l y) (untold n lacking d (restarted n facts) end q x goes) (had q l y x)

  step : Stepped n set facts d i
  step = elim (look n set facts i) [
    | inl h ↦ learns_one h.0 h.1 h.2 h.3 h.4
    | inr none ↦ decides_one none
  ]

-- what each of the set has, as one function
pub chosen : (n : ℕ) (set : ℕ → Bool) (Good : ℕ → List Fact → Type 0) → ((q : ℕ) → q < n → set q ≡ true → (fs : List Fact) × Good q fs) → (q : ℕ) → (fs : List Fact) × (q < n → set q ≡ true → Good q fs)
chosen n set Good each q = elim (cases_lt q n) [
  | inl l ↦ by l (set q) refl
  | inr m ↦ ([], λ l y. absurd (omega arith))
]
  where
    by : q < n → (b : Bool) → set q ≡ b → (fs : List Fact) × (q < n → set q ≡ true → Good q fs)
    by l true e = let x : (fs : List Fact) × Good q fs = each q l e in (x.0, λ a b. x.1)
    by l false e = ([], λ a b. absurd (false≢true (sym e ∙ b)))

-- where they stand then
module _ (n : ℕ) (set : ℕ → Bool) (bound last i : ℕ) (facts after : ℕ → List Fact) (v : Command) (end : Cluster) (one : 1 ≤ bound) (A : AreAt n set bound last i facts) (N : (q : ℕ) → q < n → set q ≡ true → IsNext n q i v (facts q) (end.state q) (after q)) where
  pub decided_before : (q : ℕ) → q < n → set q ≡ true → (j : ℕ) (w : Command) → (j ≡ i → ⊥) → standing_of j (after q) ≡ Some (Decided w) → standing_of j (facts q) ≡ Some (Decided w)
  decided_before q l y j w away e = by ((N q l y).others j away)
    where
      by : FactsOn j (facts q) (after q) → standing_of j (facts q) ≡ Some (Decided w)
      by (inl a) = sym a ∙ e
      by (inr a) = absurd (false≢true (sym (ap is_undecided (sym (a.1.1) ∙ e))))

  pub still_decided : (q : ℕ) → q < n → set q ≡ true → (j : ℕ) (w : Command) → (j ≡ i → ⊥) → standing_of j (facts q) ≡ Some (Decided w) → standing_of j (after q) ≡ Some (Decided w)
  still_decided q l y j w away e = by ((N q l y).others j away)
    where
      by : FactsOn j (facts q) (after q) → standing_of j (after q) ≡ Some (Decided w)
      by (inl a) = a ∙ e
      by (inr a) = absurd (none-some (Decided w) (sym a.0 ∙ e))

  pub are_further : AreAt n set bound last (suc i) after
  are_further = record {
    fit = λ q l y. (N q l y).fit;
    rounds = λ q l y j o x e. elim (cases_eq j i) [
      | inl same ↦ absurd (false≢true (ap is_undecided (sym (N q l y).here ∙ ap (λ z. standing_of z (after q)) (sym same) ∙ e)))
      | inr away ↦ bounded q l y j o x e ((N q l y).others j away)
    ];
    below = λ q l y j m. elim (cases_eq j i) [
      | inl same ↦ ap (λ z. is_undecided (standing_of z (after q))) same ∙ ap is_undecided (N q l y).here
      | inr away ↦ (
          let w : (w : Command) × (standing_of j (facts q) ≡ Some (Decided w)) = decided_as (standing_of j (facts q)) (A.below q l y j (omega arith)) in
          ap is_undecided (still_decided q l y j w.0 away w.1)
          )
    ];
    agreed = λ j q k a b l y m z e f. elim (cases_eq j i) [
      | inl same ↦ commands_same a b (sym e ∙ ap (λ x. standing_of x (after q)) same ∙ (N q l y).here ∙ sym (N k m z).here ∙ ap (λ x. standing_of x (after k)) (sym same) ∙ f)
      | inr away ↦ A.agreed j q k a b l y m z (decided_before q l y j a away e) (decided_before k m z j b away f)
    ];
  }
    where
      commands_same : (a b : Command) → Some (Decided a) ≡ Some (Decided b) → a ≡ b
      commands_same a b e = same_Some a b (ap decision_of e)

      bounded : (q : ℕ) → q < n → set q ≡ true → (j : ℕ) (o : OpenAt) → j < last → standing_of j (after q) ≡ Some (Open o) → FactsOn j (facts q) (after q) → o.round ≤ bound
      bounded q l y j o x e (inl a) = A.rounds q l y j o x (sym a ∙ e)
      bounded q l y j o x e (inr a) = let same : at_first a.1.0 ≡ o = open_same (at_first a.1.0) o (sym (a.1.1) ∙ e) in subst (λ (z : OpenAt). z.round ≤ bound) same one
        where
          open_same : (x z : OpenAt) → Some (Open x) ≡ Some (Open z) → x ≡ z
          open_same x z h = cc

-- a bound of the numbers of the requests that the rows name
abbrev number_in : Standing → ℕ
number_in (Decided v) = v.request.seq
number_in (Open o) = o.estimate.request.seq

abbrev top : List Row → ℕ
top [] = 0
top (r ∷ rs) = number_in r.standing + top rs

-- the first command whose request number is above them
abbrev numbered : ℕ → Command
numbered k = record { request = record { client = 0; seq = k }; op = claim_a_x.op }

and_false : (a : Bool) → (a && false) ≡ false
and_false true = refl
and_false false = refl

other_request : (q : RequestNo) (k : ℕ) → q.seq < k → is_same_request q (numbered k).request ≡ false
other_request q k l = ap (λ z. q.client == 0 && z) (ne_eqb q.seq k (λ e. omega arith)) ∙ and_false (q.client == 0)

pub any_false : {A : Type 0} → (f : A → Bool) (xs : List A) → ((x : A) → f x ≡ false) → list_any f xs ≡ false
any_false f [] none = refl
any_false f (x ∷ xs) none = ap (λ z. z || list_any f xs) (none x) ∙ any_false f xs none

not_decided : (k : ℕ) (rows : List Row) → top rows < k → list_any (λ (r : Row). option_map_or (λ v. is_same_request v.request (numbered k).request) (decided_command r) false) rows ≡ false
not_decided k [] l = refl
not_decided k (r ∷ rs) l = ap (λ z. z || list_any (λ (x : Row). option_map_or (λ v. is_same_request v.request (numbered k).request) (decided_command x) false) rs) (by r.standing refl) ∙ not_decided k rs (omega arith)
  where
    by : (st : Standing) → r.standing ≡ st → option_map_or (λ v. is_same_request v.request (numbered k).request) (decision_of (Some st)) false ≡ false
    by (Open o) e = refl
    by (Decided v) e = let x : number_in r.standing ≡ v.request.seq = ap number_in e in other_request v.request k (omega arith)

in_rows : (j : ℕ) (rows : List Row) (row : Row) → row_of rows j ≡ Some row → number_in row.standing ≤ top rows
in_rows j [] row e = absurd (none-some row e)
in_rows j (r ∷ rs) row e = by (r.instance == j) (in_rows j rs row) e
  where
    by : (b : Bool) → (row_of rs j ≡ Some row → number_in row.standing ≤ top rs) → (if b then Some r else row_of rs j) ≡ Some row → number_in row.standing ≤ number_in r.standing + top rs
    by true ih y = let x : number_in r.standing ≡ number_in row.standing = ap (λ (z : Row). number_in z.standing) (same_Some r row y) in omega arith
    by false ih y = let x : number_in row.standing ≤ top rs = ih y in omega arith

not_beside : (k i : ℕ) (s : NodeState) → top s.rows < k → is_estimate_beside s i (numbered k) ≡ false
not_beside k i s l = any_false _ (open_instances s) (λ j. ap (λ z. not (j == i) && z) (by j (row_of s.rows j) refl) ∙ and_false (not (j == i)))
  where
    of_standing : (st : Standing) → number_in st < k → option_map_or (λ v. is_same_command v (numbered k)) (estimate_of (Some st)) false ≡ false
    of_standing (Decided v) m = refl
    of_standing (Open o) m = ap (λ z. z && is_same_op o.estimate.op (numbered k).op) (other_request o.estimate.request k m)

    by : (j : ℕ) (r : Option Row) → row_of s.rows j ≡ r → option_map_or (λ v. is_same_command v (numbered k)) (estimate_of (option_map (λ (x : Row). x.standing) (row_of s.rows j))) false ≡ false
    by j None e = ap (λ z. option_map_or (λ v. is_same_command v (numbered k)) (estimate_of (option_map (λ (x : Row). x.standing) z)) false) e
    by j (Some row) e = ap (λ z. option_map_or (λ v. is_same_command v (numbered k)) (estimate_of (option_map (λ (x : Row). x.standing) z)) false) e ∙ of_standing row.standing (let x : number_in row.standing ≤ top s.rows = in_rows j s.rows row e in omega arith)

-- there is a command that is new to them all
pub new_command : (n : ℕ) (set : ℕ → Bool) (facts : ℕ → List Fact) → (d : Command) × IsNewTo n set facts d
new_command n set facts =
    let b : (b : ℕ) × ((q : ℕ) → q < n → top (opened_over n q (facts q)).rows ≤ b) = bound n (λ q. top (opened_over n q (facts q)).rows) in
    (numbered (b.0 + 1), λ q l y i. let x : top (opened_over n q (facts q)).rows ≤ b.0 = b.1 q l in (not_decided (b.0 + 1) (opened_over n q (facts q)).rows (omega arith), not_beside (b.0 + 1) i (opened_over n q (facts q)) (omega arith)))

-- they have come so far: each has decided all below i, and what was decided is
record Upto (n : ℕ) (set : ℕ → Bool) (facts : ℕ → List Fact) (bound last i : ℕ) : Type 0 where
  kept : ℕ → List Fact
  restarts : CanRestartOver n set None facts kept
  at : AreAt n set bound last i kept
  stays : (k j : ℕ) (v : Command) → k < n → set k ≡ true → standing_of j (facts k) ≡ Some (Decided v) → standing_of j (kept k) ≡ Some (Decided v)

upto_next : (n : ℕ) (set : ℕ → Bool) (facts : ℕ → List Fact) (bound last i : ℕ) → majority_of n ≤ count_below set n → i < last → i < 1048576 → 1 ≤ bound → bound + n ≤ 2147483647 → Upto n set facts bound last i → Upto n set facts bound last (suc i)
upto_next n set facts bound last i enough further small one most U =
    let d : (d : Command) × IsNewTo n set U.kept d = new_command n set U.kept in
    let S : Stepped n set U.kept d.0 i = step n set bound last i U.kept d.0 enough further small one most U.at d.1 in
    let after : (q : ℕ) → (fs : List Fact) × (q < n → set q ≡ true → IsNext n q i S.v (U.kept q) (S.end.state q) fs) = chosen n set (λ q fs. IsNext n q i S.v (U.kept q) (S.end.state q) fs) S.next in
    record {
      kept = λ q. (after q).0;
      restarts = OnceMore U.kept (λ q. (after q).0) d.0 S.end U.restarts (inr d.1) S.goes (λ q l y. ((after q).1 l y).marked);
      at = are_further n set bound last i U.kept (λ q. (after q).0) S.v S.end one U.at (λ q l y. (after q).1 l y);
      stays = λ k j v l y e. elim (cases_eq j i) [
        | inl same ↦ ap (λ z. standing_of z (after k).0) same ∙ ((after k).1 l y).here ∙ ap (λ z. Some (Decided z)) (sym (S.same k v l y (ap (λ z. standing_of z (U.kept k)) (sym same) ∙ U.stays k j v l y e)))
        | inr away ↦ still_decided n set bound last i U.kept (λ q. (after q).0) S.v S.end one U.at (λ q l2 y2. (after q).1 l2 y2) k l y j v away (U.stays k j v l y e)
      ];
    }

upto : (n : ℕ) (set : ℕ → Bool) (facts : ℕ → List Fact) (bound last : ℕ) → majority_of n ≤ count_below set n → last ≤ 1048576 → 1 ≤ bound → bound + n ≤ 2147483647 → ((q : ℕ) → q < n → set q ≡ true → HasRoom n bound last q (facts q)) → AreAgreed n set facts → (i : ℕ) → i ≤ last → Upto n set facts bound last i
upto n set facts bound last enough within one most room agreed zero l = record {
  kept = facts;
  restarts = AsTheyAre;
  at = record { fit = λ q m y. (room q m y).fit; rounds = λ q m y j o x. (room q m y).rounds j o x; below = λ q m y j k. absurd (omega arith); agreed = agreed };
  stays = λ k j v m y e. e;
}
upto n set facts bound last enough within one most room agreed (suc i) l = upto_next n set facts bound last i enough (omega arith) (omega arith) one most (upto n set facts bound last enough within one most room agreed i (omega arith))

-- so they can fill all gaps
pub fill_gaps : GapsCanBeFilled
fill_gaps n set facts bound end enough within one most room agreed =
    let U : Upto n set facts bound end end = upto n set facts bound end enough within one most room agreed end (let z : end ≤ end = omega arith in z) in
    record {
      kept = U.kept;
      restarts = U.restarts;
      fit = U.at.fit;
      are_decided = U.at.below;
      are_kept = λ k q i v m z l y x e.
          let w : (w : Command) × (standing_of i (U.kept q) ≡ Some (Decided w)) = decided_as (standing_of i (U.kept q)) (U.at.below q l y i x) in
          w.1 ∙ ap (λ u. Some (Decided u)) (U.at.agreed i q k w.0 v l y m z w.1 (U.stays k i v m z e));
    }
