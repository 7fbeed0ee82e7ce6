-- Nodes go on with an instance where nobody submits anything, and those that have no fact of one begin it with a command.
use Rattle.std.proofs.Common.{◌≡◌, ℕ, ◌+◌, ◌-◌, ◌≤◌, ◌<◌, ◌⊎◌, inl, inr, suc, Bool, true, false, List, [], length, Option, None, Some, refl, ap, sym, ◌∙◌, subst, arith}
use Rattle.std.proofs.lemmas.Bool.{false≢true, cases_eq}
use Rattle.rr_types.specs.declared.command.Command.{Command}
use Rattle.rr_types.specs.declared.fact.Fact.{Fact}
use Rattle.rr_types.specs.declared.message.Message.{Message}
use Rattle.rr_types.specs.declared.promise.Standing.{Standing}
use Rattle.rr_types.specs.declared.promise.Standing.TheVariants.{Decided, Open}
use Rattle.rr_types.specs.Facts.{standing_of}
use Rattle.rr_types.specs.Promises.{promise_of, all_fit}
use Rattle.rr_types.specs.Rounds.{Estimated, OpenAt, coordinator_of, majority_of}
use Rattle.rr_types.specs.Standings.{is_undecided}
use Rattle.rr_model.specs.Lawful.{count_below}
use Rattle.rr_model.specs.World.{nothing_heard}
use Rattle.rr_model.specs.NodeState.{NodeState, Vote, no_votes, row_of, standing_at}
use Rattle.rr_model.specs.NodeDue.{best_vote}
use Rattle.rr_model.specs.NodeStep.{with_vote}
use Rattle.rr_model.specs.NodeReached.{Opened, opened_over}
use Rattle.rr_model.specs.NodesGoOn.{Cluster, restarted}
use Rattle.rr_model.specs.NodesRestart.{HasMarked}
use Rattle.rr_model.proofs.NodeReached.{reached_knows}
use Rattle.rr_model.proofs.NodeSteady.{started_stays}
use Rattle.rr_model.proofs.NodeMoves.{Sits, standing_first, estimated}
use Rattle.rr_model.proofs.NodeBeyond.{at_first, Calm, restless}
use Rattle.rr_model.proofs.NodeAlone.{IsUp, Comes, no_event}
use Rattle.rr_model.proofs.NodePhases.{InRound, Ended, enters_round}
use Rattle.rr_model.proofs.NodesTogether.{AreUp, Each, Leads, phase, from_before}
use Rattle.rr_model.proofs.NodeRestates.{started_same}
use Rattle.rr_model.proofs.NodeBegins.{IsBlank, BegunAlone, begins_alone}
use Rattle.rr_model.proofs.NodesDecide.{RoundFor, round_for, opened_at, opened_round, opened_knowing, HasDecided}
use Rattle.rr_model.proofs.NodesPassOn.{pass_on}
use Rattle.rr_model.proofs.NodesFill.{Kept, what_is_kept, promised_tally, opened_quiet, NoneHas, AreAt}

pub says_opened : (n q : ℕ) (facts : List Fact) → all_fit n q [] facts ≡ true → (j : ℕ) → standing_at (opened_over n q facts) j ≡ standing_of j facts
says_opened n q facts fit j = (reached_knows n q facts nothing_heard (opened_over n q facts) (Opened facts fit)).standings j

pub opened_marked : (n q : ℕ) (facts : List Fact) → HasMarked facts (opened_over n q facts)
opened_marked n q facts = ((started_stays n q (promise_of facts) (length facts)).marked, (started_stays n q (promise_of facts) (length facts)).marked_end)

pub opened_up : (n q : ℕ) (facts : List Fact) → all_fit n q [] facts ≡ true → IsUp n q (opened_over n q facts)
opened_up n q facts fit = (facts, nothing_heard, Opened facts fit)

pub opened_calm : (n q i r : ℕ) (facts : List Fact) → Calm i r (opened_over n q facts)
opened_calm n q i r facts = record {
  quiet = λ row e. promised_tally (length facts) i (promise_of facts) row (ap (λ z. row_of z i) (sym (started_same n q (promise_of facts) (length facts)).0) ∙ e);
  pool = inl (started_same n q (promise_of facts) (length facts)).1;
}

-- some nodes begin an instance, and the others do nothing
module _ (n : ℕ) (set : ℕ → Bool) (i : ℕ) (facts : ℕ → List Fact) (d : Command) (tells : ℕ → Bool) (small : i < 1048576) (fit : (q : ℕ) → q < n → set q ≡ true → all_fit n q [] (facts q) ≡ true) (can : (q : ℕ) → q < n → set q ≡ true → tells q ≡ true → IsBlank i q n d (opened_over n q (facts q))) where
  abbrev pub HasBegun : ℕ → NodeState → Type 0
  HasBegun q t = ((tells q ≡ true) × BegunAlone i d (opened_over n q (facts q)) t) ⊎ ((tells q ≡ false) × (t ≡ opened_over n q (facts q)))

  begin_one : (q : ℕ) → q < n → set q ≡ true → (w : List Message) → (b : Bool) → tells q ≡ b → Comes i 0 restless n q d (opened_over n q (facts q)) w (λ t v. HasBegun q t)
  begin_one q l y w true e =
      let C : Comes i 0 restless n q d (opened_over n q (facts q)) w (λ t v. BegunAlone i d (opened_over n q (facts q)) t) = begins_alone i q n d (opened_over n q (facts q)) w small (can q l y e) (opened_quiet n q i (facts q)) in
      record { to = C.to; sent = C.sent; alone = C.alone; keeps = C.keeps; goal = inl (e, C.goal) }
  begin_one q l y w false e = no_event i 0 restless n q d (opened_over n q (facts q)) w (λ t v. HasBegun q t) (inr (e, refl))

  pub begin_all : Leads i 0 restless n set d (restarted n facts) (Each n set (λ q t v. HasBegun q t))
  begin_all =
      phase i 0 restless n set d (λ q s w. s ≡ opened_over n q (facts q)) (λ q t v. HasBegun q t) (λ q s w x f e. e) (λ q s w x f e. e)
      (λ q l y s w e. subst (λ z. Comes i 0 restless n q d z w (λ t v. HasBegun q t)) (sym e) (begin_one q l y w (tells q) refl))
      (restarted n facts) (λ q l y. opened_up n q (facts q) (fit q l y)) (λ q l y. refl)

-- what a node keeps then
pub record BegunNext (n q i : ℕ) (d : Command) (facts : List Fact) (s : NodeState) (told : Bool) (after : List Fact) : Type 0 where
  pub marked : HasMarked after s
  pub fit : all_fit n q [] after ≡ true
  pub here : told ≡ true → standing_of i after ≡ Some (Open (at_first d))
  pub others : (j : ℕ) → (told ≡ true → j ≡ i → ⊥) → standing_of j after ≡ standing_of j facts

pub begun_next : (n q i : ℕ) (d : Command) (facts : List Fact) (s : NodeState) (told : Bool) → all_fit n q [] facts ≡ true → IsUp n q s → ((told ≡ true) × BegunAlone i d (opened_over n q facts) s) ⊎ ((told ≡ false) × (s ≡ opened_over n q facts)) → (after : List Fact) × BegunNext n q i d facts s told after
begun_next n q i d facts s told fit U (inl (x, B)) =
    let K : Kept n q s = what_is_kept n q s U B.running B.staged in
    (K.facts, record { marked = K.marked; fit = K.fit; here = λ t. K.says i ∙ B.here; others = λ j away. K.says j ∙ B.others j (away x) ∙ says_opened n q facts fit j })
begun_next n q i d facts s told fit U (inr (x, e)) =
    (facts, record { marked = subst (HasMarked facts) (sym e) (opened_marked n q facts); fit = fit; here = λ t. absurd (false≢true (sym x ∙ t)); others = λ j away. refl })

-- where they stand then
module _ (n : ℕ) (set : ℕ → Bool) (bound last i : ℕ) (facts after : ℕ → List Fact) (d : Command) (end : Cluster) (tells : ℕ → Bool) (one : 1 ≤ bound) (A : AreAt n set bound last i facts) (N : (q : ℕ) → q < n → set q ≡ true → BegunNext n q i d (facts q) (end.state q) (tells q) (after q)) where
  abbrev pub View : ℕ → ℕ → Type 0
  View q j = (standing_of j (after q) ≡ standing_of j (facts q)) ⊎ ((standing_of j (after q) ≡ Some (Open (at_first d))) × (j ≡ i) × (tells q ≡ true))

  pub view : (q : ℕ) → q < n → set q ≡ true → (j : ℕ) → View q j
  view q l y j = by (tells q) refl
    where
      by : (b : Bool) → tells q ≡ b → View q j
      by false e = inl ((N q l y).others j (λ x. absurd (false≢true (sym e ∙ x))))
      by true e = elim (cases_eq j i) [
        | inl same ↦ inr (ap (λ z. standing_of z (after q)) same ∙ (N q l y).here e, same, e)
        | inr away ↦ inl ((N q l y).others j (λ x z. away z))
      ]

  was_decided : (q : ℕ) → q < n → set q ≡ true → (j : ℕ) (v : Command) → standing_of j (after q) ≡ Some (Decided v) → standing_of j (facts q) ≡ Some (Decided v)
  was_decided q l y j v e = by (view q l y j)
    where
      by : View q j → standing_of j (facts q) ≡ Some (Decided v)
      by (inl a) = sym a ∙ e
      by (inr a) = absurd (false≢true (sym (ap is_undecided (sym a.0 ∙ e))))

  pub are_begun : AreAt n set bound last i after
  are_begun = record {
    fit = λ q l y. (N q l y).fit;
    rounds = λ q l y j o x e. bounded q l y j o x e (view q l y j);
    below = λ q l y j m. lower q l y j m (view q l y j);
    agreed = λ j q k a b l y m z e f. A.agreed j q k a b l y m z (was_decided q l y j a e) (was_decided k m z j b f);
  }
    where
      open_same : (x z : OpenAt) → Some (Open x) ≡ Some (Open z) → x ≡ z
      open_same x z h = cc

      bounded : (q : ℕ) → q < n → set q ≡ true → (j : ℕ) (o : OpenAt) → j < last → standing_of j (after q) ≡ Some (Open o) → View q j → o.round ≤ bound
      bounded q l y j o x e (inl a) = A.rounds q l y j o x (sym a ∙ e)
      bounded q l y j o x e (inr a) = subst (λ (z : OpenAt). z.round ≤ bound) (open_same (at_first d) o (sym a.0 ∙ e)) one

      lower : (q : ℕ) → q < n → set q ≡ true → (j : ℕ) → j < i → View q j → is_undecided (standing_of j (after q)) ≡ false
      lower q l y j m (inl a) = ap is_undecided a ∙ A.below q l y j m
      lower q l y j m (inr a) = let same : j ≡ i = a.1 in absurd (omega arith)

-- a restarted node enters a round of an instance that is open at it, where nobody submits anything
idle_enters : (n i k r : ℕ) (c : Command) (calm : ℕ → Type 0) (Fair : ℕ → Estimated → Type 0) (Ok : Command → Type 0) (small : i < 1048576) (positive : 0 < r) (coordinates : coordinator_of r n ≡ k) → r ≤ 2147483647 → (q : ℕ) (facts : List Fact) → all_fit n q [] facts ≡ true → ((j : ℕ) → j < i → is_undecided (standing_of j facts) ≡ false) → (o : OpenAt) → standing_of i facts ≡ Some (Open o) → o.round < r → Fair q (estimated r o) → (w : List Message) → Comes i r calm n q c (opened_over n q facts) w (InRound n i k r c [] calm Fair Ok small positive coordinates q)
idle_enters n i k r c calm Fair Ok small positive coordinates within q facts fit below o e further fair w =
    let S : Sits i q n (Open o) no_votes (opened_over n q facts) = opened_at n q facts i (Open o) below e in
    let x : (o.stamp ≤ o.round) × (0 < o.round) = opened_round n q facts i o (Opened facts fit) (standing_first i (Open o) no_votes (opened_over n q facts) S.row) in
    enters_round n i k r c [] calm Fair Ok small positive coordinates q (r - o.round - 1) o no_votes (opened_over n q facts) w S x.0 x.1 (omega arith) within fair (started_same n q (promise_of facts) (length facts)).2.waiting

-- a node that stands open at the instance
abbrev IsOpen : ℕ → List Fact → Type 0
IsOpen i facts = (o : OpenAt) × (standing_of i facts ≡ Some (Open o))

open_if : (i : ℕ) (facts : List Fact) → (standing_of i facts ≡ None → ⊥) → is_undecided (standing_of i facts) ≡ true → IsOpen i facts
open_if i facts some u = by (standing_of i facts) refl u
  where
    by : (o : Option Standing) → standing_of i facts ≡ o → is_undecided o ≡ true → IsOpen i facts
    by None e x = absurd (some e)
    by (Some (Open o)) e x = (o, e)
    by (Some (Decided v)) e x = absurd (false≢true x)

-- the nodes of the set where each has decided all below i, and none that is undecided there is new to i
module _ (n : ℕ) (set : ℕ → Bool) (bound last i : ℕ) (facts : ℕ → List Fact) (d : Command) (calm : ℕ → Type 0) (enough : majority_of n ≤ count_below set n) (further : i < last) (small : i < 1048576) (most : bound + n ≤ 2147483647) (A : AreAt n set bound last i facts) (some : (q : ℕ) → q < n → set q ≡ true → standing_of i (facts q) ≡ None → ⊥) where
  up_of : (part : ℕ → Bool) → ((q : ℕ) → part q ≡ true → set q ≡ true) → AreUp n part (restarted n facts)
  up_of part of q l y = opened_up n q (facts q) (A.fit q l (of q y))

  -- none has decided it: they can
  module _ (Fair : ℕ → Estimated → Type 0) (Ok : Command → Type 0) (k : ℕ) (exists : k < n) (member : set k ≡ true) (never : calm k → ⊥) (none : NoneHas n set facts i)
      (fair : (r q : ℕ) → q < n → set q ≡ true → (o : OpenAt) → standing_of i (facts q) ≡ Some (Open o) → Fair q (estimated r o))
      (Counted : ℕ → List Vote → Type 0)
      (nothing : Counted 0 [])
      (more : (m : ℕ) (e : Estimated) (es : List Vote) → set m ≡ true → Fair m e → Counted m es → Counted (suc m) (with_vote (record { sender = m; stamp = e.stamp; command = e.command }) es))
      (skip : (m : ℕ) (es : List Vote) → set m ≡ false → Counted m es → Counted (suc m) es)
      (picks : (m : ℕ) (es : List Vote) (b : Vote) → Counted m es → best_vote es ≡ Some b → Ok b.command) where
    abbrev pub AllOk : Cluster → Type 0
    AllOk h = (v : Command) × Ok v × ((q : ℕ) → q < n → set q ≡ true → HasDecided i v (h.state q))

    idle_in : (r : ℕ) → bound < r → 0 < r → r ≤ 2147483647 → coordinator_of r n ≡ k → Leads i r calm n set d (restarted n facts) AllOk
    idle_in r above positive within coordinates =
        let L : Leads i r calm n set d (restarted n facts) (λ h. (v : Command) × Ok v × ((q : ℕ) → q < n → set q ≡ true → Ended n i k r d [] calm Fair Ok small positive coordinates v q (h.state q))) =
        from_before n i k r d [] calm Fair Ok small positive coordinates set enough exists member never Counted nothing more skip picks (restarted n facts) (up_of set (λ q y. y))
        (λ q l y w. let o : IsOpen i (facts q) = open_if i (facts q) (some q l y) (none q l y) in let b : o.0.round ≤ bound = A.rounds q l y i o.0 further o.1 in
        idle_enters n i k r d calm Fair Ok small positive coordinates within q (facts q) (A.fit q l y) (A.below q l y) o.0 o.1 (omega arith) (fair r q l y o.0 o.1) w) in
        record {
          end = L.end;
          goes = L.goes;
          up = L.up;
          keeps = L.keeps;
          goal = (L.goal.0, L.goal.1, λ q l y. let E : Ended n i k r d [] calm Fair Ok small positive coordinates L.goal.0 q (L.end.state q) = L.goal.2 q l y in record { running = E.running; staged = E.staged; stands = standing_first i (Decided L.goal.0) E.t (L.end.state q) E.sits.row });
        }

    pub idle_decide : (r : ℕ) × Leads i r calm n set d (restarted n facts) AllOk
    idle_decide =
        let r : RoundFor n bound k = round_for n bound k exists in
        let above : bound < r.0 = r.1 in
        let within : r.0 ≤ bound + n = r.2 in
        (r.0, idle_in r.0 above (omega arith) (omega arith) r.3)

  -- node k has, and others of a part of the set learn of it
  module _ (k : ℕ) (exists : k < n) (member : set k ≡ true) (v : Command) (at : standing_of i (facts k) ≡ Some (Decided v)) (part : ℕ → Bool) (of : (q : ℕ) → part q ≡ true → set q ≡ true) (told : part k ≡ true) (lacks : (q : ℕ) → q < n → part q ≡ true → (q ≡ k → ⊥) → is_undecided (standing_of i (facts q)) ≡ true) where
    learn_in : (r : ℕ) → bound < r → 0 < r → r ≤ 2147483647 → coordinator_of r n ≡ k → Leads i r calm n part d (restarted n facts) (λ h. (q : ℕ) → q < n → part q ≡ true → HasDecided i v (h.state q))
    learn_in r above positive within coordinates =
        pass_on n part d i k r [] calm v small positive coordinates exists told (restarted n facts) (up_of part of) (opened_knowing n k (facts k) i v (A.below k exists member) at)
        (λ q l y other w. let o : IsOpen i (facts q) = open_if i (facts q) (some q l (of q y)) (lacks q l y other) in let b : o.0.round ≤ bound = A.rounds q l (of q y) i o.0 further o.1 in
        idle_enters n i k r d calm (λ p e. Unit {0}) (λ z. Unit {0}) small positive coordinates within q (facts q) (A.fit q l (of q y)) (A.below q l (of q y)) o.0 o.1 (omega arith) tt w)

    pub idle_learn : (r : ℕ) × Leads i r calm n part d (restarted n facts) (λ h. (q : ℕ) → q < n → part q ≡ true → HasDecided i v (h.state q))
    idle_learn =
        let r : RoundFor n bound k = round_for n bound k exists in
        let above : bound < r.0 = r.1 in
        let within : r.0 ≤ bound + n = r.2 in
        (r.0, learn_in r.0 above (omega arith) (omega arith) r.3)
