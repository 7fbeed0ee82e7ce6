-- The nodes of a majority together: what each can do alone they can do one after another, and so decide in a round.
use Rattle.std.proofs.Common.{◌≡◌, ℕ, ◌≤◌, ◌<◌, ◌⊎◌, inl, inr, zero, suc, Bool, true, false, ◌==◌, List, [], ◌++◌, Contains, Some, refl, ap, sym, ◌∙◌, subst, arith, le_refl}
use Rattle.std.proofs.lemmas.Bool.{false≢true, ne_eqb, cases_lt, cases_eq}
use Rattle.std.proofs.lemmas.Option.{none-some}
use Rattle.rr_types.specs.declared.command.Command.{Command}
use Rattle.rr_types.specs.declared.message.Body.TheVariants as say
use Rattle.rr_types.specs.declared.message.Message.{Message}
use Rattle.rr_types.specs.Rounds.{coordinator_of, majority_of}
use Rattle.rr_model.specs.Lawful.{count_below}
use Rattle.rr_types.specs.declared.command.RequestNo.{RequestNo}
use Rattle.rr_types.specs.Rounds.{Estimated}
use Rattle.rr_model.specs.NodeState.{NodeState, Vote, no_votes}
use Rattle.rr_model.specs.NodeDue.{best_vote}
use Rattle.rr_model.specs.NodeStep.{with_vote}
use Rattle.rr_model.specs.NodeLaws.{after_event}
use Rattle.rr_model.specs.NodeInWorld.{sent_by_event}
use Rattle.rr_model.specs.NodesGoOn.{Cluster, MayHappenAt, after_at, CanGoOn, NotAtAll, ByOneMore}
use Rattle.rr_model.proofs.OneNode.{at_itself}
use Rattle.rr_model.proofs.NodeMoves.{if_false, from_to, estimated, no_pick}
use Rattle.rr_model.proofs.NodeBeyond.{Keeps, keeps_not, keeps_on}
use Rattle.rr_model.proofs.NodeAlone.{Alone, Rests, Does, alone_sent, alone_up, IsUp, Comes, no_event}
use Rattle.rr_model.proofs.NodePhases.{InRound, Made, makes, Hearing, Answered, adopts, Ended, Told, decides, follows}

pub goes_both : (n : ℕ) (set : ℕ → Bool) (c : Command) (g h j : Cluster) → CanGoOn n set c g h → CanGoOn n set c h j → CanGoOn n set c g j
goes_both n set c g h _ a NotAtAll = a
goes_both n set c g h _ a (ByOneMore j p e b l y m) = ByOneMore j p e (goes_both n set c g h j a b) l y m

-- the others stay as they were
abbrev pub Beside : ℕ → Cluster → Cluster → Type 0
Beside p g h = (q : ℕ) → (q ≡ p → ⊥) → h.state q ≡ g.state q

-- what a node does alone, the nodes do
record Lifted (n : ℕ) (set : ℕ → Bool) (c : Command) (g : Cluster) (p : ℕ) (t : NodeState) (v : List Message) : Type 0 where
  end : Cluster
  goes : CanGoOn n set c g end
  here : end.state p ≡ t
  sent : end.sent ≡ v
  beside : Beside p g end

lift : (n : ℕ) (set : ℕ → Bool) (c : Command) (g : Cluster) (p : ℕ) → p < n → set p ≡ true → (t : NodeState) (v : List Message) → Alone n p c (g.state p) g.sent t v → Lifted n set c g p t v
lift n set c g p l y _ _ Rests = record { end = g; goes = NotAtAll; here = refl; sent = refl; beside = λ q other. refl }
lift n set c g p l y _ _ (Does t v e a m r) =
    let L : Lifted n set c g p t v = lift n set c g p l y t v a in
    let h : Cluster = L.end in
    record {
      end = after_at p e h;
      goes = ByOneMore h p e L.goes l y (subst (λ z. MayHappenAt h.sent c z e) (sym L.here) (subst (λ z. MayHappenAt z c t e) (sym L.sent) m));
      here = at_itself h.state p (after_event (h.state p) e) ∙ ap (λ z. after_event z e) L.here;
      sent = ap (λ z. z ++ sent_by_event (h.state p) e) L.sent ∙ ap (λ z. v ++ sent_by_event z e) L.here;
      beside = λ q other. if_false (q == p) (after_event (h.state p) e) (h.state q) (ne_eqb q p other) ∙ L.beside q other;
    }

-- what holds of a node and the messages sent holds still when more were sent
abbrev pub Lasts : (ℕ → NodeState → List Message → Type 0) → Type 0
Lasts P = (q : ℕ) (s : NodeState) (w v : List Message) → ((m : Message) → Contains w m → Contains v m) → P q s w → P q s v

-- each node of the set is of a kind
abbrev pub Each : ℕ → (ℕ → Bool) → (ℕ → NodeState → List Message → Type 0) → Cluster → Type 0
Each n set P g = (q : ℕ) → q < n → set q ≡ true → P q (g.state q) g.sent

-- each was reached over facts that fit
abbrev pub AreUp : ℕ → (ℕ → Bool) → Cluster → Type 0
AreUp n set g = (q : ℕ) → q < n → set q ≡ true → IsUp n q (g.state q)

-- the nodes can go on to others of a kind, and each is still up
pub record Leads (i r : ℕ) (calm : ℕ → Type 0) (n : ℕ) (set : ℕ → Bool) (c : Command) (g : Cluster) (Goal : Cluster → Type 0) : Type 0 where
  pub end : Cluster
  pub goes : CanGoOn n set c g end
  pub up : AreUp n set end
  pub keeps : (q : ℕ) → q < n → set q ≡ true → Keeps i r (calm q) (g.state q) (end.state q)
  pub goal : Goal end

pub and_so : (i r : ℕ) (calm : ℕ → Type 0) (n : ℕ) (set : ℕ → Bool) (c : Command) (g : Cluster) (P Q : Cluster → Type 0) → Leads i r calm n set c g P → ((h : Cluster) → AreUp n set h → P h → Leads i r calm n set c h Q) → Leads i r calm n set c g Q
and_so i r calm n set c g P Q a f =
    let b : Leads i r calm n set c a.end Q = f a.end a.up a.goal in
    record { end = b.end; goes = goes_both n set c g a.end b.end a.goes b.goes; up = b.up; keeps = λ q l y. keeps_on i r (calm q) (g.state q) (a.end.state q) (b.end.state q) (a.keeps q l y) (b.keeps q l y); goal = b.goal }

module _ (i r : ℕ) (calm : ℕ → Type 0) (n : ℕ) (set : ℕ → Bool) (c : Command) where
  -- one node goes on alone
  pub at_one : (g : Cluster) (p : ℕ) (Goal : NodeState → List Message → Type 0) → p < n → set p ≡ true → AreUp n set g → Comes i r calm n p c (g.state p) g.sent Goal → Leads i r calm n set c g (λ h. Goal (h.state p) h.sent × Beside p g h × ((m : Message) → Contains g.sent m → Contains h.sent m))
  at_one g p Goal l y U C =
      let L : Lifted n set c g p C.to C.sent = lift n set c g p l y C.to C.sent C.alone in
      let up : IsUp n p C.to = alone_up n p c (g.state p) g.sent C.to C.sent C.alone (U p l y) in
      record {
        end = L.end;
        goes = L.goes;
        up = λ q m x. elim (cases_eq q p) [
          | inl e ↦ subst (λ z. IsUp n z (L.end.state z)) (sym e) (subst (IsUp n p) (sym L.here) up)
          | inr other ↦ subst (IsUp n q) (sym (L.beside q other)) (U q m x)
        ];
        keeps = λ q m x. elim (cases_eq q p) [
          | inl e ↦ subst (λ z. Keeps i r (calm z) (g.state z) (L.end.state z)) (sym e) (subst (Keeps i r (calm p) (g.state p)) (sym L.here) C.keeps)
          | inr other ↦ subst (Keeps i r (calm q) (g.state q)) (sym (L.beside q other)) (keeps_not i r (calm q) (g.state q))
        ];
        goal = (
          subst (Goal (L.end.state p)) (sym L.sent) (subst (λ z. Goal z C.sent) (sym L.here) C.goal),
          L.beside,
          λ m x. subst (λ z. Contains z m) (sym L.sent) (alone_sent n p c (g.state p) g.sent C.to C.sent C.alone m x),
        );
      }

  module _ (P Q : ℕ → NodeState → List Message → Type 0) (lastsP : Lasts P) (lastsQ : Lasts Q) (go : (q : ℕ) → q < n → set q ≡ true → (s : NodeState) (w : List Message) → P q s w → Comes i r calm n q c s w (Q q)) where
    -- those below m have gone on
    abbrev GoneBelow : ℕ → Cluster → Type 0
    GoneBelow m h = ((q : ℕ) → q < m → q < n → set q ≡ true → Q q (h.state q) h.sent) × ((q : ℕ) → m ≤ q → q < n → set q ≡ true → P q (h.state q) h.sent)

    one_more_gone : (m : ℕ) → m < n → (h : Cluster) → AreUp n set h → GoneBelow m h → Leads i r calm n set c h (GoneBelow (suc m))
    one_more_gone m l h U G = by (set m) refl
      where
        by : (b : Bool) → set m ≡ b → Leads i r calm n set c h (GoneBelow (suc m))
        by false e = record {
          end = h;
          goes = NotAtAll;
          up = U;
          keeps = λ q x y. keeps_not i r (calm q) (h.state q);
          goal = (
            λ q x k y. elim (cases_lt q m) [
              | inl z ↦ G.0 q z k y
              | inr z ↦ (let same : q ≡ m = omega arith in absurd (false≢true (sym e ∙ subst (λ j. set j ≡ true) same y)))
            ],
            λ q x k y. G.1 q (omega arith) k y,
          );
        }
        by true e =
            let A : Leads i r calm n set c h (λ j. Q m (j.state m) j.sent × Beside m h j × ((x : Message) → Contains h.sent x → Contains j.sent x)) = at_one h m (Q m) l e U (go m l e (h.state m) h.sent (G.1 m (le_refl m) l e)) in
            let j : Cluster = A.end in
            record {
              end = j;
              goes = A.goes;
              up = A.up;
              keeps = A.keeps;
              goal = (
                λ q x k y. elim (cases_lt q m) [
                  | inl z ↦ subst (λ s. Q q s j.sent) (sym (A.goal.1 q (λ same. omega arith))) (lastsQ q (h.state q) h.sent j.sent A.goal.2 (G.0 q z k y))
                  | inr z ↦ (let same : q ≡ m = omega arith in subst (λ i. Q i (j.state i) j.sent) (sym same) A.goal.0)
                ],
                λ q x k y. subst (λ s. P q s j.sent) (sym (A.goal.1 q (λ same. omega arith))) (lastsP q (h.state q) h.sent j.sent A.goal.2 (G.1 q (omega arith) k y)),
              );
            }

    all_gone : (m : ℕ) → m ≤ n → (g : Cluster) → AreUp n set g → Each n set P g → Leads i r calm n set c g (GoneBelow m)
    all_gone zero l g U E = record { end = g; goes = NotAtAll; up = U; keeps = λ q x y. keeps_not i r (calm q) (g.state q); goal = (λ q x k y. absurd (omega arith), λ q x k y. E q k y) }
    all_gone (suc m) l g U E = and_so i r calm n set c g (GoneBelow m) (GoneBelow (suc m)) (all_gone m (omega arith) g U E) (λ h V G. one_more_gone m (omega arith) h V G)

    -- each can go on, one after another
    pub phase : (g : Cluster) → AreUp n set g → Each n set P g → Leads i r calm n set c g (Each n set Q)
    phase g U E = let A : Leads i r calm n set c g (GoneBelow n) = all_gone n (le_refl n) g U E in record { end = A.end; goes = A.goes; up = A.up; keeps = A.keeps; goal = λ q k y. A.goal.0 q k k y }

-- a round in which instance i can be decided by the nodes of a majority, of which k is its coordinator
module _ (n i k r : ℕ) (c : Command) (held : List RequestNo) (calm : ℕ → Type 0) (Fair : ℕ → Estimated → Type 0) (Ok : Command → Type 0) (small : i < 1048576) (above : 0 < r) (coordinates : coordinator_of r n ≡ k) (set : ℕ → Bool) (enough : majority_of n ≤ count_below set n) (exists : k < n) (member : set k ≡ true)
    (never : calm k → ⊥)
    (Counted : ℕ → List Vote → Type 0)
    (none : Counted 0 [])
    (more : (m : ℕ) (e : Estimated) (es : List Vote) → set m ≡ true → Fair m e → Counted m es → Counted (suc m) (with_vote (record { sender = m; stamp = e.stamp; command = e.command }) es))
    (skip : (m : ℕ) (es : List Vote) → set m ≡ false → Counted m es → Counted (suc m) es)
    (picks : (m : ℕ) (es : List Vote) (b : Vote) → Counted m es → best_vote es ≡ Some b → Ok b.command) where
  abbrev pub Entered : ℕ → NodeState → List Message → Type 0
  Entered q s w = InRound n i k r c held calm Fair Ok small above coordinates q s w

  abbrev pub About : Command → ℕ → NodeState → List Message → Type 0
  About v q s w = Hearing n i k r c held calm Fair Ok small above coordinates v q s × Contains w (from_to k q (say.Proposal i r v))

  abbrev pub Behind : Command → ℕ → NodeState → List Message → Type 0
  Behind v q s w = Answered n i k r c held calm Fair Ok small above coordinates v q s w

  abbrev pub Gone : Command → ℕ → NodeState → List Message → Type 0
  Gone v q s w = Ended n i k r c held calm Fair Ok small above coordinates v q s

  abbrev pub Proposes : NodeState → List Message → Type 0
  Proposes s w = Made n i k r c held calm Fair Ok small above coordinates s w

  abbrev pub Tells : Command → NodeState → List Message → Type 0
  Tells v s w = Told n i k r c held calm Fair Ok small above coordinates v s w

  About_lasts : (v : Command) → Lasts (About v)
  About_lasts v q s w x f A = (A.0, f _ A.1)

  Behind_lasts : (v : Command) → Lasts (Behind v)
  Behind_lasts v q s w x f A = record { o = A.o; t = A.t; sits = A.sits; round = A.round; acks = A.acks; nacks = A.nacks; own = A.own; estimate = A.estimate; said = f _ A.said; waits = A.waits }

  hearing_own : (s : NodeState) (w : List Message) → (M : Proposes s w) → Hearing n i k r c held calm Fair Ok small above coordinates M.v k s
  hearing_own s w M = record {
    o = M.o;
    t = M.t;
    sits = M.sits;
    round = M.round;
    stamp = M.stamp;
    acks = M.acks;
    nacks = M.nacks;
    lacks = λ none. absurd (none-some M.v (sym none ∙ M.made));
    own = λ e. M.made;
    waits = M.waits;
  }

  hearing_other : (v : Command) (q : ℕ) (s : NodeState) (w : List Message) → (q ≡ k → ⊥) → Entered q s w → Hearing n i k r c held calm Fair Ok small above coordinates v q s
  hearing_other v q s w other I = record {
    o = I.o;
    t = no_votes;
    sits = I.sits;
    round = I.round;
    stamp = I.stamp;
    acks = refl;
    nacks = refl;
    lacks = λ none. no_pick n;
    own = λ e. absurd (other e);
    waits = I.waits;
  }

  -- a node that has decided, or one that may hear of it
  abbrev pub Ending : Command → ℕ → NodeState → List Message → Type 0
  Ending v q s w = Ended n i k r c held calm Fair Ok small above coordinates v q s ⊎ (Answered n i k r c held calm Fair Ok small above coordinates v q s w × Contains w (from_to k q (say.Decision i v)))

  Ending_lasts : (v : Command) → Lasts (Ending v)
  Ending_lasts v q s w x f (inl a) = inl a
  Ending_lasts v q s w x f (inr (A, said)) = inr (record { o = A.o; t = A.t; sits = A.sits; round = A.round; acks = A.acks; nacks = A.nacks; own = A.own; estimate = A.estimate; said = f _ A.said; waits = A.waits }, f _ said)

  Gone_lasts : (v : Command) → Lasts (Gone v)
  Gone_lasts v q s w x f A = A

  ends : (v : Command) (q : ℕ) → q < n → set q ≡ true → (s : NodeState) (w : List Message) → Ending v q s w → Comes i r calm n q c s w (Gone v q)
  ends v q l y s w (inl a) = no_event i r calm n q c s w (λ u x. Ended n i k r c held calm Fair Ok small above coordinates v q u) a
  ends v q l y s w (inr (A, said)) = follows n i k r c held calm Fair Ok small above coordinates v q s w exists said A

  answers : (v : Command) (q : ℕ) → q < n → set q ≡ true → (s : NodeState) (w : List Message) → About v q s w → Comes i r calm n q c s w (Behind v q)
  answers v q l y s w A = adopts n i k r c held calm Fair Ok small above coordinates v q s w exists A.1 A.0

  -- the nodes have all decided one command
  abbrev pub AllGone : Cluster → Type 0
  AllGone h = (v : Command) × Ok v × ((q : ℕ) → q < n → set q ≡ true → Ended n i k r c held calm Fair Ok small above coordinates v q (h.state q))

  last_phase : (v : Command) → Ok v → (g : Cluster) → AreUp n set g → Each n set (Ending v) g → Leads i r calm n set c g AllGone
  last_phase v ok g U E =
      let A : Leads i r calm n set c g (Each n set (Gone v)) = phase i r calm n set c (Ending v) (Gone v) (Ending_lasts v) (Gone_lasts v) (ends v) g U E in
      record { end = A.end; goes = A.goes; up = A.up; keeps = A.keeps; goal = (v, ok, A.goal) }

  decide_phase : (v : Command) → Ok v → (g : Cluster) → AreUp n set g → Each n set (Behind v) g → Leads i r calm n set c g AllGone
  decide_phase v ok g U E = and_so i r calm n set c g _ AllGone
      (at_one i r calm n set c g k (Tells v) exists member U (decides n i k r c held calm Fair Ok small above coordinates v set never (g.state k) g.sent enough (λ q l y. (E q l y).said) (E k exists member)))
      (λ h V T. last_phase v ok h V (λ q l y. elim (cases_eq q k) [
        | inl e ↦ inl (subst (λ z. Ended n i k r c held calm Fair Ok small above coordinates v z (h.state z)) (sym e) T.0.ended)
        | inr other ↦ inr (subst (λ s. Answered n i k r c held calm Fair Ok small above coordinates v q s h.sent) (sym (T.1 q other)) (Behind_lasts v q (g.state q) g.sent h.sent T.2 (E q l y)), T.0.said q l other)
      ]))

  adopt_phase : (v : Command) → Ok v → (g : Cluster) → AreUp n set g → Each n set (About v) g → Leads i r calm n set c g AllGone
  adopt_phase v ok g U E = and_so i r calm n set c g _ AllGone (phase i r calm n set c (About v) (Behind v) (About_lasts v) (Behind_lasts v) (answers v) g U E) (λ h V F. decide_phase v ok h V F)

  -- from the round on they can
  pub from_round : (g : Cluster) → AreUp n set g → Each n set Entered g → Leads i r calm n set c g AllGone
  from_round g U E = and_so i r calm n set c g _ AllGone
      (at_one i r calm n set c g k Proposes exists member U (makes n i k r c held calm Fair Ok small above coordinates set never Counted none more skip picks (g.state k) g.sent enough (λ q l y. (estimated r (E q l y).o, refl, (E q l y).ok, (E q l y).said)) (E k exists member)))
      (λ h V M. adopt_phase M.0.v M.0.ok h V (λ q l y. elim (cases_eq q k) [
        | inl e ↦ (subst (λ z. Hearing n i k r c held calm Fair Ok small above coordinates M.0.v z (h.state z)) (sym e) (hearing_own (h.state k) h.sent M.0), M.0.said q l)
        | inr other ↦ (subst (λ s. Hearing n i k r c held calm Fair Ok small above coordinates M.0.v q s) (sym (M.1 q other)) (hearing_other M.0.v q (g.state q) g.sent other (E q l y)), M.0.said q l)
      ]))

  -- and so they can from before it, where each can enter it
  Entered_lasts : Lasts Entered
  Entered_lasts q s w x f I = record { o = I.o; sits = I.sits; round = I.round; stamp = I.stamp; none = I.none; ok = I.ok; said = f _ I.said; waits = I.waits }

  pub from_before : (g : Cluster) → AreUp n set g → ((q : ℕ) → q < n → set q ≡ true → (w : List Message) → Comes i r calm n q c (g.state q) w (λ u x. InRound n i k r c held calm Fair Ok small above coordinates q u x)) → Leads i r calm n set c g AllGone
  from_before g U enter = and_so i r calm n set c g _ AllGone
      (phase i r calm n set c (λ q s w. s ≡ g.state q) Entered (λ q s w x f e. e) Entered_lasts (λ q l y s w e. subst (λ z. Comes i r calm n q c z w (Entered q)) (sym e) (enter q l y w)) g U (λ q l y. refl))
      (λ h V E. from_round h V E)
