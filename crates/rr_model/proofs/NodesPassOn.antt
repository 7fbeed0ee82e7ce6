-- Where a node has decided an instance, the others of a set can decide the same.
use Rattle.std.proofs.Common.{◌≡◌, ℕ, ◌+◌, ◌≤◌, ◌<◌, ◌⊎◌, inl, inr, Bool, true, false, List, [], ◌∷◌, Contains, Some, refl, ap, sym, ◌∙◌, subst, arith}
use Rattle.std.proofs.lemmas.Bool.{cases_eq}
use Rattle.rr_types.specs.declared.command.Command.{Command}
use Rattle.rr_types.specs.declared.command.RequestNo.{RequestNo}
use Rattle.rr_types.specs.declared.fact.Fact.{Fact}
use Rattle.rr_types.specs.declared.message.Body.TheVariants as say
use Rattle.rr_types.specs.declared.message.Message.{Message}
use Rattle.rr_types.specs.declared.promise.Standing.TheVariants.{Decided}
use Rattle.rr_types.specs.Facts.{standing_of}
use Rattle.rr_types.specs.Promises.{all_fit}
use Rattle.rr_types.specs.Rounds.{Estimated, coordinator_of}
use Rattle.rr_types.specs.Standings.{is_undecided}
use Rattle.rr_model.specs.World.{nothing_heard}
use Rattle.rr_model.specs.NodeState.{NodeState, no_votes}
use Rattle.rr_types.specs.declared.input.Input.TheVariants.{Hear}
use Rattle.rr_model.specs.NodeStep.{node_step}
use Rattle.rr_model.specs.NodeReached.{Opened}
use Rattle.rr_model.specs.NodesGoOn.{Cluster, restarted, IsReadyFor, DecisionsCanBeLearned}
use Rattle.rr_model.proofs.NodeMoves.{standing_first, from_to, estimated}
use Rattle.rr_model.proofs.NodeAnswers.{Concluded, hears_decision}
use Rattle.rr_model.proofs.NodeBeyond.{restless, decision_keeps}
use Rattle.rr_model.proofs.NodeAlone.{Comes, no_event, and_then, Flushed, takes}
use Rattle.rr_model.proofs.NodePhases.{InRound, flushed_sits}
use Rattle.rr_model.proofs.NodesTogether.{AreUp, Each, Leads, and_so, at_one, phase}
use Rattle.rr_model.proofs.NodesLearn.{Knowing, ToldAll, tells_all}
use Rattle.rr_model.proofs.NodesDecide.{RoundFor, round_for, all_known, opened_knowing, ready_enters, HasDecided}

-- instance i, which node k has decided, and a round of it that this node coordinates
module _ (n : ℕ) (set : ℕ → Bool) (c : Command) (i k r : ℕ) (held : List RequestNo) (calm : ℕ → Type 0) (v : Command) (small : i < 1048576) (positive : 0 < r) (coordinates : coordinator_of r n ≡ k) (exists : k < n) (member : set k ≡ true) where
  -- any command will do
  abbrev Any : Command → Type 0
  Any w = Unit {0}

  abbrev AnyVote : ℕ → Estimated → Type 0
  AnyVote q e = Unit {0}

  -- another node is in the round; node k is as it was
  abbrev Asks : NodeState → ℕ → NodeState → List Message → Type 0
  Asks was q s w = ((q ≡ k) × (s ≡ was)) ⊎ ((q ≡ k → ⊥) × InRound n i k r c held calm AnyVote Any small positive coordinates q s w)

  asks_last : (was : NodeState) (q : ℕ) (s : NodeState) (w x : List Message) → ((m : Message) → Contains w m → Contains x m) → Asks was q s w → Asks was q s x
  asks_last was q s w x f (inl a) = inl a
  asks_last was q s w x f (inr (other, I)) = inr (other, record { o = I.o; sits = I.sits; round = I.round; stamp = I.stamp; none = I.none; ok = I.ok; said = f _ I.said; waits = I.waits })

  -- the node has decided as node k has, and marked it
  abbrev Learned : ℕ → NodeState → Type 0
  Learned q s = HasDecided i v s

  -- or it may hear of it
  abbrev Learns : ℕ → NodeState → List Message → Type 0
  Learns q s w = Learned q s ⊎ (InRound n i k r c held calm AnyVote Any small positive coordinates q s w × Contains w (from_to k q (say.Decision i v)))

  learns_last : (q : ℕ) (s : NodeState) (w x : List Message) → ((m : Message) → Contains w m → Contains x m) → Learns q s w → Learns q s x
  learns_last q s w x f (inl a) = inl a
  learns_last q s w x f (inr (I, said)) = inr (record { o = I.o; sits = I.sits; round = I.round; stamp = I.stamp; none = I.none; ok = I.ok; said = f _ I.said; waits = I.waits }, f _ said)

  learns : (q : ℕ) → q < n → set q ≡ true → (s : NodeState) (w : List Message) → Learns q s w → Comes i r calm n q c s w (λ u x. Learned q u)
  learns q l y s w (inl a) = no_event i r calm n q c s w (λ u x. Learned q u) a
  learns q l y s w (inr (I, said)) =
      let input : Message = from_to k q (say.Decision i v) in
      let C : Concluded i q n v s (node_step (Hear input) s) = hears_decision i q n k v I.o no_votes s I.sits in
      and_then i r calm n q c s w (Flushed (node_step (Hear input) s)) (λ u x. Learned q u) (takes i r calm n q c s w (Hear input) (said, refl) (exists, tt) (decision_keeps i r (calm q) q n k v I.o no_votes s I.sits (λ e. let l : I.o.stamp < r = I.stamp in absurd (omega arith)))) (λ u x a F.
      no_event i r calm n q c u x (λ u2 x2. Learned q u2) (record { running = F.running; staged = F.staged; stands = standing_first i (Decided v) no_votes u (flushed_sits i q n (Decided v) no_votes _ u x C.sits F).row }))

  abbrev AllLearned : Cluster → Type 0
  AllLearned h = (q : ℕ) → q < n → set q ≡ true → Learned q (h.state q)

  -- the others ask, node k tells, and each decides
  pub pass_on : (g : Cluster) → AreUp n set g → Knowing i k n v (g.state k) → ((q : ℕ) → q < n → set q ≡ true → (q ≡ k → ⊥) → (w : List Message) → Comes i r calm n q c (g.state q) w (InRound n i k r c held calm AnyVote Any small positive coordinates q)) → Leads i r calm n set c g AllLearned
  pass_on g U K enter =
      and_so i r calm n set c g (Each n set (Asks (g.state k))) AllLearned
      (phase i r calm n set c (λ q s w. s ≡ g.state q) (Asks (g.state k)) (λ q s w x f e. e) (asks_last (g.state k)) (λ q l y s w e. elim (cases_eq q k) [
        | inl same ↦ no_event i r calm n q c s w (Asks (g.state k) q) (inl (same, e ∙ ap g.state same))
        | inr other ↦ subst (λ z. Comes i r calm n q c z w (Asks (g.state k) q)) (sym e) (asking q w (g.state q) other (enter q l y other w))
      ]) g U (λ q l y. refl))
      (λ h V A. told h V A K)
    where
      asking : (q : ℕ) (w : List Message) (s : NodeState) → (q ≡ k → ⊥) → Comes i r calm n q c s w (InRound n i k r c held calm AnyVote Any small positive coordinates q) → Comes i r calm n q c s w (Asks (g.state k) q)
      asking q w s other C = record { to = C.to; sent = C.sent; alone = C.alone; keeps = C.keeps; goal = inr (other, C.goal) }

      asked : (q : ℕ) (s : NodeState) (w : List Message) → (q ≡ k → ⊥) → Asks (g.state k) q s w → InRound n i k r c held calm AnyVote Any small positive coordinates q s w
      asked q s w other (inl a) = absurd (other a.0)
      asked q s w other (inr b) = b.1

      as_it_was : (s : NodeState) (w : List Message) → Asks (g.state k) k s w → s ≡ g.state k
      as_it_was s w (inl a) = a.1
      as_it_was s w (inr b) = absurd (b.0 refl)

      told : (h : Cluster) → AreUp n set h → Each n set (Asks (g.state k)) h → Knowing i k n v (g.state k) → Leads i r calm n set c h AllLearned
      told h V A K =
          and_so i r calm n set c h _ AllLearned
          (at_one i r calm n set c h k (ToldAll n i k r calm c v set) exists member V (tells_all n i k r calm c v set (h.state k) h.sent (λ q l y other. let I : InRound n i k r c held calm AnyVote Any small positive coordinates q (h.state q) h.sent = asked q (h.state q) h.sent other (A q l y) in (estimated r I.o, positive, I.said)) (subst (Knowing i k n v) (sym (as_it_was (h.state k) h.sent (A k exists member))) K)))
          (λ j W T. phase i r calm n set c Learns (λ q u x. Learned q u) learns_last (λ q s w x f a. a) learns j W (λ q l y. elim (cases_eq q k) [
            | inl same ↦ inl (subst (λ z. Learned z (j.state z)) (sym same) (record { running = T.0.running; staged = T.0.staged; stands = standing_first i (Decided v) T.0.knows.t (j.state k) T.0.knows.sits.row }))
            | inr other ↦ inr (subst (λ s. InRound n i k r c held calm AnyVote Any small positive coordinates q s j.sent) (sym (T.1 q other)) (later q h.sent j.sent (h.state q) T.2 (asked q (h.state q) h.sent other (A q l y))), T.0.said q l y other)
          ]))
        where
          later : (q : ℕ) (w x : List Message) (s : NodeState) → ((m : Message) → Contains w m → Contains x m) → InRound n i k r c held calm AnyVote Any small positive coordinates q s w → InRound n i k r c held calm AnyVote Any small positive coordinates q s x
          later q w x s f I = record { o = I.o; sits = I.sits; round = I.round; stamp = I.stamp; none = I.none; ok = I.ok; said = f _ I.said; waits = I.waits }

-- a node that knows what it has decided can tell the others
learn_leads : (n : ℕ) (set : ℕ → Bool) (facts : ℕ → List Fact) (c : Command) (i bound : ℕ) → i < 1048576 → 1 ≤ bound → (k : ℕ) → k < n → set k ≡ true → all_fit n k [] (facts k) ≡ true → ((j : ℕ) → j < i → is_undecided (standing_of j (facts k)) ≡ false) → (v : Command) → standing_of i (facts k) ≡ Some (Decided v) → ((q : ℕ) → q < n → set q ≡ true → (q ≡ k → ⊥) → IsReadyFor n bound i c q (facts q)) → (r : ℕ) → bound < r → 0 < r → r ≤ 2147483647 → coordinator_of r n ≡ k → Leads i r restless n set c (restarted n facts) (λ h. (q : ℕ) → q < n → set q ≡ true → HasDecided i v (h.state q))
learn_leads n set facts c i bound small one k exists member fit below v at ready r above positive within coordinates =
    let up : AreUp n set (restarted n facts) = λ q l y. elim (cases_eq q k) [
      | inl same ↦ (facts q, nothing_heard, Opened (facts q) (subst (λ z. all_fit n z [] (facts z) ≡ true) (sym same) fit))
      | inr other ↦ (facts q, nothing_heard, Opened (facts q) (ready q l y other).fit)
    ] in
    pass_on n set c i k r (c.request ∷ []) restless v small positive coordinates exists member (restarted n facts) up (opened_knowing n k (facts k) i v below at) (λ q l y other w. ready_enters n i k r c (λ z. Unit {0}) small positive coordinates within q bound (facts q) above one (ready q l y other) (λ o e. tt) (λ e. tt) w)

-- what one has decided, the others can decide
pub learned_leads : (n : ℕ) (set : ℕ → Bool) (facts : ℕ → List Fact) (c : Command) (i bound : ℕ) → i < 1048576 → 1 ≤ bound → bound + n ≤ 2147483647 → (k : ℕ) → k < n → set k ≡ true → all_fit n k [] (facts k) ≡ true → ((j : ℕ) → j < i → is_undecided (standing_of j (facts k)) ≡ false) → (v : Command) → standing_of i (facts k) ≡ Some (Decided v) → ((q : ℕ) → q < n → set q ≡ true → (q ≡ k → ⊥) → IsReadyFor n bound i c q (facts q)) → (r : ℕ) × Leads i r restless n set c (restarted n facts) (λ h. (q : ℕ) → q < n → set q ≡ true → HasDecided i v (h.state q))
learned_leads n set facts c i bound small one most k exists member fit below v at ready =
    let r : RoundFor n bound k = round_for n bound k exists in
    let above : bound < r.0 = r.1 in
    let within : r.0 ≤ bound + n = r.2 in
    (r.0, learn_leads n set facts c i bound small one k exists member fit below v at ready r.0 above (omega arith) (omega arith) r.3)

-- what one node has decided, the others can decide too
pub learn : DecisionsCanBeLearned
learn n set facts c i bound small one most k exists member fit below v at ready =
    let x : (r : ℕ) × Leads i r restless n set c (restarted n facts) (λ h. (q : ℕ) → q < n → set q ≡ true → HasDecided i v (h.state q)) = learned_leads n set facts c i bound small one most k exists member fit below v at ready in
    let L : Leads i x.0 restless n set c (restarted n facts) (λ h. (q : ℕ) → q < n → set q ≡ true → HasDecided i v (h.state q)) = x.1 in
    record {
      end = L.end;
      goes_on = L.goes;
      is_decided = λ q l y. let D : HasDecided i v (L.end.state q) = L.goal q l y in (all_known n q (L.end.state q) (L.up q l y) D.running D.staged).says i ∙ D.stands;
    }
