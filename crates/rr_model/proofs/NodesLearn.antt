-- A node that has decided an instance answers the estimates of the others with its decision, and so each decides the same.
use Rattle.std.proofs.Common.{◌≡◌, ℕ, ◌≤◌, ◌<◌, inl, inr, zero, suc, Bool, true, false, List, [], ◌∷◌, Contains, None, Some, refl, ap, sym, ◌∙◌, subst, arith, le_refl}
use Rattle.std.specs.Option.{option_map_or}
use Rattle.std.proofs.lemmas.Bool.{false≢true, cases_eq, cases_lt}
use Rattle.rr_types.specs.declared.command.Command.{Command}
use Rattle.rr_types.specs.declared.message.Body.TheVariants as say
use Rattle.rr_types.specs.declared.message.Message.{Message}
use Rattle.rr_types.specs.declared.promise.Standing.TheVariants.{Decided}
use Rattle.rr_types.specs.Facts.{decision_of}
use Rattle.rr_types.specs.Rounds.{Estimated}
use Rattle.rr_types.specs.Standings.{is_undecided}
use Rattle.rr_model.specs.NodeState.{NodeState, Row, Tally, row_of, standing_at, next_number}
use Rattle.rr_model.specs.NodeParts.{owe, backing_at}
use Rattle.rr_model.specs.NodeDue.{settle}
use Rattle.rr_types.specs.declared.input.Input.TheVariants.{Hear}
use Rattle.rr_model.specs.NodeStep.{heard_body, taken_in, node_step}
use Rattle.rr_model.proofs.NodeFirsts.{First, Onward, onward_on, owe_onward, owe_rows, owe_pool, settle_onward, settle_row}
use Rattle.rr_model.proofs.NodeMoves.{if_false, Owes, owes_on, owes_new, Sits, sits_on, standing_first, settles, from_to, heard_here}
use Rattle.rr_model.proofs.NodeBeyond.{Keeps, decided_keeps}
use Rattle.rr_model.proofs.NodeAlone.{Comes, no_event, and_then, alone_sent, Flushed, flush, takes}
use Rattle.rr_model.proofs.NodePhases.{flushed_sits}

-- the node has decided instance i, and knows which fact backs that
pub record Knowing (i p n : ℕ) (v : Command) (s : NodeState) : Type 0 where
  pub t : Tally
  pub sits : Sits i p n (Decided v) t s
  pub backed : backing_at (λ b. b.decided) s i < next_number s

-- it answers an estimate with its decision
record Answering (i p n q : ℕ) (v : Command) (s u : NodeState) : Type 0 where
  knows : Knowing i p n v u
  owes : Owes u (from_to p q (say.Decision i v))

answer_taken : (i p n q : ℕ) (e : Estimated) (v : Command) (s : NodeState) → Knowing i p n v s → taken_in (Hear (from_to q p (say.Estimate i e))) s ≡ owe (say.Decision i v) (Some (backing_at (λ b. b.decided) s i)) (q ∷ []) s
unfolding heard_body
answer_taken i p n q e v s K =
    let at : standing_at s i ≡ Some (Decided v) = standing_first i (Decided v) K.t s K.sits.row in
    heard_here p (say.Estimate i e) q s K.sits.node
    ∙ if_false _ _ _ (ap is_undecided at)
    ∙ ap (λ z. option_map_or (λ w. owe (say.Decision i w) (Some (backing_at (λ b. b.decided) s i)) (q ∷ []) s) (decision_of z) s) at

answers : (i p n q : ℕ) (e : Estimated) (v : Command) (s : NodeState) → Knowing i p n v s → Answering i p n q v s (node_step (Hear (from_to q p (say.Estimate i e))) s)
unfolding node_step
answers i p n q e v s K =
    let k : ℕ = backing_at (λ b. b.decided) s i in
    let u : NodeState = owe (say.Decision i v) (Some k) (q ∷ []) s in
    let on : Onward s u = owe_onward (say.Decision i v) (Some k) (q ∷ []) s in
    let same : u.rows ≡ s.rows = owe_rows (say.Decision i v) (Some k) (q ∷ []) s in
    let U : Sits i p n (Decided v) K.t u = sits_on i p n (Decided v) K.t s u (Decided v) K.t K.sits on (subst (First i (Decided v) K.t) (sym same) K.sits.row) in
    let row : row_of (settle u).rows i ≡ row_of s.rows i = settle_row i (Decided v) K.t u U.row refl ∙ ap (λ z. row_of z i) same in
    let back : backing_at (λ b. b.decided) (settle u) i ≡ k = ap (λ z. option_map_or (λ (r : Row). r.backing.decided) z 0) row in
    let more : next_number s ≤ next_number (settle u) = (onward_on s u (settle u) on (settle_onward u)).number in
    let below : k < next_number s = K.backed in
    subst (λ z. Answering i p n q v s (settle z)) (sym (answer_taken i p n q e v s K)) (record {
      knows = record { t = K.t; sits = settles i p n (Decided v) K.t u U refl; backed = omega arith };
      owes = owes_on u (settle u) _ (settle_onward u) (subst (λ z. Owes u (from_to z q (say.Decision i v))) K.sits.node (owes_new (say.Decision i v) k (q ∷ []) s q (0, omega arith, refl) below));
    })

answer_keeps : (i r : ℕ) (calm : Type 0) (p n q : ℕ) (e : Estimated) (v : Command) (s : NodeState) → Knowing i p n v s → Keeps i r calm s (node_step (Hear (from_to q p (say.Estimate i e))) s)
unfolding node_step
answer_keeps i r calm p n q e v s K =
    let u : NodeState = owe (say.Decision i v) (Some (backing_at (λ b. b.decided) s i)) (q ∷ []) s in
    let same : u.rows ≡ s.rows = owe_rows (say.Decision i v) (Some (backing_at (λ b. b.decided) s i)) (q ∷ []) s in
    let pool : u.pool ≡ s.pool = owe_pool (say.Decision i v) (Some (backing_at (λ b. b.decided) s i)) (q ∷ []) s in
    let U : Sits i p n (Decided v) K.t u = sits_on i p n (Decided v) K.t s u (Decided v) K.t K.sits (owe_onward _ _ _ s) (subst (First i (Decided v) K.t) (sym same) K.sits.row) in
    subst (λ z. Keeps i r calm s (settle z)) (sym (answer_taken i p n q e v s K)) (decided_keeps i r calm p n v K.t s u same pool U)

knowing_flushed : (i p n : ℕ) (v : Command) (s u : NodeState) (w : List Message) → Knowing i p n v s → Flushed s u w → Knowing i p n v u
knowing_flushed i p n v s u w K F =
    let back : backing_at (λ b. b.decided) u i ≡ backing_at (λ b. b.decided) s i = ap (λ z. option_map_or (λ (r : Row). r.backing.decided) (row_of z i) 0) F.rows in
    let number : next_number u ≡ next_number s = F.number in
    let below : backing_at (λ b. b.decided) s i < next_number s = K.backed in
    record { t = K.t; sits = flushed_sits i p n (Decided v) K.t s u w K.sits F; backed = omega arith }

-- the node of the decision, and those that sent it an estimate
module _ (n i k r : ℕ) (calm : ℕ → Type 0) (c v : Command) (set : ℕ → Bool) where
  -- those below m have its decision
  abbrev HasTold : ℕ → NodeState → List Message → Type 0
  HasTold m s w = Knowing i k n v s × ((q : ℕ) → q < m → set q ≡ true → (q ≡ k → ⊥) → Contains w (from_to k q (say.Decision i v)))

  -- node q has sent an estimate of a round above 0
  abbrev pub HasAsked : ℕ → List Message → Type 0
  HasAsked q w = (e : Estimated) × (0 < e.round) × Contains w (from_to q k (say.Estimate i e))

  tell_one : (m : ℕ) (s : NodeState) (w : List Message) → m < n → HasAsked m w → HasTold m s w → Comes i r calm n k c s w (HasTold (suc m))
  tell_one m s w l A H =
      let input : Message = from_to m k (say.Estimate i A.0) in
      let B : Answering i k n m v s (node_step (Hear input) s) = answers i k n m A.0 v s H.0 in
      let C : Comes i r calm n k c s w (Flushed (node_step (Hear input) s)) = takes i r calm n k c s w (Hear input) (A.2, refl) (l, A.1) (answer_keeps i r (calm k) k n m A.0 v s H.0) in
      record {
        to = C.to;
        sent = C.sent;
        alone = C.alone;
        keeps = C.keeps;
        goal = (
          knowing_flushed i k n v _ C.to C.sent B.knows C.goal,
          λ q x y other. elim (cases_lt q m) [
            | inl z ↦ alone_sent n k c s w C.to C.sent C.alone _ (H.1 q z y other)
            | inr z ↦ (let same : m ≡ q = omega arith in subst (λ j. Contains C.sent (from_to k j (say.Decision i v))) same (C.goal.sent _ B.owes))
          ],
        );
      }

  pass_over : (m : ℕ) (s : NodeState) (w : List Message) → (set m ≡ true → (m ≡ k → ⊥) → ⊥) → HasTold m s w → Comes i r calm n k c s w (HasTold (suc m))
  pass_over m s w none H = no_event i r calm n k c s w (HasTold (suc m)) (
    H.0,
    λ q x y other. elim (cases_lt q m) [
      | inl z ↦ H.1 q z y other
      | inr z ↦ (let same : q ≡ m = omega arith in absurd (none (subst (λ j. set j ≡ true) same y) (λ e. other (same ∙ e))))
    ],
  )

  tell_on : (m : ℕ) (s : NodeState) (w : List Message) → m < n → (set m ≡ true → (m ≡ k → ⊥) → HasAsked m w) → HasTold m s w → Comes i r calm n k c s w (HasTold (suc m))
  tell_on m s w l A H = by (set m) refl
    where
      by : (b : Bool) → set m ≡ b → Comes i r calm n k c s w (HasTold (suc m))
      by false e = pass_over m s w (λ y other. false≢true (sym e ∙ y)) H
      by true e = elim (cases_eq m k) [
        | inl same ↦ pass_over m s w (λ y other. other same) H
        | inr other ↦ tell_one m s w l (A e other) H
      ]

  tell_all : (m : ℕ) (s : NodeState) (w : List Message) → m ≤ n → ((q : ℕ) → q < n → set q ≡ true → (q ≡ k → ⊥) → HasAsked q w) → Knowing i k n v s → Comes i r calm n k c s w (HasTold m)
  tell_all zero s w l A K = no_event i r calm n k c s w (HasTold 0) (K, λ q x y other. absurd (omega arith))
  tell_all (suc m) s w l A K = and_then i r calm n k c s w (HasTold m) (HasTold (suc m)) (tell_all m s w (omega arith) A K) (λ u x a H.
      tell_on m u x (omega arith) (λ y other. let asked : HasAsked m w = A m (omega arith) y other in (asked.0, asked.1, alone_sent n k c s w u x a _ asked.2)) H)

  -- it has told all, and marked all
  pub record ToldAll (s : NodeState) (w : List Message) : Type 0 where
    pub knows : Knowing i k n v s
    pub running : s.running ≡ None
    pub staged : s.staged ≡ []
    pub said : (q : ℕ) → q < n → set q ≡ true → (q ≡ k → ⊥) → Contains w (from_to k q (say.Decision i v))

  pub tells_all : (s : NodeState) (w : List Message) → ((q : ℕ) → q < n → set q ≡ true → (q ≡ k → ⊥) → HasAsked q w) → Knowing i k n v s → Comes i r calm n k c s w ToldAll
  tells_all s w A K = and_then i r calm n k c s w (HasTold n) ToldAll (tell_all n s w (le_refl n) A K) (λ u x a H.
      and_then i r calm n k c u x (Flushed u) ToldAll (flush i r calm n k c u x) (λ u2 x2 a2 F.
      no_event i r calm n k c u2 x2 ToldAll (record { knows = knowing_flushed i k n v u u2 x2 H.0 F; running = F.running; staged = F.staged; said = λ q l y other. alone_sent n k c u x u2 x2 a2 _ (H.1 q l y other) })))
