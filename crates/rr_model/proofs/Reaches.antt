-- Steps of some nodes that lead from a world to one of some kind, and how they are put together.
use Rattle.std.proofs.Common.{◌≡◌, ℕ, ◌<◌, ◌≤◌, inl, inr, zero, suc, Bool, true, false, List, [], ◌∷◌, ◌++◌, take, Contains, refl, sym, ◌∙◌, subst, arith}
use Rattle.std.proofs.lemmas.Bool.{false≢true, cases_lt}
use Rattle.std.proofs.lemmas.List.Elements.{Contains-append_left}
use Rattle.rr_model.specs.World.{World, Step, Submit, Hear, Stage, Settle, Send, Acknowledge, GoDown, Restart, after_step, MayHappen, IsRunFrom}
use Rattle.rr_types.specs.declared.command.Command.{Command}
use Rattle.rr_types.specs.declared.fact.Fact.{Fact}
use Rattle.rr_model.specs.Laws.{settled, after_steps}
use Rattle.rr_model.specs.NodeInWorld.{node_of, AreStepsAt, LeavesAlone}
use Rattle.rr_model.proofs.Growth.{at_each}
use Rattle.rr_model.proofs.Laws.{after_steps-append}
use Rattle.rr_model.proofs.Frames.{steps_alone}
use Rattle.rr_model.specs.NoDeadEnd.{AreAllSteps, SubmitsOnly, IsStepOf}

-- steps at nodes with this property lead from the world to one of this kind
pub record Reaches (n : ℕ) (At : Step → Type 0) (w : World) (Goal : World → Type 0) : Type 0 where
  pub steps : List Step
  pub where_they_are : AreAllSteps At steps
  pub runs : IsRunFrom n w steps
  pub goal : Goal (after_steps w steps)

-- with no step
pub by_none : (n : ℕ) (At : Step → Type 0) (w : World) (Goal : World → Type 0) → Goal w → Reaches n At w Goal
by_none n At w Goal g = record { steps = []; where_they_are = tt; runs = tt; goal = g }

-- with one
pub by_step : (n : ℕ) (At : Step → Type 0) (w : World) (Goal : World → Type 0) (s : Step) → At s → MayHappen n w s → Goal (after_step w s) → Reaches n At w Goal
by_step n At w Goal s a m g = record { steps = s ∷ []; where_they_are = (a, tt); runs = (m, tt); goal = g }

steps_where : (At : Step → Type 0) (a b : List Step) → AreAllSteps At a → AreAllSteps At b → AreAllSteps At (a ++ b)
steps_where At [] b x y = y
steps_where At (s ∷ a) b x y = (x.0, steps_where At a b x.1 y)

-- a run, and a run from its end
pub run_both : (n : ℕ) (w : World) (a b : List Step) → IsRunFrom n w a → IsRunFrom n (after_steps w a) b → IsRunFrom n w (a ++ b)
run_both n w [] b x y = y
run_both n w (s ∷ a) b x y = (x.0, run_both n (after_step w s) a b x.1 y)

-- one thing after another
pub further : (n : ℕ) (At : Step → Type 0) (w : World) (P Q : World → Type 0) → Reaches n At w P → ((v : World) → P v → Reaches n At v Q) → Reaches n At w Q
further n At w P Q a f =
    let b : Reaches n At (after_steps w a.steps) Q = f (after_steps w a.steps) a.goal in
    record {
      steps = a.steps ++ b.steps;
      where_they_are = steps_where At a.steps b.steps a.where_they_are b.where_they_are;
      runs = run_both n w a.steps b.steps a.runs b.runs;
      goal = subst Q (sym (after_steps-append w a.steps b.steps)) b.goal;
    }

-- a weaker goal
pub weaker : (n : ℕ) (At : Step → Type 0) (w : World) (P Q : World → Type 0) → Reaches n At w P → ((v : World) → P v → Q v) → Reaches n At w Q
weaker n At w P Q a f = record { steps = a.steps; where_they_are = a.where_they_are; runs = a.runs; goal = f (after_steps w a.steps) a.goal }

wider : (A B : Step → Type 0) → ((s : Step) → A s → B s) → (ss : List Step) → AreAllSteps A ss → AreAllSteps B ss
wider A B f [] a = tt
wider A B f (s ∷ ss) a = (f s a.0, wider A B f ss a.1)

-- the step happens at this node, and no command but this one is submitted by it
abbrev pub AtNode : Command → ℕ → Step → Type 0
AtNode c p s = (node_of s ≡ p) × SubmitsOnly c s

at_one_node : (c : Command) (p : ℕ) (ss : List Step) → AreAllSteps (AtNode c p) ss → AreStepsAt p ss
at_one_node c p [] a = tt
at_one_node c p (s ∷ ss) a = (a.0.0, at_one_node c p ss a.1)

-- the nodes below n that are in the set
abbrev pub In : ℕ → (ℕ → Bool) → ℕ → Type 0
In n set q = (q < n) × (set q ≡ true)

-- what one node of the set does, the set does; and the others are left alone
pub does : {c : Command} → (n : ℕ) (set : ℕ → Bool) (p : ℕ) (w : World) (Goal : World → Type 0) → In n set p → Reaches n (AtNode c p) w Goal → Reaches n (IsStepOf n set c) w (λ v. Goal v × ((q : ℕ) → (q ≡ p → ⊥) → LeavesAlone q w v))
does {c} n set p w Goal m a = record {
  steps = a.steps;
  where_they_are = wider (AtNode c p) (IsStepOf n set c) (λ s e. ((subst (In n set) (sym e.0) m).0, (subst (In n set) (sym e.0) m).1, e.1)) a.steps a.where_they_are;
  runs = a.runs;
  goal = (a.goal, λ q other. steps_alone q p w a.steps other (at_one_node c p a.steps a.where_they_are));
}

-- what holds of a node's part of the world, and holds still when other nodes take steps
abbrev pub IsOwn : (World → ℕ → Type 0) → Type 0
IsOwn P = (q : ℕ) (w v : World) → LeavesAlone q w v → P w q → P v q

-- the nodes below k are done, and the others are not yet
record Half (n : ℕ) (set : ℕ → Bool) (P Q : World → ℕ → Type 0) (k : ℕ) (w : World) : Type 0 where
  done : (q : ℕ) → In n set q → q < k → Q w q
  ahead : (q : ℕ) → In n set q → k ≤ q → P w q

above : (k q : ℕ) → k ≤ q → (q ≡ k → ⊥) → suc k ≤ q
above k q l other = elim (cases_lt k q) [
  | inl x ↦ x
  | inr x ↦ absurd (other (omega arith))
]

one_more : {c : Command} → (n : ℕ) (set : ℕ → Bool) (P Q : World → ℕ → Type 0) → IsOwn P → IsOwn Q → ((w : World) (q : ℕ) → In n set q → P w q → Reaches n (AtNode c q) w (λ v. Q v q)) → (k : ℕ) → k < n → (w : World) → Half n set P Q k w → (b : Bool) → set k ≡ b → Reaches n (IsStepOf n set c) w (Half n set P Q (suc k))
one_more {c} n set P Q ownP ownQ one k l w H false e = by_none n (IsStepOf n set c) w (Half n set P Q (suc k)) (record {
  done = λ q m below. elim (cases_lt q k) [
    | inl x ↦ H.done q m x
    | inr x ↦ absurd (false≢true (sym e ∙ subst (λ z. set z ≡ true) (let z : q ≡ k = omega arith in z) m.1))
  ];
  ahead = λ q m x. H.ahead q m (omega arith);
})
one_more {c} n set P Q ownP ownQ one k l w H true e =
    weaker n (IsStepOf n set c) w (λ v. Q v k × ((q : ℕ) → (q ≡ k → ⊥) → LeavesAlone q w v)) (Half n set P Q (suc k))
    (does n set k w (λ v. Q v k) (l, e) (one w k (l, e) (H.ahead k (l, e) (omega arith))))
    (λ v g. record {
      done = λ q m below. elim (cases_lt q k) [
        | inl x ↦ ownQ q w v (g.1 q (λ is. omega arith)) (H.done q m x)
        | inr x ↦ subst (Q v) (let z : k ≡ q = omega arith in z) g.0
      ];
      ahead = λ q m x. ownP q w v (g.1 q (λ is. omega arith)) (H.ahead q m (omega arith));
    })

up_to : {c : Command} → (n : ℕ) (set : ℕ → Bool) (P Q : World → ℕ → Type 0) → IsOwn P → IsOwn Q → ((w : World) (q : ℕ) → In n set q → P w q → Reaches n (AtNode c q) w (λ v. Q v q)) → (w : World) → ((q : ℕ) → In n set q → P w q) → (k : ℕ) → k ≤ n → Reaches n (IsStepOf n set c) w (Half n set P Q k)
up_to {c} n set P Q ownP ownQ one w all zero l = by_none n (IsStepOf n set c) w (Half n set P Q zero) (record { done = λ q m below. absurd (omega arith); ahead = λ q m x. all q m })
up_to {c} n set P Q ownP ownQ one w all (suc k) l = further n (IsStepOf n set c) w (Half n set P Q k) (Half n set P Q (suc k)) (up_to n set P Q ownP ownQ one w all k (omega arith)) (λ v H. one_more n set P Q ownP ownQ one k (omega arith) v H (set k) refl)

-- each node of the set in turn does what it can do alone
pub each_in_turn : {c : Command} → (n : ℕ) (set : ℕ → Bool) (P Q : World → ℕ → Type 0) → IsOwn P → IsOwn Q → ((w : World) (q : ℕ) → In n set q → P w q → Reaches n (AtNode c q) w (λ v. Q v q)) → (w : World) → ((q : ℕ) → In n set q → P w q) → Reaches n (IsStepOf n set c) w (λ v. (q : ℕ) → In n set q → Q v q)
each_in_turn {c} n set P Q ownP ownQ one w all = weaker n (IsStepOf n set c) w (Half n set P Q n) (λ v. (q : ℕ) → In n set q → Q v q) (up_to n set P Q ownP ownQ one w all n (omega arith)) (λ v H q m. H.done q m m.0)

step_keeps : (w : World) (s : Step) (q : ℕ) (f : Fact) → Contains (w.kept q) f → Contains ((after_step w s).kept q) f
step_keeps w (Submit p c) q f x = x
step_keeps w (Hear p m) q f x = x
step_keeps w (Stage p g) q f x = x
step_keeps w (Settle p count) q f x = at_each (λ q k. Contains (w.kept q) f → Contains k f) w.kept p (settled w p count) (λ y. Contains-append_left (w.kept p) (take count (w.staged p)) f y) (λ q y. y) q x
step_keeps w (Send p m) q f x = x
step_keeps w (Acknowledge p k reply) q f x = x
step_keeps w (GoDown p) q f x = x
step_keeps w (Restart p count) q f x = at_each (λ q k. Contains (w.kept q) f → Contains k f) w.kept p (settled w p count) (λ y. Contains-append_left (w.kept p) (take count (w.staged p)) f y) (λ q y. y) q x

steps_keep : (w : World) (ss : List Step) (q : ℕ) (f : Fact) → Contains (w.kept q) f → Contains ((after_steps w ss).kept q) f
steps_keep w [] q f x = x
steps_keep w (s ∷ ss) q f x = steps_keep (after_step w s) ss q f (step_keeps w s q f x)

-- all that is kept in the one world is kept in the other
abbrev pub KeepsAll : World → World → Type 0
KeepsAll w v = (q : ℕ) (f : Fact) → Contains (w.kept q) f → Contains (v.kept q) f

-- whatever was kept is kept still
pub and_keeps : (n : ℕ) (At : Step → Type 0) (w : World) (Goal : World → Type 0) → Reaches n At w Goal → Reaches n At w (λ v. Goal v × KeepsAll w v)
and_keeps n At w Goal a = record { steps = a.steps; where_they_are = a.where_they_are; runs = a.runs; goal = (a.goal, λ q f x. steps_keep w a.steps q f x) }
