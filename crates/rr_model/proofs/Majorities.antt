-- From every run a majority alone can decide any instance.
use Rattle.std.proofs.Common.{◌≡◌, ℕ, ◌<◌, ◌≤◌, inl, inr, Bool, List, [], ◌++◌, Contains, Option, None, refl, ap, sym, ◌∙◌, subst, append-nil}
use Rattle.std.proofs.lemmas.Option.{none-some}
use Rattle.rr_types.specs.declared.command.Command.{Command}
use Rattle.rr_types.specs.declared.fact.Fact.TheVariants.{Decide}
use Rattle.rr_types.specs.declared.promise.Standing.{Standing}
use Rattle.rr_types.specs.declared.promise.Standing.TheVariants.{Decided}
use Rattle.rr_types.specs.Rounds.{majority_of}
use Rattle.rr_types.specs.Facts.{standing_of}
use Rattle.rr_model.specs.Lawful.{count_below}
use Rattle.rr_model.specs.World.{World, Step, empty_world, IsRun, end_of}
use Rattle.rr_model.specs.Laws.{after_steps}
use Rattle.rr_model.proofs.Laws.{after_steps-append}
use Rattle.rr_model.proofs.Soundness.{sound_one_chosen, sound_decides}
use Rattle.rr_model.specs.NoDeadEnd.{IsStepOf, CanDecide}
use Rattle.rr_model.proofs.Reaches.{Reaches, further, weaker, each_in_turn, run_both, In, IsOwn, AtNode}
use Rattle.rr_model.proofs.OneNode.{IsFresh, restarts}
use Rattle.rr_model.proofs.Plans.{Plan, plan, some_decided, largest}
use Rattle.rr_model.proofs.Phases.{IsReady, ready_own, HasDecided, by_fact, spreads, takes_a_round, command_of}

-- the node keeps what it kept at first
abbrev pub IsAtFirst : World → World → ℕ → Type 0
IsAtFirst first w q = w.kept q ≡ first.kept q

at_first_own : (first : World) → IsOwn (IsAtFirst first)
at_first_own first q w v a x = a.kept ∙ x

-- where the nodes stand
abbrev pub standings : World → ℕ → ℕ → Option Standing
standings w i q = standing_of i (w.kept q)

-- the node has restarted
record HasRestarted (first : World) (i : ℕ) (c : Command) (w : World) (q : ℕ) : Type 0 where
  ready : IsReady i c (standings first i) w q
  kept : w.kept q ≡ first.kept q

restarted_own : (first : World) (i : ℕ) (c : Command) → IsOwn (HasRestarted first i c)
restarted_own first i c q w v a x = record { ready = ready_own i c (standings first i) q w v a x.ready; kept = a.kept ∙ x.kept }

restart : (n q i : ℕ) (c : Command) (first w : World) → q < n → IsAtFirst first w q → Reaches n (AtNode c q) w (λ v. HasRestarted first i c v q)
restart n q i c first w l e = weaker n (AtNode c q) w (λ v. IsFresh w v q c) (λ v. HasRestarted first i c v q) (restarts n q w c l)
    (λ v F. record {
      ready = record { sits = record { up = F.up; empty = F.empty; stands = ap (standing_of i) (F.kept ∙ e) }; command = F.command };
      kept = F.kept ∙ e;
    })

-- each node of the set has decided, and on this command where none stood anywhere
pub record HaveDecided (n : ℕ) (set : ℕ → Bool) (i : ℕ) (c : Command) (S : ℕ → Option Standing) (w : World) : Type 0 where
  pub decided : (q : ℕ) → In n set q → HasDecided i w q
  pub new : ((q : ℕ) → In n set q → S q ≡ None) → (p : ℕ) × In n set p × Contains (w.kept p) (Decide i c)

-- from any world a majority alone can decide
pub majority_decides : (n : ℕ) (set : ℕ → Bool) (i : ℕ) (c : Command) (w : World) → majority_of n ≤ count_below set n → Reaches n (IsStepOf n set c) w (HaveDecided n set i c (standings w i))
majority_decides n set i c w enough =
    further n (IsStepOf n set c) w (λ v. (q : ℕ) → In n set q → HasRestarted w i c v q) (HaveDecided n set i c (standings w i))
    (each_in_turn n set (IsAtFirst w) (HasRestarted w i c) (at_first_own w) (restarted_own w i c) (λ y q m x. restart n q i c w y m.0 x) w (λ q m. refl))
    (λ v all. elim (some_decided n set (standings w i)) [
      | inl d ↦ weaker n (IsStepOf n set c) v (λ z. (q : ℕ) → In n set q → HasDecided i z q) (HaveDecided n set i c (standings w i))
          (spreads n set d.0 i d.2 v d.1 (λ q m. record { standing = standings w i q; sits = (all q m).ready.sits }) (subst (λ z. Contains z (Decide i d.2)) (sym (all d.0 d.1).kept) (by_fact (w.kept d.0) i d.2 d.3)))
          (λ z g. record { decided = g; new = λ f. absurd (none-some (Decided d.2) (sym (f d.0 d.1) ∙ d.3)) })
      | inr none ↦ by_plan v all (plan n set (standings w i) enough none)
    ])
  where
    by_plan : (v : World) → ((q : ℕ) → In n set q → HasRestarted w i c v q) → (P : Plan n set (standings w i)) → Reaches n (IsStepOf n set c) v (HaveDecided n set i c (standings w i))
    by_plan v all P = weaker n (IsStepOf n set c) v (λ z. ((q : ℕ) → In n set q → HasDecided i z q) × Contains (z.kept P.p) (Decide i (command_of c (standings w i P.p)))) (HaveDecided n set i c (standings w i))
        (takes_a_round n set i c (standings w i) P v (λ q m. (all q m).ready))
        (λ z g. record { decided = g.0; new = λ f. (P.p, P.member, subst (λ u. Contains (z.kept P.p) (Decide i u)) (ap (command_of c) (f P.p P.member)) g.1) })

-- a member of a majority
pub member : (n : ℕ) (set : ℕ → Bool) → majority_of n ≤ count_below set n → (q : ℕ) × In n set q
member n set enough = let one : (q : ℕ) × In n set q × ((k : ℕ) → In n set k → 0 ≤ 0) = largest n set (λ q. 0) enough in (one.0, one.1)

-- what two nodes have decided for one instance is one command
pub same_decision : (n : ℕ) (run : List Step) → IsRun n run → (i p q : ℕ) (u v : Command) → Contains ((end_of run).kept p) (Decide i u) → Contains ((end_of run).kept q) (Decide i v) → u ≡ v
same_decision n run r i p q u v x y = sound_one_chosen n run r i u v (sound_decides n run r run [] (sym (append-nil run)) p i u x) (sound_decides n run r run [] (sym (append-nil run)) q i v y)

-- and from the end of each run
pub can_decide : (n : ℕ) (run : List Step) → IsRun n run → (set : ℕ → Bool) → majority_of n ≤ count_below set n → (c : Command) (i : ℕ) → CanDecide n set run c i
can_decide n run r set enough c i =
    let R : Reaches n (IsStepOf n set c) (end_of run) (HaveDecided n set i c (standings (end_of run) i)) = majority_decides n set i c (end_of run) enough in
    let is : IsRun n (run ++ R.steps) = run_both n empty_world run R.steps r R.runs in
    let end : end_of (run ++ R.steps) ≡ after_steps (end_of run) R.steps = after_steps-append empty_world run R.steps in
    let H : HaveDecided n set i c (standings (end_of run) i) (end_of (run ++ R.steps)) = subst (HaveDecided n set i c (standings (end_of run) i)) (sym end) R.goal in
    let one : (q : ℕ) × In n set q = member n set enough in
    let D : HasDecided i (end_of (run ++ R.steps)) one.0 = H.decided one.0 one.1 in
    record {
      more = R.steps;
      steps_are_of_the_set = R.where_they_are;
      is_run = is;
      command = D.command;
      is_chosen = sound_decides n (run ++ R.steps) is (run ++ R.steps) [] (sym (append-nil (run ++ R.steps))) one.0 i D.command D.fact;
      is_decided = λ q l m. subst (λ z. Contains ((end_of (run ++ R.steps)).kept q) (Decide i z)) (same_decision n (run ++ R.steps) is i q one.0 (H.decided q (l, m)).command D.command (H.decided q (l, m)).fact D.fact) (H.decided q (l, m)).fact;
      are_up = λ q l m. (H.decided q (l, m)).up;
      is_new = λ f. let x : (p : ℕ) × In n set p × Contains ((end_of (run ++ R.steps)).kept p) (Decide i c) = H.new (λ q m. f q m.0 m.1) in same_decision n (run ++ R.steps) is i one.0 x.0 D.command c D.fact x.2;
    }
