-- From every run a majority alone can serve any request.
use Rattle.std.proofs.Common.{◌≡◌, ℕ, ◌<◌, ◌≤◌, inl, inr, zero, suc, Bool, true, false, if◌then◌else◌, List, [], ◌∷◌, ◌++◌, Contains, Some, refl, ap, sym, ◌∙◌, subst, arith}
use Rattle.std.proofs.lemmas.Bool.{cases_lt}
use Rattle.rr_types.specs.declared.command.Command.{Command}
use Rattle.rr_types.specs.declared.command.RequestNo.{RequestNo}
use Rattle.rr_types.specs.declared.command.Reply.{Reply}
use Rattle.rr_types.specs.declared.fact.Fact.TheVariants.{Decide}
use Rattle.rr_types.specs.Rounds.{majority_of}
use Rattle.rr_types.specs.Registry.{has_request, is_same_request, reply_of}
use Rattle.rr_model.specs.Lawful.{count_below}
use Rattle.rr_model.specs.World.{World, Step, empty_world, decided_prefix, IsRun, end_of}
use Rattle.rr_model.specs.Laws.{after_steps}
use Rattle.rr_model.proofs.Laws.{after_steps-append}
use Rattle.rr_model.proofs.Soundness.{invariant_of}
use Rattle.rr_model.proofs.Invariants.{all_said, grounded}
use Rattle.rr_model.proofs.NodePrefixes.{held_has_reply}
use Rattle.rr_model.specs.NoDeadEnd.{IsStepOf, CanServe}
use Rattle.rr_model.proofs.Reaches.{Reaches, by_none, further, weaker, run_both, In, KeepsAll, and_keeps}
use Rattle.rr_model.proofs.Plans.{bound}
use Rattle.rr_model.proofs.Phases.{HasDecided}
use Rattle.rr_model.proofs.Majorities.{standings, HaveDecided, majority_decides, same_decision}
use Rattle.rr_model.proofs.PrefixHolds.{in_prefix, unspoken}

-- the nodes of the set are up and have decided each instance below k, and have lost nothing
record HaveDecidedBelow (n : ℕ) (set : ℕ → Bool) (w : World) (k : ℕ) (v : World) : Type 0 where
  up : (q : ℕ) → In n set q → v.is_up q ≡ true
  decided : (j : ℕ) → j < k → (q : ℕ) → In n set q → (u : Command) × Contains (v.kept q) (Decide j u)
  lost_nothing : KeepsAll w v

-- they decide one instance after another
decide_below : (n : ℕ) (set : ℕ → Bool) (c : Command) → majority_of n ≤ count_below set n → (w : World) → ((q : ℕ) → In n set q → w.is_up q ≡ true) → (k : ℕ) → Reaches n (IsStepOf n set c) w (HaveDecidedBelow n set w k)
decide_below n set c enough w up zero = by_none n (IsStepOf n set c) w (HaveDecidedBelow n set w 0) (record { up = up; decided = λ j l. absurd (omega arith); lost_nothing = λ q f x. x })
decide_below n set c enough w up (suc k) =
    further n (IsStepOf n set c) w (HaveDecidedBelow n set w k) (HaveDecidedBelow n set w (suc k)) (decide_below n set c enough w up k)
    (λ v B. weaker n (IsStepOf n set c) v (λ z. HaveDecided n set k c (standings v k) z × KeepsAll v z) (HaveDecidedBelow n set w (suc k))
    (and_keeps n (IsStepOf n set c) v (HaveDecided n set k c (standings v k)) (majority_decides n set k c v enough))
    (λ z g. record {
      up = λ q m. (g.0.decided q m).up;
      decided = λ j l q m. elim (cases_lt j k) [
        | inl x ↦ (let d : (u : Command) × Contains (v.kept q) (Decide j u) = B.decided j x q m in (d.0, g.1 q (Decide j d.0) d.1))
        | inr x ↦ (let d : HasDecided k z q = g.0.decided q m in (d.command, subst (λ i. Contains (z.kept q) (Decide i d.command)) (let e : k ≡ j = omega arith in e) d.fact))
      ];
      lost_nothing = λ q f x. g.1 q f (B.lost_nothing q f x);
    }))

-- they are up, and have decided each instance below one that some of them decided on this command
record HaveServed (n : ℕ) (set : ℕ → Bool) (c : Command) (w : World) : Type 0 where
  up : (q : ℕ) → In n set q → w.is_up q ≡ true
  instance : ℕ
  decided : (j : ℕ) → j < suc instance → (q : ℕ) → In n set q → (u : Command) × Contains (w.kept q) (Decide j u)
  server : ℕ
  fact : Contains (w.kept server) (Decide instance c)

majority_serves : (n : ℕ) (set : ℕ → Bool) (c : Command) (w : World) → majority_of n ≤ count_below set n → Reaches n (IsStepOf n set c) w (HaveServed n set c)
majority_serves n set c w enough =
    let b : (b : ℕ) × ((q : ℕ) → q < n → (unspoken (w.kept q)).0 ≤ b) = bound n (λ q. (unspoken (w.kept q)).0) in
    further n (IsStepOf n set c) w (HaveDecided n set b.0 c (standings w b.0)) (HaveServed n set c) (majority_decides n set b.0 c w enough)
    (λ v D.
    let new : (p : ℕ) × In n set p × Contains (v.kept p) (Decide b.0 c) = D.new (λ q m. (unspoken (w.kept q)).1 b.0 (b.1 q m.0)) in
    weaker n (IsStepOf n set c) v (HaveDecidedBelow n set v (suc b.0)) (HaveServed n set c)
    (decide_below n set c enough v (λ q m. (D.decided q m).up) (suc b.0))
    (λ z B. record { up = B.up; instance = b.0; decided = B.decided; server = new.0; fact = B.lost_nothing new.0 (Decide b.0 c) new.2 }))

same_itself : (r : RequestNo) → is_same_request r r ≡ true
same_itself r = grind arith

requested : (c : Command) (list : List Command) → Contains list c → has_request list c.request ≡ true
requested c [] x = let l : x.0 < 0 = x.1 in absurd (omega arith)
requested c (d ∷ list) (zero, l, e) = ap (λ b. if b then true else has_request list c.request) (ap (λ (z : Command). is_same_request z.request c.request) e ∙ same_itself c.request)
requested c (d ∷ list) (suc k, l, e) = by (is_same_request d.request c.request) (requested c list (k, omega arith, e))
  where
    by : (b : Bool) → has_request list c.request ≡ true → (if b then true else has_request list c.request) ≡ true
    by true h = refl
    by false h = h

pub can_serve : (n : ℕ) (run : List Step) → IsRun n run → (set : ℕ → Bool) → majority_of n ≤ count_below set n → (c : Command) → CanServe n set run c
can_serve n run r set enough c =
    let R : Reaches n (IsStepOf n set c) (end_of run) (HaveServed n set c) = majority_serves n set c (end_of run) enough in
    let is : IsRun n (run ++ R.steps) = run_both n empty_world run R.steps r R.runs in
    let end : end_of (run ++ R.steps) ≡ after_steps (end_of run) R.steps = after_steps-append empty_world run R.steps in
    let H : HaveServed n set c (end_of (run ++ R.steps)) = subst (HaveServed n set c) (sym end) R.goal in
    let listed : (q : ℕ) → In n set q → Contains (decided_prefix ((end_of (run ++ R.steps)).kept q)) c = (λ q m.
    let d : (u : Command) × Contains ((end_of (run ++ R.steps)).kept q) (Decide H.instance u) = H.decided H.instance (omega arith) q m in
    in_prefix n q (all_said (end_of (run ++ R.steps))) ((end_of (run ++ R.steps)).kept q) ((grounded n (end_of (run ++ R.steps)) (invariant_of n (run ++ R.steps) is)).history q) H.instance c (λ j l. H.decided j l q m)
    (subst (λ z. Contains ((end_of (run ++ R.steps)).kept q) (Decide H.instance z)) (same_decision n (run ++ R.steps) is H.instance q H.server d.0 c d.1 H.fact) d.1)) in
    record {
      more = R.steps;
      steps_are_of_the_set = R.where_they_are;
      is_run = is;
      is_listed = λ q l m. listed q (l, m);
      may_reply = λ q l m. let x : (reply : Reply) × (reply_of (decided_prefix ((end_of (run ++ R.steps)).kept q)) c.request ≡ Some reply) = held_has_reply (decided_prefix ((end_of (run ++ R.steps)).kept q)) c.request (requested c (decided_prefix ((end_of (run ++ R.steps)).kept q)) (listed q (l, m))) in (x.0, ((l, H.up q (l, m)), x.1));
    }
