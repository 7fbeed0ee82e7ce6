-- When nothing is due.
use Rattle.std.proofs.Common.{◌≡◌, ℕ, Bool, true, false, eqb, cond, if◌then◌else◌, List, [], ◌∷◌, ◌++◌, ap, sym, ◌∙◌, refl, subst, Option, Some, None, is_some, IsTrue, append-nil}
use Rattle.std.specs.Option.{option_map_or}
use Rattle.rr_types.specs.Rounds.{coordinator_of}
use Rattle.rr_types.specs.declared.command.Command.{Command}
use Rattle.rr_types.specs.declared.promise.Standing.{Standing}
use Rattle.rr_types.specs.declared.promise.Standing.TheVariants.{Decided, Open}
use Rattle.rr_model.specs.NodeState.{NodeState, Row, Tally, row_of, open_instances, lowest_undecided}
use Rattle.rr_model.specs.NodeParts.{free_command}
use Rattle.rr_model.specs.NodeDue.{Due, due, due_at, due_of_row, due_of_coordinator, due_of_participant, first_due}
use Rattle.rr_model.specs.NodeDue.Due.{Begin}
use Rattle.rr_core.specs.Steps.{Changed, combined, without_requests, IsSpent, NothingIsDue, IsFitting}
use Rattle.rr_core.proofs.PoolLemmas.{none_taken}

-- what is due for a row depends on the nodes and the suspects alone
row_same : (s t : NodeState) → t.nodes ≡ s.nodes → t.node ≡ s.node → t.suspects ≡ s.suspects → (i : ℕ) (tally : Tally) (d : Standing) → due_of_row t i tally d ≡ due_of_row s i tally d
row_same s t n p u i tally (Decided v) = refl
row_same s t n p u i tally (Open o) =
    let same : eqb (coordinator_of o.round t.nodes) t.node ≡ eqb (coordinator_of o.round s.nodes) s.node = ap (λ (m : ℕ). eqb (coordinator_of o.round m) t.node) n ∙ ap (λ (m : ℕ). eqb (coordinator_of o.round s.nodes) m) p in
    ap (λ (b : Bool). cond b (due_of_coordinator t i tally o.round o.proposal) (due_of_participant t i o.round)) same
    ∙ by (eqb (coordinator_of o.round s.nodes) s.node) o.proposal
  where
    by : (b : Bool) (x : Option Command) → cond b (due_of_coordinator t i tally o.round x) (due_of_participant t i o.round) ≡ cond b (due_of_coordinator s i tally o.round x) (due_of_participant s i o.round)
    by true None = rw n refl
    by true (Some v) = rw n refl
    by false x = rw (n, u) refl

free_same : (s t : NodeState) → t.rows ≡ s.rows → t.pool ≡ s.pool → (i : ℕ) → free_command t i ≡ free_command s i
unfolding free_command open_instances
free_same s t r q i = rw (r, q) refl

at_same : (s t : NodeState) → t.nodes ≡ s.nodes → t.node ≡ s.node → t.rows ≡ s.rows → t.pool ≡ s.pool → t.suspects ≡ s.suspects → (i : ℕ) → due_at t i ≡ due_at s i
at_same s t n p r q u i = by (row_of s.rows i) refl
  where
    by : (x : Option Row) → row_of s.rows i ≡ x → due_at t i ≡ due_at s i
    by None e =
        let f : row_of t.rows i ≡ None = ap (λ (rows : List Row). row_of rows i) r ∙ e in
        rw (e, f) (ap (λ (x : Option Command). if is_some x then Some (Begin i) else None) (free_same s t r q i))
    by (Some row) e =
        let f : row_of t.rows i ≡ Some row = ap (λ (rows : List Row). row_of rows i) r ∙ e in
        rw (e, f) (row_same s t n p u i row.tally row.standing)

first_same : (s t : NodeState) → t.nodes ≡ s.nodes → t.node ≡ s.node → t.rows ≡ s.rows → t.pool ≡ s.pool → t.suspects ≡ s.suspects → (is : List ℕ) → first_due t is ≡ first_due s is
first_same s t n p r q u [] = refl
first_same s t n p r q u (i ∷ is) =
    ap (λ (x : Option Due). option_map_or Some x (first_due t is)) (at_same s t n p r q u i)
    ∙ ap (λ (x : Option Due). option_map_or Some (due_at s i) x) (first_same s t n p r q u is)

due_same : (s t : NodeState) → t.nodes ≡ s.nodes → t.node ≡ s.node → t.rows ≡ s.rows → t.pool ≡ s.pool → t.suspects ≡ s.suspects → due t ≡ due s
unfolding due open_instances
due_same s t n p r q u = ap (λ (rows : List Row). first_due t (lowest_undecided 8 0 rows)) r ∙ first_same s t n p r q u (lowest_undecided 8 0 s.rows)

-- nothing is due at a node, and so at each of its parts
pub nothing_due : (s : NodeState) → due s ≡ None → NothingIsDue s.nodes s.node s.rows s.pool s.suspects
nothing_due s h = record { none = λ t n p r q u. due_same s t n p r q u ∙ h }

pub none_due : (s : NodeState) → NothingIsDue s.nodes s.node s.rows s.pool s.suspects → due s ≡ None
none_due s h = h.none s refl refl refl refl refl

-- nor is it within a step that has changed nothing
pub none_settled : (n p : ℕ) (rows : List Row) (pool : List Command) (u : ℕ) → NothingIsDue n p rows pool u → NothingIsDue n p rows (without_requests [] (pool ++ [])) u
none_settled n p rows pool u h = subst (λ (cs : List Command). NothingIsDue n p rows cs u) (sym (ap (without_requests []) (append-nil pool) ∙ none_taken pool)) h

-- what a step has changed fits where that is known with it
pub fits_settled : (s : NodeState) (c d : Changed) (x : Bool) (t : NodeState) → d ≡ record c { spent = x; settled = true } → combined s c ≡ t → due t ≡ None → (IsTrue x → IsSpent t.rows t.pool) → IsFitting s c → IsFitting s d
fits_settled s c d x t e v h k f =
    subst (IsFitting s) (sym e) record {
      keep = f.keep;
      taken = f.taken;
      pooled = f.pooled;
      waiting = f.waiting;
      own = f.own;
      spent = λ y. subst (λ (u : NodeState). IsSpent u.rows u.pool) (sym v) (k y);
      front = f.front;
      settled = λ y. nothing_due (combined s c) (ap due v ∙ h);
    }

pub fits_spent : (s : NodeState) (c d : Changed) (x : Bool) (t : NodeState) → d ≡ record c { spent = x } → combined s c ≡ t → (IsTrue x → IsSpent t.rows t.pool) → IsFitting s c → IsFitting s d
fits_spent s c d x t e v k f =
    subst (IsFitting s) (sym e) record {
      keep = f.keep;
      taken = f.taken;
      pooled = f.pooled;
      waiting = f.waiting;
      own = f.own;
      spent = λ y. subst (λ (u : NodeState). IsSpent u.rows u.pool) (sym v) (k y);
      front = f.front;
      settled = f.settled;
    }
