-- Where the nodes of a set have decided a request and filled all gaps below it, each can acknowledge it.
use Rattle.std.proofs.Common.{◌≡◌, ℕ, ◌+◌, ◌≤◌, ◌<◌, inl, inr, zero, suc, Bool, true, false, ◌==◌, ◌&&◌, not, find, if◌then◌else◌, List, [], ◌∷◌, length, map, Contains, None, Some, refl, ap, sym, ◌∙◌, subst, arith, eq-eqb}
use Rattle.std.specs.List.{list_any}
use Rattle.std.proofs.lemmas.Bool.{false≢true, cases_lt, ne_eqb}
use Rattle.std.proofs.lemmas.Option.{none-some, same_Some}
use Rattle.rr_types.specs.declared.command.Command.{Command}
use Rattle.rr_types.specs.declared.fact.Fact.{Fact}
use Rattle.rr_types.specs.declared.promise.Entry.{Entry}
use Rattle.rr_types.specs.declared.promise.Standing.{Standing}
use Rattle.rr_types.specs.declared.promise.Standing.TheVariants.{Decided, Open}
use Rattle.rr_types.specs.Facts.{standing_of}
use Rattle.rr_types.specs.Promises.{AscendsFrom, standing_in, promise_of, decided_from}
use Rattle.rr_types.specs.Registry.{has_request}
use Rattle.rr_types.specs.Standings.{is_undecided}
use Rattle.rr_model.specs.NodeState.{NodeState, is_decided_request, decided_prefix}
use Rattle.rr_types.specs.declared.input.Input.TheVariants.{Submit}
use Rattle.rr_model.specs.NodeStep.{promised_row, is_waiting, is_list_full, next_acknowledged, node_step, taken_in, input_refusal}
use Rattle.rr_model.specs.NodeLaws.{Told, after_event}
use Rattle.rr_model.specs.NodeReached.{opened_over}
use Rattle.rr_model.specs.NodesGoOn.{Cluster, CanGoOn, NotAtAll, ByOneMore, after_at, restarted}
use Rattle.rr_model.specs.NodesRestart.{CanFillGaps, DecidedCanBeAcknowledged}
use Rattle.rr_model.proofs.OneNode.{at_itself}
use Rattle.rr_model.proofs.Promised.{standing_in-promise_of}
use Rattle.rr_model.proofs.NodePrefixes.{ascends_all}
use Rattle.rr_model.proofs.NodeSteady.{started_stays, input_stays}
use Rattle.rr_model.proofs.NodeFirsts.{settle_onward}
use Rattle.rr_model.proofs.NodeMoves.{if_true, if_false}
use Rattle.rr_model.proofs.NodeRestates.{started_same, decides_request, unheld, holds, first_decided}
use Rattle.rr_model.proofs.NodeBegins.{waits_submitted}
use Rattle.rr_model.proofs.NodesFill.{fill_gaps}

listed_here : (low : ℕ) (x : Entry) (es : List Entry) (v : Command) → x.instance ≡ low → x.standing ≡ Decided v → decided_from low (x ∷ es) ≡ v ∷ decided_from (low + 1) es
listed_here low x es v a b = let t : (x.instance == low) ≡ true = eq-eqb x.instance low a in rw (t, b) refl

listed_behind : (x : Command) (xs : List Command) (v : Command) → Contains xs v → Contains (x ∷ xs) v
listed_behind x xs v c = (suc c.0, (let l : c.0 < length xs = c.1 in omega arith), c.2)

pub decided_so : (st : Standing) → is_undecided (Some st) ≡ false → (w : Command) × (st ≡ Decided w)
decided_so (Decided w) e = (w, refl)
decided_so (Open o) e = absurd (false≢true (sym e))

standing_so : (s : Standing) (t : Standing) → Some s ≡ Some t → s ≡ t
standing_so s t e = same_Some s t e

-- a command decided for an instance below which all is decided is in the list of the decided ones
listed : (low i : ℕ) (v : Command) (es : List Entry) → AscendsFrom low es → low ≤ i → ((j : ℕ) → low ≤ j → j < i → is_undecided (standing_in es j) ≡ false) → standing_in es i ≡ Some (Decided v) → Contains (decided_from low es) v
listed low i v [] a l d e = absurd (none-some _ e)
listed low i v (x ∷ es) a l d e = elim (cases_lt low i) [
  | inl m ↦ (
      let f : (x.instance ≡ low) × (is_undecided (Some x.standing) ≡ false) = first_decided low x es a (d low (let z : low ≤ low = omega arith in z) m) in
      let at : x.instance ≡ low = f.0 in
      let w : (w : Command) × (x.standing ≡ Decided w) = decided_so x.standing f.1 in
      let rest : Contains (decided_from (low + 1) es) v = listed (low + 1) i v es (subst (λ z. AscendsFrom (z + 1) es) at a.1) (omega arith)
      (λ j k n. sym (ap (λ t. is_undecided (if t then Some x.standing else standing_in es j)) (ne_eqb x.instance j (λ y. omega arith))) ∙ d j (omega arith) n)
      (sym (ap (λ t. if t then Some x.standing else standing_in es i) (ne_eqb x.instance i (λ y. omega arith))) ∙ e) in
      subst (λ z. Contains z v) (sym (listed_here low x es w.0 at w.1)) (listed_behind w.0 (decided_from (low + 1) es) v rest)
      )
  | inr m ↦ (
      let same : i ≡ low = omega arith in
      let here : standing_in (x ∷ es) low ≡ Some (Decided v) = subst (λ z. standing_in (x ∷ es) z ≡ Some (Decided v)) same e in
      let f : (x.instance ≡ low) × (is_undecided (Some x.standing) ≡ false) = first_decided low x es a (ap is_undecided here) in
      let is : x.standing ≡ Decided v = standing_so x.standing (Decided v) (sym (ap (λ t. if t then Some x.standing else standing_in es low) (eq-eqb x.instance low f.0)) ∙ here) in
      subst (λ z. Contains z v) (sym (listed_here low x es v f.0 is)) (0, omega arith, refl)
      )
]

waiting_then : (c : Command) (s : NodeState) → s.waiting ≡ [] → (node_step (Submit c) s).waiting ≡ c.request ∷ []
unfolding node_step
waiting_then c s e = (settle_onward (taken_in (Submit c) s)).waiting ∙ (waits_submitted c s e).waiting

-- a restarted node that has decided the request, and all below it
module _ (n q i : ℕ) (facts : List Fact) (c v : Command) (below : (j : ℕ) → j < i → is_undecided (standing_of j facts) ≡ false) (here : standing_of i facts ≡ Some (Decided v)) (request : v.request ≡ c.request) where
  abbrev opened : NodeState
  opened = opened_over n q facts

  promised : (j : ℕ) → 0 ≤ j → j < i → is_undecided (standing_in (promise_of facts) j) ≡ false
  promised j z l = ap is_undecided (standing_in-promise_of facts j) ∙ below j l

  marked : opened.marked ≡ promise_of facts
  marked = (started_stays n q (promise_of facts) (length facts)).marked

  held : has_request (decided_from 0 (promise_of facts)) c.request ≡ true
  held = subst (λ z. has_request (decided_from 0 (promise_of facts)) z ≡ true) request (holds 0 i v (promise_of facts) (ascends_all [] facts tt) (omega arith) promised (standing_in-promise_of facts i ∙ here))

  decides_it : is_decided_request opened c.request ≡ true
  decides_it = by (list_any (decides_request c.request) (map (promised_row (length facts)) (promise_of facts))) refl
    where
      by : (b : Bool) → list_any (decides_request c.request) (map (promised_row (length facts)) (promise_of facts)) ≡ b → is_decided_request opened c.request ≡ true
      by true e = ap (list_any (decides_request c.request)) (started_same n q (promise_of facts) (length facts)).0 ∙ e
      by false e = absurd (false≢true (sym (unheld (length facts) 0 c.request (promise_of facts) e) ∙ held))

  -- takes it
  pub takes_it : input_refusal (Submit c) opened ≡ None
  takes_it = if_false _ _ _ (ap (λ z. is_list_full opened && not z && not (is_waiting opened c.request)) decides_it ∙ never (is_list_full opened))
    where
      never : (b : Bool) → (b && false && not (is_waiting opened c.request)) ≡ false
      never true = refl
      never false = refl

  -- and then has it in its decided prefix, and acknowledges it next
  prefix : decided_prefix (node_step (Submit c) opened) ≡ decided_from 0 (promise_of facts)
  prefix = ap (decided_from 0) ((input_stays (Submit c) opened).marked ∙ marked)

  pub has_it : Contains (decided_prefix (node_step (Submit c) opened)) v
  has_it = subst (λ z. Contains z v) (sym prefix) (listed 0 i v (promise_of facts) (ascends_all [] facts tt) (omega arith) promised (standing_in-promise_of facts i ∙ here))

  pub owes_it : next_acknowledged (node_step (Submit c) opened) ≡ Some c.request
  owes_it =
      ap (find (λ z. has_request (decided_prefix (node_step (Submit c) opened)) z)) (waiting_then c opened (started_same n q (promise_of facts) (length facts)).2.waiting)
      ∙ if_true _ _ _ (ap (λ z. has_request z c.request) prefix ∙ held)

-- nodes that would take the client's command
module _ (n : ℕ) (set : ℕ → Bool) (kept : ℕ → List Fact) (c : Command) (takes : (q : ℕ) → q < n → set q ≡ true → input_refusal (Submit c) (opened_over n q (kept q)) ≡ None) where
  -- it was submitted to those below m
  pub record SubmittedBelow (m : ℕ) : Type 0 where
    pub end : Cluster
    pub goes : CanGoOn n set c (restarted n kept) end
    pub done : (q : ℕ) → q < m → set q ≡ true → end.state q ≡ node_step (Submit c) (opened_over n q (kept q))
    pub rest : (q : ℕ) → m ≤ q → end.state q ≡ opened_over n q (kept q)

  one_more : (m : ℕ) → m < n → SubmittedBelow m → (b : Bool) → set m ≡ b → SubmittedBelow (suc m)
  one_more m l A false e = record {
    end = A.end;
    goes = A.goes;
    done = λ q x y. elim (cases_lt q m) [
      | inl z ↦ A.done q z y
      | inr z ↦ (let same : q ≡ m = omega arith in absurd (false≢true (sym e ∙ ap set (sym same) ∙ y)))
    ];
    rest = λ q x. A.rest q (omega arith);
  }
  one_more m l A true e =
      let s : NodeState = opened_over n m (kept m) in
      let is : A.end.state m ≡ s = A.rest m (let z : m ≤ m = omega arith in z) in
      let g : Cluster = after_at m (Told (Submit c)) A.end in
      let here : g.state m ≡ node_step (Submit c) s = at_itself A.end.state m (after_event (A.end.state m) (Told (Submit c))) ∙ ap (node_step (Submit c)) is in
      let beside : (q : ℕ) → (q ≡ m → ⊥) → g.state q ≡ A.end.state q = λ q other. if_false (q == m) (after_event (A.end.state m) (Told (Submit c))) (A.end.state q) (ne_eqb q m other) in
      record {
        end = g;
        goes = ByOneMore A.end m (Told (Submit c)) A.goes l e (refl, ap (input_refusal (Submit c)) is ∙ takes m l e);
        done = λ q x y. elim (cases_lt q m) [
          | inl z ↦ beside q (λ same. omega arith) ∙ A.done q z y
          | inr z ↦ (let same : m ≡ q = omega arith in subst (λ j. g.state j ≡ node_step (Submit c) (opened_over n j (kept j))) same here)
        ];
        rest = λ q x. beside q (λ same. omega arith) ∙ A.rest q (omega arith);
      }

  pub submitted_below : (m : ℕ) → m ≤ n → SubmittedBelow m
  submitted_below zero l = record { end = restarted n kept; goes = NotAtAll; done = λ q x y. absurd (omega arith); rest = λ q x. refl }
  submitted_below (suc m) l = one_more m (omega arith) (submitted_below m (omega arith)) (set m) refl

-- so a request that one of them has decided each can acknowledge
pub acknowledge_decided : DecidedCanBeAcknowledged
acknowledge_decided n set facts bound i enough small one most room agreed k c v exists member at request =
    let F : CanFillGaps n set facts (i + 1) = fill_gaps n set facts bound (i + 1) enough (omega arith) one most room agreed in
    let below : (q : ℕ) → q < n → set q ≡ true → (j : ℕ) → j < i → is_undecided (standing_of j (F.kept q)) ≡ false = λ q l y j m. F.are_decided q l y j (omega arith) in
    let here : (q : ℕ) → q < n → set q ≡ true → standing_of i (F.kept q) ≡ Some (Decided v) = λ q l y. F.are_kept k q i v exists member l y (omega arith) at in
    let S : SubmittedBelow n set F.kept c (λ q l y. takes_it n q i (F.kept q) c v (below q l y) (here q l y) request) n = submitted_below n set F.kept c (λ q l y. takes_it n q i (F.kept q) c v (below q l y) (here q l y) request) n (let z : n ≤ n = omega arith in z) in
    record {
      kept = F.kept;
      restarts = F.restarts;
      end = S.end;
      goes_on = S.goes;
      is_listed = λ q l y. subst (λ z. Contains (decided_prefix z) v) (sym (S.done q l y)) (has_it n q i (F.kept q) c v (below q l y) (here q l y) request);
      is_due = λ q l y. ap next_acknowledged (S.done q l y) ∙ owes_it n q i (F.kept q) c v (below q l y) (here q l y) request;
    }
