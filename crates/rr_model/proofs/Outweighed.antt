-- Decisions outweigh facts: facts by which each instance stands alike give one promise, and a decision is all that counts.
use Rattle.std.proofs.Common.{◌≡◌, ℕ, ◌+◌, ◌≤◌, ◌<◌, ◌⊎◌, inl, inr, zero, suc, Bool, true, false, ◌==◌, if◌then◌else◌, List, [], ◌∷◌, ◌++◌, length, get_or, slice_get, filter, Contains, Option, None, Some, refl, ap, sym, ◌∙◌, subst, arith, eqb-true, eq-eqb}
use Rattle.std.proofs.lemmas.Bool.{false≢true, ne_eqb, eqb-false, cases_lt, cases_order}
use Rattle.std.proofs.lemmas.Option.{none-some, same_Some, slice_get-get_or}
use Rattle.rr_types.specs.declared.command.Command.{Command}
use Rattle.rr_types.specs.declared.fact.Fact.{Fact}
use Rattle.rr_types.specs.declared.fact.Fact.TheVariants.{Decide}
use Rattle.rr_types.specs.declared.promise.Entry.{Entry}
use Rattle.rr_types.specs.declared.promise.Standing.{Standing}
use Rattle.rr_types.specs.declared.promise.Standing.TheVariants.{Decided, Open}
use Rattle.rr_types.specs.Facts.{instance_of, standing_of, after_fact, decision_of}
use Rattle.rr_types.specs.Promises.{AscendsFrom, standing_in, promise_of}
use Rattle.rr_types.specs.Standings.{is_undecided, standing_from}
use Rattle.rr_model.specs.Laws.{settled}
use Rattle.rr_model.specs.LostDisks.{AreBelow, decisions_from, decisions_of, news_of, StandAlike, DoDecisionsOutweigh, DoesNewsOutweigh}
use Rattle.rr_model.specs.World.{Step, IsRun, end_of}
use Rattle.rr_model.proofs.CrashedNodes.{decided_is_chosen}
use Rattle.rr_model.proofs.Histories.{standing_from-append}
use Rattle.rr_model.proofs.NodePrefixes.{ascends_all, none_below}
use Rattle.rr_model.proofs.Promised.{standing_in-promise_of}
use Rattle.rr_model.proofs.Soundness.{invariant_of, sound_one_chosen}

-- ---- one promise

-- the first of ascending entries stands there
entry_here : (e : Entry) (es : List Entry) → standing_in (e ∷ es) e.instance ≡ Some e.standing
entry_here e es = ap (λ (b : Bool). if b then Some e.standing else standing_in es e.instance) (eq-eqb e.instance e.instance refl)

-- entries that begin above an instance say nothing of it
entry_above : (low i : ℕ) (e : Entry) (es : List Entry) → AscendsFrom low (e ∷ es) → i < e.instance → standing_in (e ∷ es) i ≡ None
entry_above low i e es a l = none_below i e.instance (e ∷ es) (omega arith, a.1) l

-- what they say of later instances
entry_later : (e : Entry) (es : List Entry) (i : ℕ) → (e.instance ≡ i → ⊥) → standing_in (e ∷ es) i ≡ standing_in es i
entry_later e es i other = ap (λ (b : Bool). if b then Some e.standing else standing_in es i) (ne_eqb e.instance i other)

same_entry : (d e : Entry) → d.instance ≡ e.instance → d.standing ≡ e.standing → d ≡ e
same_entry d e a b =
    let make : ℕ → Standing → Entry = (λ i s. record { instance = i; standing = s }) in
    ap (λ i. make i d.standing) a ∙ ap (make e.instance) b

-- ascending entries that say the same of each instance are the same
same_entries : (low : ℕ) (xs ys : List Entry) → AscendsFrom low xs → AscendsFrom low ys → ((i : ℕ) → standing_in xs i ≡ standing_in ys i) → xs ≡ ys
same_entries low [] [] a b s = refl
same_entries low [] (y ∷ ys) a b s = absurd (none-some y.standing (s y.instance ∙ entry_here y ys))
same_entries low (x ∷ xs) [] a b s = absurd (none-some x.standing (sym (s x.instance) ∙ entry_here x xs))
same_entries low (x ∷ xs) (y ∷ ys) a b s = by (cases_order x.instance y.instance) (λ m t. same_entries (x.instance + 1) xs ys a.1 m t)
  where
    rest : x.instance ≡ y.instance → (i : ℕ) → standing_in xs i ≡ standing_in ys i
    rest e i = at (x.instance == i) refl
      where
        at : (t : Bool) → (x.instance == i) ≡ t → standing_in xs i ≡ standing_in ys i
        at true h =
            let k : x.instance ≡ i = eqb-true _ _ h in
            none_below i (x.instance + 1) xs a.1 (omega arith) ∙ sym (none_below i (y.instance + 1) ys b.1 (omega arith))
        at false h = sym (entry_later x xs i (eqb-false _ _ h)) ∙ s i ∙ entry_later y ys i (λ k. eqb-false _ _ h (e ∙ k))

    same : x.instance ≡ y.instance → x ≡ y
    same e = same_entry x y e (same_Some _ _ (sym (entry_here x xs) ∙ s x.instance ∙ ap (standing_in (y ∷ ys)) e ∙ entry_here y ys))

    by : (x.instance ≡ y.instance) ⊎ ((x.instance < y.instance) ⊎ (y.instance < x.instance)) → (AscendsFrom (x.instance + 1) ys → ((i : ℕ) → standing_in xs i ≡ standing_in ys i) → xs ≡ ys) → x ∷ xs ≡ y ∷ ys
    by (inl e) ih = ap (λ z. z ∷ xs) (same e) ∙ ap (λ z. y ∷ z) (ih (subst (λ z. AscendsFrom (z + 1) ys) (sym e) b.1) (rest e))
    by (inr (inl l)) ih = absurd (none-some x.standing (sym (entry_above low x.instance y ys b l) ∙ sym (s x.instance) ∙ entry_here x xs))
    by (inr (inr l)) ih = absurd (none-some y.standing (sym (entry_above low y.instance x xs a l) ∙ s y.instance ∙ entry_here y ys))

-- where each instance stands alike, the promise is the same
pub stand_alike : (facts others : List Fact) → ((i : ℕ) → standing_of i facts ≡ standing_of i others) → StandAlike facts others
stand_alike facts others s = record {
  promise = same_entries 0 (promise_of facts) (promise_of others) (ascends_all [] facts tt) (ascends_all [] others tt) (λ i. standing_in-promise_of facts i ∙ s i ∙ sym (standing_in-promise_of others i));
  standings = s;
}

-- ---- facts of other instances

later_in : (f : Fact) (facts : List Fact) (g : Fact) → Contains facts g → Contains (f ∷ facts) g
later_in f facts g c = (suc c.0, (let l : c.0 < length facts = c.1 in omega arith), c.2)

-- an instance of which no fact is stands as before
untouched : (s : Option Standing) (j : ℕ) (facts : List Fact) → ((f : Fact) → Contains facts f → instance_of f ≡ j → ⊥) → standing_from s j facts ≡ s
untouched s j [] other = refl
untouched s j (f ∷ facts) other =
    ap (λ (b : Bool). standing_from (if b then after_fact s f else s) j facts) (ne_eqb (instance_of f) j (other f (0, omega arith, refl)))
    ∙ untouched s j facts (λ g c. other g (later_in f facts g c))

-- facts below the end say nothing of the end or above
pub nothing_from : (end j : ℕ) (facts : List Fact) → AreBelow end facts → end ≤ j → standing_of j facts ≡ None
nothing_from end j facts below l = untouched None j facts (λ f c e. let m : instance_of f < end = below f c in omega arith)

-- ---- decisions

-- below its own instances decisions leave an instance as it stands
below_decisions : (s : Option Standing) (i j : ℕ) (list : List Command) → j < i → standing_from s j (decisions_from i list) ≡ s
below_decisions s i j [] l = refl
below_decisions s i j (v ∷ list) l =
    ap (λ (b : Bool). standing_from (if b then Some (Decided v) else s) j (decisions_from (i + 1) list)) (ne_eqb i j (λ e. omega arith))
    ∙ below_decisions s (i + 1) j list (omega arith)

-- place k of a list is decided for its instance
decision_stands : (s : Option Standing) (i k : ℕ) (list : List Command) (v : Command) → slice_get list k ≡ Some v → standing_from s (i + k) (decisions_from i list) ≡ Some (Decided v)
decision_stands s i k [] v e = absurd (none-some v e)
decision_stands s i zero (w ∷ list) v e =
    ap (λ (b : Bool). standing_from (if b then Some (Decided w) else s) (i + 0) (decisions_from (i + 1) list)) (eq-eqb i (i + 0) (omega arith))
    ∙ below_decisions (Some (Decided w)) (i + 1) (i + 0) list (omega arith) ∙ ap (λ z. Some (Decided z)) (same_Some w v e)
decision_stands s i (suc k) (w ∷ list) v e =
    let same : i + suc k ≡ (i + 1) + k = omega arith in
    subst (λ z. standing_from (if i == z then Some (Decided w) else s) z (decisions_from (i + 1) list) ≡ Some (Decided v)) (sym same)
    (decision_stands (if i == (i + 1) + k then Some (Decided w) else s) (i + 1) k list v e)

pub decided_of : (s : Option Standing) (k : ℕ) (list : List Command) (v : Command) → slice_get list k ≡ Some v → standing_from s k (decisions_of list) ≡ Some (Decided v)
decided_of s k list v e = let same : 0 + k ≡ k = omega arith in subst (λ z. standing_from s z (decisions_of list) ≡ Some (Decided v)) same (decision_stands s 0 k list v e)

-- of a place within the list
pub placed : (list : List Command) (k : ℕ) → k < length list → (v : Command) × (slice_get list k ≡ Some v)
placed [] k l = absurd (omega arith)
placed (v ∷ list) k l = (get_or (v ∷ list) k v, slice_get-get_or (v ∷ list) k v l)

-- behind facts below its end, the decisions of a list leave each instance as they alone leave it
all_decided : (facts : List Fact) (list : List Command) → ((j : ℕ) → length list ≤ j → standing_of j facts ≡ None) → (j : ℕ) → standing_from (standing_of j facts) j (decisions_of list) ≡ standing_of j (decisions_of list)
all_decided facts list none j = elim (cases_lt j (length list)) [
  | inl l ↦ (let v : (v : Command) × (slice_get list j ≡ Some v) = placed list j l in decided_of (standing_of j facts) j list v.0 v.1 ∙ sym (decided_of None j list v.0 v.1))
  | inr l ↦ ap (λ s. standing_from s j (decisions_of list)) (none j (omega arith))
]

pub decisions_outweigh : (facts : List Fact) (list : List Command) → DoDecisionsOutweigh facts list
decisions_outweigh facts list below = stand_alike (facts ++ decisions_of list) (decisions_of list) (λ j. standing_from-append None j facts (decisions_of list) ∙ all_decided facts list (λ k l. nothing_from (length list) k facts below l) j)

-- ---- news

-- decisions of instances that pass a test
abbrev passing : (ℕ → Bool) → ℕ → List Command → List Fact
passing test i list = filter (λ f. test (instance_of f)) (decisions_from i list)

-- an instance that passes is left as by all of them
passing_stands : (test : ℕ → Bool) (i j : ℕ) (list : List Command) (s : Option Standing) → test j ≡ true → standing_from s j (passing test i list) ≡ standing_from s j (decisions_from i list)
passing_stands test i j [] s pass = refl
passing_stands test i j (v ∷ list) s pass = by (λ t. passing_stands test (i + 1) j list t pass) (test i) refl
  where
    by : ((t : Option Standing) → standing_from t j (passing test (i + 1) list) ≡ standing_from t j (decisions_from (i + 1) list)) → (b : Bool) → test i ≡ b → standing_from s j (if b then Decide i v ∷ passing test (i + 1) list else passing test (i + 1) list) ≡ standing_from s j (decisions_from i (v ∷ list))
    by ih true e = ih (if i == j then Some (Decided v) else s)
    by ih false e = ih s ∙ sym (ap (λ (b : Bool). standing_from (if b then Some (Decided v) else s) j (decisions_from (i + 1) list)) (ne_eqb i j (λ x. false≢true (sym e ∙ ap test x ∙ pass))))

-- and one that does not pass is left as it stands
failing_stands : (test : ℕ → Bool) (i j : ℕ) (list : List Command) (s : Option Standing) → test j ≡ false → standing_from s j (passing test i list) ≡ s
failing_stands test i j [] s fail = refl
failing_stands test i j (v ∷ list) s fail = by (failing_stands test (i + 1) j list s fail) (test i) refl
  where
    by : standing_from s j (passing test (i + 1) list) ≡ s → (b : Bool) → test i ≡ b → standing_from s j (if b then Decide i v ∷ passing test (i + 1) list else passing test (i + 1) list) ≡ s
    by ih true e = ap (λ (b : Bool). standing_from (if b then Some (Decided v) else s) j (passing test (i + 1) list)) (ne_eqb i j (λ x. false≢true (sym fail ∙ sym (ap test x) ∙ e))) ∙ ih
    by ih false e = ih

-- what is not undecided has a decision
pub decision_there : (s : Option Standing) → is_undecided s ≡ false → (w : Command) × (s ≡ Some (Decided w))
decision_there None e = absurd (false≢true (sym e))
decision_there (Some (Decided w)) e = (w, refl)
decision_there (Some (Open o)) e = absurd (false≢true (sym e))

-- facts that leave nothing from the end of a list on, and decide nothing else than it has; and behind them what is news
pub news_outweigh : (facts : List Fact) (list : List Command) → ((j : ℕ) → length list ≤ j → standing_of j facts ≡ None) → ((j : ℕ) (w v : Command) → decision_of (standing_of j facts) ≡ Some w → slice_get list j ≡ Some v → w ≡ v) → StandAlike (facts ++ news_of facts list) (decisions_of list)
news_outweigh facts list none agree = stand_alike (facts ++ news_of facts list) (decisions_of list) (λ j. standing_from-append None j facts (news_of facts list) ∙ by j (is_undecided (standing_of j facts)) refl)
  where
    known : (j : ℕ) (w : Command) → standing_of j facts ≡ Some (Decided w) → standing_of j facts ≡ standing_of j (decisions_of list)
    known j w e = elim (cases_lt j (length list)) [
      | inl l ↦ (let v : (v : Command) × (slice_get list j ≡ Some v) = placed list j l in e ∙ ap (λ z. Some (Decided z)) (agree j w v.0 (ap decision_of e) v.1) ∙ sym (decided_of None j list v.0 v.1))
      | inr l ↦ absurd (none-some (Decided w) (sym (none j (omega arith)) ∙ e))
    ]

    by : (j : ℕ) (b : Bool) → is_undecided (standing_of j facts) ≡ b → standing_from (standing_of j facts) j (news_of facts list) ≡ standing_of j (decisions_of list)
    by j true e = passing_stands (λ k. is_undecided (standing_of k facts)) 0 j list (standing_of j facts) e ∙ all_decided facts list none j
    by j false e =
        let w : (w : Command) × (standing_of j facts ≡ Some (Decided w)) = decision_there (standing_of j facts) e in
        failing_stands (λ k. is_undecided (standing_of k facts)) 0 j list (standing_of j facts) e ∙ known j w.0 w.1

-- in a run they decide nothing else, since one command is chosen
pub news_outweigh_in_runs : (n : ℕ) (run : List Step) → IsRun n run → DoesNewsOutweigh n run
news_outweigh_in_runs n run r list chosen p count below = news_outweigh (settled (end_of run) p count) list (λ j l. nothing_from (length list) j (settled (end_of run) p count) below l)
    (λ j w v d e. sound_one_chosen n run r j w v (decided_is_chosen n (end_of run) (invariant_of n run r) p count j w d) (chosen j v e))
