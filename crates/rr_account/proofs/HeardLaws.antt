-- The acknowledgements that a node has heard since it opened, from an event on back; and the instances that events so far decide.
use Rattle.std.proofs.Common.{◌≡◌, ◌≤◌, ◌<◌, ◌+◌, ◌-◌, ℕ, zero, suc, List, true, false, Some, refl, arith, sym, ◌∙◌, ap, subst, inl, inr}
use Rattle.std.proofs.lemmas.List.{length-append}
use Rattle.std.specs.Prelude.{◌⊎◌, map, Option, [], ◌∷◌, ◌++◌, length, slice_get, nat_le, IfSome}
use Rattle.std.specs.List.{flat_map, zip}
use Rattle.std.specs.Ordering.{nat_cmp}
use Rattle.std.specs.BTreeSet.{BTreeSet, contains}
use Rattle.std.proofs.lemmas.Bool.{leb-true, true≢false}
use Rattle.std.proofs.Math.Nat.{eq-or-lt_of_le}
use Rattle.rr_types.specs.Nodes.{has_member, with_member}
use Rattle.rr_types.specs.Rounds.{majority_of}
use Rattle.rr_types.specs.declared.message.Message.{Message}
use Rattle.rr_model.specs.Lawful.{HasMajority, count_below}
use Rattle.rr_model.proofs.NodeBits.{no_member_of_none, member_of_with}
use Rattle.rr_account.specs.declared.seen.Seen.{Seen}
use Rattle.rr_account.specs.declared.seen.Seen.TheVariants.{Acked, Opened}
use Rattle.rr_text.specs.declared.event.Event.{Event}
use Rattle.rr_account.specs.Accounts.{Accounted}
use Rattle.rr_account.specs.Counts.{reasons_behind}
use Rattle.rr_account.specs.declared.reasons.Reason.{Reason}
use Rattle.rr_account.specs.Decisions.{HasHeard, HeardFrom, Completes, AreDecisionsOf, AreDecisions, sent_on, seen_of, seen_in}

-- from behind the place on nothing was heard
pub heard_none : (seen : List Seen) (place p i r : ℕ) → HeardFrom seen (place + 1) place p i r 0
heard_none seen place p i r = record {
  within = omega arith;
  closed = λ j low high is. absurd (omega (low, high, arith));
  each = λ x has. absurd (no_member_of_none x has);
}

-- the place before
pub heard_more : (seen : List Seen) (left place p i r set set' : ℕ) (s : Seen) → HeardFrom seen (left + 1) place p i r set
    → slice_get seen left ≡ Some s → (s ≡ Opened p → ⊥)
    → ((x : ℕ) → has_member set' x ≡ true → (has_member set x ≡ true) ⊎ (s ≡ Acked p x i r))
    → HeardFrom seen left place p i r set'
heard_more seen left place p i r set set' s h here shut joins = record {
  within = omega (h.within, arith);
  closed = closed;
  each = λ x has. by x (joins x has);
}
  where
    some_is : (a b : Seen) → Some a ≡ Some b → a ≡ b
    some_is a b e = cc

    closed : (j : ℕ) → left ≤ j → j ≤ place → slice_get seen j ≡ Some (Opened p) → ⊥
    closed j low high is = at_or_behind (eq-or-lt_of_le low)
      where
        at_or_behind : (left ≡ j) ⊎ (left < j) → ⊥
        at_or_behind (inl same) = shut (some_is s (Opened p) (sym here ∙ ap (slice_get seen) same ∙ is))
        at_or_behind (inr more) = h.closed j (omega (more, arith)) high is

    by : (x : ℕ) → (has_member set x ≡ true) ⊎ (s ≡ Acked p x i r) → HasHeard seen place p i r x
    by x (inl before) = h.each x before
    by x (inr acked) = record {
      at = left;
      by_then = omega (h.within, arith);
      heard = here ∙ ap Some acked;
      since = λ between low high is. h.closed between (omega (low, arith)) high is;
    }

-- the same of a place and the one before it
pub heard_back : (seen : List Seen) (left place p i r set set' : ℕ) (s : Seen) → 0 < left → HeardFrom seen left place p i r set
    → slice_get seen (left - 1) ≡ Some s → (s ≡ Opened p → ⊥)
    → ((x : ℕ) → has_member set' x ≡ true → (has_member set x ≡ true) ⊎ (s ≡ Acked p x i r))
    → HeardFrom seen (left - 1) place p i r set'
heard_back seen left place p i r set set' s some h here shut joins =
    let same : left ≡ (left - 1) + 1 = omega (some, arith) in
    heard_more seen (left - 1) place p i r set set' s (subst (λ (k : ℕ). HeardFrom seen k place p i r set) same h) here shut joins

-- a node that acknowledges joins the set
pub heard_joins : (seen : Seen) (p q i r p' i' r' set set' x : ℕ) → seen ≡ Acked p' q i' r' → p' ≡ p → i' ≡ i → r' ≡ r → set' ≡ with_member set q → has_member set' x ≡ true
    → (has_member set x ≡ true) ⊎ (seen ≡ Acked p x i r)
heard_joins seen p q i r p' i' r' set set' x is same_node same_instance same_round with has = by (member_of_with set q x (subst (λ (s : ℕ). has_member s x ≡ true) with has))
  where
    by : (x ≡ q) ⊎ (has_member set x ≡ true) → (has_member set x ≡ true) ⊎ (seen ≡ Acked p x i r)
    by (inl new) = inr (is ∙ cc)
    by (inr old) = inl old

-- a set with a majority of all nodes
pub heard_majority : (n : ℕ) (seen : List Seen) (left place p i r set : ℕ) → HeardFrom seen left place p i r set
    → nat_le (majority_of n) (count_below (has_member set) n) ≡ true → HasMajority n (λ x. HasHeard seen place p i r x)
heard_majority n seen left place p i r set h enough = record {
  members = has_member set;
  enough = leb-true (majority_of n) (count_below (has_member set) n) enough;
  each = λ q l e. h.each q e;
}

-- the instances that the events so far decide, which are all among those that were noted
pub record DecidedSoFar (n : ℕ) (seen : List Seen) (place : ℕ) (all : List (Option ℕ)) (before : BTreeSet ℕ) : Type 0 where
  pub counted : length all ≡ place
  pub completes : (k i : ℕ) → slice_get all k ≡ Some (Some i) → Completes n seen k i
  pub noted : (k i : ℕ) → slice_get all k ≡ Some (Some i) → contains nat_cmp before i ≡ true
  pub once : (k j i : ℕ) → slice_get all k ≡ Some (Some i) → slice_get all j ≡ Some (Some i) → k ≡ j

-- what stands at a place of a list that has grown by one
last_or_before : (all : List (Option ℕ)) (d : Option ℕ) (k i : ℕ) → slice_get (all ++ d ∷ []) k ≡ Some (Some i)
    → (slice_get all k ≡ Some (Some i)) ⊎ ((k ≡ length all) × (d ≡ Some i))
last_or_before [] d zero i is = inr (refl, cc)
last_or_before [] d (suc k) i is = absurd cc
last_or_before (x ∷ xs) d zero i is = inl is
last_or_before (x ∷ xs) d (suc k) i is = by (last_or_before xs d k i is)
  where
    by : (slice_get xs k ≡ Some (Some i)) ⊎ ((k ≡ length xs) × (d ≡ Some i)) → (slice_get xs k ≡ Some (Some i)) ⊎ ((suc k ≡ suc (length xs)) × (d ≡ Some i))
    by (inl at) = inl at
    by (inr last) = inr (ap suc last.0, last.1)

pub decided_more : (n : ℕ) (seen : List Seen) (place : ℕ) (all : List (Option ℕ)) (before after : BTreeSet ℕ) (first : Option ℕ) → DecidedSoFar n seen place all before
    → ((i : ℕ) → first ≡ Some i → Completes n seen place i × (contains nat_cmp before i ≡ false) × (contains nat_cmp after i ≡ true))
    → ((i : ℕ) → contains nat_cmp before i ≡ true → contains nat_cmp after i ≡ true)
    → DecidedSoFar n seen (place + 1) (all ++ first ∷ []) after
decided_more n seen place all before after first s new keeps = record {
  counted = length-append all (first ∷ []) ∙ (omega (s.counted, arith));
  completes = λ k i is. completes k i (last_or_before all first k i is);
  noted = λ k i is. noted k i (last_or_before all first k i is);
  once = λ k j i one other. once k j i (last_or_before all first k i one) (last_or_before all first j i other);
}
  where
    completes : (k i : ℕ) → (slice_get all k ≡ Some (Some i)) ⊎ ((k ≡ length all) × (first ≡ Some i)) → Completes n seen k i
    completes k i (inl at) = s.completes k i at
    completes k i (inr last) = subst (λ (x : ℕ). Completes n seen x i) (sym (last.0 ∙ s.counted)) (new i last.1).0

    noted : (k i : ℕ) → (slice_get all k ≡ Some (Some i)) ⊎ ((k ≡ length all) × (first ≡ Some i)) → contains nat_cmp after i ≡ true
    noted k i (inl at) = keeps i (s.noted k i at)
    noted k i (inr last) = (new i last.1).2

    clash : (k i : ℕ) → slice_get all k ≡ Some (Some i) → first ≡ Some i → ⊥
    clash k i at is = true≢false (sym (s.noted k i at) ∙ (new i is).1)

    once : (k j i : ℕ) → (slice_get all k ≡ Some (Some i)) ⊎ ((k ≡ length all) × (first ≡ Some i)) → (slice_get all j ≡ Some (Some i)) ⊎ ((j ≡ length all) × (first ≡ Some i)) → k ≡ j
    once k j i (inl one) (inl other) = s.once k j i one other
    once k j i (inl one) (inr other) = absurd (clash k i one other.1)
    once k j i (inr one) (inl other) = absurd (clash j i other one.1)
    once k j i (inr one) (inr other) = one.0 ∙ sym other.0

pub decided_none : (n : ℕ) (seen : List Seen) (all : List (Option ℕ)) (before : BTreeSet ℕ) → all ≡ [] → DecidedSoFar n seen 0 all before
decided_none n seen all before none = subst (λ (l : List (Option ℕ)). DecidedSoFar n seen 0 l before) (sym none) empty
  where
    no : (k i : ℕ) → slice_get {X = Option ℕ} [] k ≡ Some (Some i) → ⊥
    no k i is = absurd cc

    empty : DecidedSoFar n seen 0 [] before
    empty = record {
      counted = refl;
      completes = λ k i is. absurd (no k i is);
      noted = λ k i is. absurd (no k i is);
      once = λ k j i one other. absurd (no k i one);
    }

-- what is completed, and wasn't before, joins them
pub decided_step : (n : ℕ) (seen : List Seen) (place : ℕ) (all longer : List (Option ℕ)) (before after : BTreeSet ℕ) (decided first : Option ℕ) → DecidedSoFar n seen place all before
    → IfSome decided (λ i. Completes n seen place i)
    → ((i : ℕ) → first ≡ Some i → (decided ≡ Some i) × (contains nat_cmp before i ≡ false) × (contains nat_cmp after i ≡ true))
    → ((i : ℕ) → contains nat_cmp before i ≡ true → contains nat_cmp after i ≡ true)
    → longer ≡ all ++ first ∷ [] → DecidedSoFar n seen (place + 1) longer after
decided_step n seen place all longer before after decided first s completes new keeps grew =
    subst (λ (l : List (Option ℕ)). DecidedSoFar n seen (place + 1) l after) (sym grew)
    (decided_more n seen place all before after first s (λ i is. (completed i (new i is).0, (new i is).1, (new i is).2)) keeps)
  where
    completed : (i : ℕ) → decided ≡ Some i → Completes n seen place i
    completed i is = subst (λ (o : Option ℕ). IfSome o (λ k. Completes n seen place k)) is completes

pub decided_end : (n : ℕ) (seen : List Seen) (place : ℕ) (all : List (Option ℕ)) (before : BTreeSet ℕ) → DecidedSoFar n seen place all before → place ≡ length seen → AreDecisionsOf n seen all
decided_end n seen place all before s whole = record { one_each = s.counted ∙ whole; completes = s.completes; once = s.once }

-- the events of a run as they are seen by what the code has
pub decisions_are : (account : Accounted) (n : ℕ) (events : List Event) (reasons : List Reason) (wire : List Message) (seen : List Seen) (decided : List (Option ℕ)) → n ≡ account.schedule.nodes
    → events ≡ account.schedule.events → reasons ≡ reasons_behind account.report.lines 0 account.outcomes → wire ≡ flat_map sent_on account.report.lines
    → seen ≡ map (λ (it : Event × Reason). seen_of it.0 it.1 wire) (zip events reasons) → AreDecisionsOf n seen decided → AreDecisions account decided
decisions_are account n events reasons wire seen decided nodes_are events_are reasons_are wire_is is are =
    let same : seen ≡ seen_in account =
    is ∙ ap (λ (es : List Event). map (λ (it : Event × Reason). seen_of it.0 it.1 wire) (zip es reasons)) events_are
    ∙ ap (λ (rs : List Reason). map (λ (it : Event × Reason). seen_of it.0 it.1 wire) (zip account.schedule.events rs)) reasons_are
    ∙ ap (λ (w : List Message). map (λ (it : Event × Reason). seen_of it.0 it.1 w) (zip account.schedule.events (reasons_behind account.report.lines 0 account.outcomes))) wire_is in
    subst (λ (m : ℕ). AreDecisionsOf m (seen_in account) decided) nodes_are (subst (λ (ss : List Seen). AreDecisionsOf n ss decided) same are)
