-- Each number in a node's row is that of a fact which backs the row's messages, also behind an opening.
use Rattle.std.proofs.Common.{◌≡◌, ℕ, ◌-◌, ◌≤◌, ◌<◌, zero, suc, Bool, true, false, ◌==◌, ◌&&◌, nat_lt, if◌then◌else◌, List, [], ◌∷◌, ◌++◌, length, take, Contains, Option, None, Some, is_none, slice_get, refl, ap, sym, ◌∙◌, subst, arith, append_assoc, append-nil, eqb-true, ltb-true, le_refl, le_of_suc-le-suc}
use Rattle.std.proofs.lemmas.Bool.{false≢true, and_parts}
use Rattle.std.proofs.lemmas.Option.{none-some, same_Some, slice_get_within}
use Rattle.rr_types.specs.declared.command.Command.{Command}
use Rattle.rr_types.specs.declared.fact.Fact.{Fact}
use Rattle.rr_types.specs.declared.fact.Fact.TheVariants.{Enter, Propose, Adopt, Decide}
use Rattle.rr_types.specs.declared.promise.Entry.{Entry}
use Rattle.rr_types.specs.declared.promise.Standing.{Standing}
use Rattle.rr_types.specs.declared.promise.Standing.TheVariants.{Decided, Open}
use Rattle.rr_types.specs.declared.message.Body.{Body}
use Rattle.rr_types.specs.declared.message.Body.TheVariants.{Estimate, Proposal, Ack, Decision, Request, Nack, Beat, Suspects, Ask}
use Rattle.rr_types.specs.Commands.{is_same_command}
use Rattle.rr_types.specs.Rounds.{coordinator_of, Estimated, OpenAt}
use Rattle.rr_types.specs.Facts.{instance_of, standing_of, after_fact}
use Rattle.rr_types.specs.Promises.{standing_in, all_fit, take_on}
use Rattle.rr_types.specs.Standings.{fits}
use Rattle.rr_model.specs.Lawful.{Heard, IsBacked}
use Rattle.rr_model.specs.NodeLaws.{IsOfSubmitted}
use Rattle.rr_model.specs.NodeState.{Owed, Backing}
use Rattle.rr_model.specs.NodeParts.{backing_after}
use Rattle.rr_model.proofs.Histories.{standing_push}
use Rattle.rr_model.proofs.Promised.{standing_in-take_on}

-- one of the facts, with a number of at most k
abbrev pub IsUpTo : List Fact → ℕ → Fact → Type 0
IsUpTo facts k f = (j : ℕ) × (j ≤ k) × (slice_get facts j ≡ Some f)

slice_front : (xs ys : List Fact) (j : ℕ) (f : Fact) → slice_get xs j ≡ Some f → slice_get (xs ++ ys) j ≡ Some f
slice_front [] ys j f e = absurd (none-some f e)
slice_front (x ∷ xs) ys zero f e = e
slice_front (x ∷ xs) ys (suc j) f e = slice_front xs ys j f e

slice_last : (xs : List Fact) (f : Fact) → slice_get (xs ++ f ∷ []) (length xs) ≡ Some f
slice_last [] f = refl
slice_last (x ∷ xs) f = slice_last xs f

slice_contains : (xs : List Fact) (j m : ℕ) (f : Fact) → slice_get xs j ≡ Some f → j < m → Contains (take m xs) f
slice_contains [] j m f e l = absurd (none-some f e)
slice_contains (x ∷ xs) j zero f e l = absurd (omega arith)
slice_contains (x ∷ xs) zero (suc m) f e l = (0, omega arith, same_Some x f e)
slice_contains (x ∷ xs) (suc j) (suc m) f e l = let c : Contains (take m xs) f = slice_contains xs j m f e (le_of_suc-le-suc l) in (suc c.0, omega arith, c.2)

pub up_to_more : (facts more : List Fact) (k : ℕ) (f : Fact) → IsUpTo facts k f → IsUpTo (facts ++ more) k f
up_to_more facts more k f u = (u.0, u.1, slice_front facts more u.0 f u.2)

pub up_to_last : (facts : List Fact) (f : Fact) → IsUpTo (facts ++ f ∷ []) (length facts) f
up_to_last facts f = (length facts, le_refl (length facts), slice_last facts f)

up_to_end : (facts : List Fact) (k : ℕ) (f : Fact) → IsUpTo facts k f → IsUpTo facts (length facts - 1) f
up_to_end facts k f u = let l : u.0 < length facts = slice_get_within facts u.0 f u.2 in (u.0, omega arith, u.2)

-- the numbers of an open instance's row are of facts that back its messages
pub record IsBackedOpen (facts : List Fact) (i : ℕ) (b : Backing) (o : OpenAt) : Type 0 where
  pub below : o.stamp ≤ o.round
  pub entered : o.stamp < o.round → IsUpTo facts b.entered (Enter i (record { round = o.round; stamp = o.stamp; command = o.estimate }))
  pub adopted : o.round ≤ o.stamp → (v : Command) × IsUpTo facts b.adopted (Adopt i o.round v)
  pub proposed : (v : Command) → o.proposal ≡ Some v → IsUpTo facts b.proposed (Propose i o.round v)

-- the same of any row
abbrev pub IsBackedRow : List Fact → ℕ → Backing → Standing → Type 0
IsBackedRow facts i b (Decided v) = IsUpTo facts b.decided (Decide i v)
IsBackedRow facts i b (Open o) = IsBackedOpen facts i b o

-- the same where there may be no row
abbrev pub IsBackedBefore : List Fact → ℕ → Backing → Option Standing → Type 0
IsBackedBefore facts i b None = Unit {0}
IsBackedBefore facts i b (Some s) = IsBackedRow facts i b s

pub row_more : (facts more : List Fact) (i : ℕ) (b : Backing) (s : Standing) → IsBackedRow facts i b s → IsBackedRow (facts ++ more) i b s
row_more facts more i b (Decided v) x = up_to_more facts more _ _ x
row_more facts more i b (Open o) x = record {
  below = x.below;
  entered = λ l. up_to_more facts more _ _ (x.entered l);
  adopted = λ l. ((x.adopted l).0, up_to_more facts more _ _ (x.adopted l).1);
  proposed = λ v e. up_to_more facts more _ _ (x.proposed v e);
}

entered_backed : (facts : List Fact) (i : ℕ) (b : Backing) (e : Estimated) → e.stamp < e.round → IsBackedOpen (facts ++ Enter i e ∷ []) i (backing_after (length facts) (Enter i e) b) (record { round = e.round; stamp = e.stamp; estimate = e.command; proposal = None })
entered_backed facts i b e l = record {
  below = omega arith;
  entered = λ x. up_to_last facts (Enter i e);
  adopted = λ x. absurd (omega arith);
  proposed = λ v x. absurd (none-some v x);
}

-- a fact that fits leaves a row whose numbers back its messages
pub step_backed : (n p : ℕ) (facts : List Fact) (f : Fact) (b : Backing) (was : Option Standing) (s : Standing) → IsBackedBefore facts (instance_of f) b was → fits n p was f ≡ true → after_fact was f ≡ Some s → IsBackedRow (facts ++ f ∷ []) (instance_of f) (backing_after (length facts) f b) s
step_backed n p facts (Enter i e) b None s x fit a =
    let parts : (nat_lt 0 e.round ≡ true) × ((e.stamp == 0) ≡ true) = and_parts (nat_lt 0 e.round) (e.stamp == 0) fit in
    let l : 0 < e.round = ltb-true _ _ parts.0 in
    let z : e.stamp ≡ 0 = eqb-true _ _ parts.1 in
    subst (IsBackedRow (facts ++ Enter i e ∷ []) i (backing_after (length facts) (Enter i e) b)) (same_Some _ s a) (entered_backed facts i b e (omega arith))
step_backed n p facts (Enter i e) b (Some (Decided w)) s x fit a = absurd (false≢true fit)
step_backed n p facts (Enter i e) b (Some (Open o)) s x fit a =
    let parts : (nat_lt o.round e.round ≡ true) × ((e.stamp == o.stamp && is_same_command e.command o.estimate) ≡ true) = and_parts (nat_lt o.round e.round) (e.stamp == o.stamp && is_same_command e.command o.estimate) fit in
    let l : o.round < e.round = ltb-true _ _ parts.0 in
    let z : e.stamp ≡ o.stamp = eqb-true _ _ (and_parts (e.stamp == o.stamp) (is_same_command e.command o.estimate) parts.1).0 in
    let w : o.stamp ≤ o.round = x.below in
    subst (IsBackedRow (facts ++ Enter i e ∷ []) i (backing_after (length facts) (Enter i e) b)) (same_Some _ s a) (entered_backed facts i b e (omega arith))
step_backed n p facts (Propose i r v) b None s x fit a = absurd (none-some s a)
step_backed n p facts (Propose i r v) b (Some (Decided w)) s x fit a = absurd (false≢true fit)
step_backed n p facts (Propose i r v) b (Some (Open o)) s x fit a =
    let e : o.round ≡ r = eqb-true _ _ (and_parts (o.round == r) (coordinator_of r n == p) (and_parts (o.round == r && coordinator_of r n == p) (is_none o.proposal) fit).0).0 in
    subst (IsBackedRow (facts ++ Propose i r v ∷ []) i (backing_after (length facts) (Propose i r v) b)) (same_Some _ s a) (made e)
  where
    made : o.round ≡ r → IsBackedOpen (facts ++ Propose i r v ∷ []) i (backing_after (length facts) (Propose i r v) b) (record o { proposal = Some v })
    made e = record {
      below = x.below;
      entered = λ l. up_to_more facts _ _ _ (x.entered l);
      adopted = λ l. ((x.adopted l).0, up_to_more facts _ _ _ (x.adopted l).1);
      proposed = λ w y. subst (λ z. IsUpTo (facts ++ Propose i r v ∷ []) (length facts) (Propose i z w)) (sym e) (subst (λ z. IsUpTo (facts ++ Propose i r v ∷ []) (length facts) (Propose i r z)) (same_Some v w y) (up_to_last facts (Propose i r v)));
    }
step_backed n p facts (Adopt i r v) b None s x fit a = absurd (none-some s a)
step_backed n p facts (Adopt i r v) b (Some (Decided w)) s x fit a = absurd (false≢true fit)
step_backed n p facts (Adopt i r v) b (Some (Open o)) s x fit a =
    let e : o.round ≡ r = eqb-true _ _ (and_parts (o.round == r) (nat_lt o.stamp r) fit).0 in
    subst (IsBackedRow (facts ++ Adopt i r v ∷ []) i (backing_after (length facts) (Adopt i r v) b)) (same_Some _ s a) (made e)
  where
    made : o.round ≡ r → IsBackedOpen (facts ++ Adopt i r v ∷ []) i (backing_after (length facts) (Adopt i r v) b) (record o { stamp = r; estimate = v })
    made e = record {
      below = omega arith;
      entered = λ l. absurd (omega arith);
      adopted = λ l. (v, subst (λ z. IsUpTo (facts ++ Adopt i r v ∷ []) (length facts) (Adopt i z v)) (sym e) (up_to_last facts (Adopt i r v)));
      proposed = λ w y. up_to_more facts _ _ _ (x.proposed w y);
    }
step_backed n p facts (Decide i v) b was s x fit a = subst (IsBackedRow (facts ++ Decide i v ∷ []) i (backing_after (length facts) (Decide i v) b)) (same_Some _ s a) (up_to_last facts (Decide i v))

-- the last fact's number backs what any number does
abbrev pub all_at : ℕ → Backing
all_at k = record { entered = k; proposed = k; adopted = k; decided = k }

backed_end : (facts : List Fact) (i : ℕ) (b : Backing) (s : Standing) → IsBackedRow facts i b s → IsBackedRow facts i (all_at (length facts - 1)) s
backed_end facts i b (Decided v) x = up_to_end facts _ _ x
backed_end facts i b (Open o) x = record {
  below = x.below;
  entered = λ l. up_to_end facts _ _ (x.entered l);
  adopted = λ l. ((x.adopted l).0, up_to_end facts _ _ (x.adopted l).1);
  proposed = λ v e. up_to_end facts _ _ (x.proposed v e);
}

-- some numbers back the row of each instance
SomeBacked : List Fact → ℕ → Option Standing → Type 0
SomeBacked facts i s = (b : Backing) × IsBackedBefore facts i b s

some_more : (facts more : List Fact) (i : ℕ) (s : Option Standing) → SomeBacked facts i s → SomeBacked (facts ++ more) i s
unfolding SomeBacked
some_more facts more i None x = (x.0, tt)
some_more facts more i (Some s) x = (x.0, row_more facts more i x.0 s x.1)

some_after : (n p : ℕ) (facts : List Fact) (f : Fact) (was s : Option Standing) → SomeBacked facts (instance_of f) was → fits n p was f ≡ true → after_fact was f ≡ s → SomeBacked (facts ++ f ∷ []) (instance_of f) s
unfolding SomeBacked
some_after n p facts f was None x fit a = (all_at 0, tt)
some_after n p facts f was (Some s) x fit a = (backing_after (length facts) f x.0, step_backed n p facts f x.0 was s x.1 fit a)

some_push : (n p : ℕ) (facts : List Fact) (f : Fact) (i : ℕ) → ((j : ℕ) → SomeBacked facts j (standing_of j facts)) → fits n p (standing_of (instance_of f) facts) f ≡ true → (b : Bool) → (instance_of f == i) ≡ b → SomeBacked (facts ++ f ∷ []) i (if b then after_fact (standing_of i facts) f else standing_of i facts)
some_push n p facts f i at fit true e = subst (λ z. SomeBacked (facts ++ f ∷ []) z (after_fact (standing_of z facts) f)) (eqb-true _ _ e) (some_after n p facts f (standing_of (instance_of f) facts) (after_fact (standing_of (instance_of f) facts) f) (at (instance_of f)) fit refl)
some_push n p facts f i at fit false e = some_more facts (f ∷ []) i (standing_of i facts) (at i)

fit_backed : (n p : ℕ) (before facts : List Fact) (es : List Entry) → all_fit n p es facts ≡ true → ((i : ℕ) → standing_in es i ≡ standing_of i before) → ((i : ℕ) → SomeBacked before i (standing_of i before)) → (i : ℕ) → SomeBacked (before ++ facts) i (standing_of i (before ++ facts))
fit_backed n p before [] es fit at x i = subst (λ z. SomeBacked z i (standing_of i z)) (sym (append-nil before)) (x i)
fit_backed n p before (f ∷ facts) es fit at x i =
    let parts : (fits n p (standing_in es (instance_of f)) f ≡ true) × (all_fit n p (take_on es f) facts ≡ true) = and_parts _ _ fit in
    subst (λ z. SomeBacked z i (standing_of i z)) (append_assoc before (f ∷ []) facts)
    (fit_backed n p (before ++ f ∷ []) facts (take_on es f) parts.1
    (λ j. standing_in-take_on es f j ∙ ap (λ s. if instance_of f == j then after_fact s f else s) (at j) ∙ sym (standing_push j before f))
    (λ j. subst (SomeBacked (before ++ f ∷ []) j) (sym (standing_push j before f)) (some_push n p before f j x (subst (λ s. fits n p s f ≡ true) (at (instance_of f)) parts.0) (instance_of f == j) refl))
    i)

ended : (facts : List Fact) (i : ℕ) (s : Standing) (was : Option Standing) → was ≡ Some s → SomeBacked facts i was → IsBackedRow facts i (all_at (length facts - 1)) s
unfolding SomeBacked
ended facts i s None e x = absurd (none-some s e)
ended facts i s (Some t) e x = subst (IsBackedRow facts i (all_at (length facts - 1))) (same_Some t s e) (backed_end facts i x.0 t x.1)

nothing_backed : (i : ℕ) → SomeBacked [] i (standing_of i [])
unfolding SomeBacked
nothing_backed i = (all_at 0, tt)

-- where the facts of an opening fit, the number of the last backs all rows
pub fitting_backed : (n p : ℕ) (facts : List Fact) → all_fit n p [] facts ≡ true → (i : ℕ) (s : Standing) → standing_of i facts ≡ Some s → IsBackedRow facts i (all_at (length facts - 1)) s
fitting_backed n p facts fit i s e = ended facts i s (standing_of i facts) e (fit_backed n p [] facts [] fit (λ j. refl) nothing_backed i)

-- facts with numbers up to k back a message; an acknowledgement of round 0 is none
abbrev pub IsBackedUpTo : List Fact → ℕ → Body → Type 0
IsBackedUpTo facts k (Estimate i e) = IsUpTo facts k (Enter i e)
IsBackedUpTo facts k (Proposal i r v) = IsUpTo facts k (Propose i r v)
IsBackedUpTo facts k (Ack i r) = 0 < r → (v : Command) × IsUpTo facts k (Adopt i r v)
IsBackedUpTo facts k (Decision i v) = IsUpTo facts k (Decide i v)
IsBackedUpTo facts k (Request c) = Unit {0}
IsBackedUpTo facts k (Nack i r) = Unit {0}
IsBackedUpTo facts k Beat = Unit {0}
IsBackedUpTo facts k (Suspects set) = Unit {0}
IsBackedUpTo facts k (Ask i) = Unit {0}

-- and one that waits for no fact needs none
abbrev pub IsBackedAt : List Fact → Option ℕ → Body → Type 0
IsBackedAt facts None b = IsBacked b []
IsBackedAt facts (Some k) b = IsBackedUpTo facts k b

-- an owed message is the node's own, backed by facts up to its number, and a request in it was submitted here
pub record IsTrulyOwed (p : ℕ) (facts : List Fact) (h : Heard) (o : Owed) : Type 0 where
  pub from : o.message.from ≡ p
  pub backed : IsBackedAt facts o.backing o.message.body
  pub submitted : IsOfSubmitted o.message.body h.commands

body_more : (facts more : List Fact) (k : ℕ) (b : Body) → IsBackedUpTo facts k b → IsBackedUpTo (facts ++ more) k b
body_more facts more k (Estimate i e) x = up_to_more facts more _ _ x
body_more facts more k (Proposal i r v) x = up_to_more facts more _ _ x
body_more facts more k (Ack i r) x = λ l. ((x l).0, up_to_more facts more _ _ (x l).1)
body_more facts more k (Decision i v) x = up_to_more facts more _ _ x
body_more facts more k (Request c) x = tt
body_more facts more k (Nack i r) x = tt
body_more facts more k Beat x = tt
body_more facts more k (Suspects set) x = tt
body_more facts more k (Ask i) x = tt

at_more : (facts more : List Fact) (k : Option ℕ) (b : Body) → IsBackedAt facts k b → IsBackedAt (facts ++ more) k b
at_more facts more None b x = x
at_more facts more (Some k) b x = body_more facts more k b x

pub of_more : (b : Body) (cs ds : List Command) → ((c : Command) → Contains cs c → Contains ds c) → IsOfSubmitted b cs → IsOfSubmitted b ds
of_more (Estimate i e) cs ds w x = tt
of_more (Proposal i r v) cs ds w x = tt
of_more (Ack i r) cs ds w x = tt
of_more (Decision i v) cs ds w x = tt
of_more (Request c) cs ds w x = w c x
of_more (Nack i r) cs ds w x = tt
of_more Beat cs ds w x = tt
of_more (Suspects set) cs ds w x = tt
of_more (Ask i) cs ds w x = tt

-- what is truly owed stays so, with more facts and more heard
pub truly_more : (p : ℕ) (facts more : List Fact) (h g : Heard) (o : Owed) → ((c : Command) → Contains h.commands c → Contains g.commands c) → IsTrulyOwed p facts h o → IsTrulyOwed p (facts ++ more) g o
truly_more p facts more h g o w x = record { from = x.from; backed = at_more facts more o.backing o.message.body x.backed; submitted = of_more o.message.body h.commands g.commands w x.submitted }

pub truly_heard : (p : ℕ) (facts : List Fact) (h g : Heard) (o : Owed) → ((c : Command) → Contains h.commands c → Contains g.commands c) → IsTrulyOwed p facts h o → IsTrulyOwed p facts g o
truly_heard p facts h g o w x = record { from = x.from; backed = x.backed; submitted = of_more o.message.body h.commands g.commands w x.submitted }

-- facts up to number k are among the first m where k is below m
pub backed_below : (facts : List Fact) (k m : ℕ) (b : Body) → k < m → ((i r : ℕ) → b ≡ Ack i r → 0 < r) → IsBackedUpTo facts k b → IsBacked b (take m facts)
backed_below facts k m (Estimate i e) l z x = slice_contains facts x.0 m _ x.2 (let y : x.0 ≤ k = x.1 in omega arith)
backed_below facts k m (Proposal i r v) l z x = slice_contains facts x.0 m _ x.2 (let y : x.0 ≤ k = x.1 in omega arith)
backed_below facts k m (Ack i r) l z x = let u : (v : Command) × IsUpTo facts k (Adopt i r v) = x (z i r refl) in (u.0, slice_contains facts (u.1).0 m _ (u.1).2 (let y : (u.1).0 ≤ k = (u.1).1 in omega arith))
backed_below facts k m (Decision i v) l z x = slice_contains facts x.0 m _ x.2 (let y : x.0 ≤ k = x.1 in omega arith)
backed_below facts k m (Request c) l z x = tt
backed_below facts k m (Nack i r) l z x = tt
backed_below facts k m Beat l z x = tt
backed_below facts k m (Suspects set) l z x = tt
backed_below facts k m (Ask i) l z x = tt

-- a message that needs no fact is backed by any
pub backed_free : (b : Body) (facts : List Fact) → IsBacked b [] → IsBacked b facts
backed_free (Estimate i e) facts x = let l : x.0 < 0 = x.1 in absurd (omega arith)
backed_free (Proposal i r v) facts x = let l : x.0 < 0 = x.1 in absurd (omega arith)
backed_free (Ack i r) facts x = let l : (x.1).0 < 0 = (x.1).1 in absurd (omega arith)
backed_free (Decision i v) facts x = let l : x.0 < 0 = x.1 in absurd (omega arith)
backed_free (Request c) facts x = tt
backed_free (Nack i r) facts x = tt
backed_free Beat facts x = tt
backed_free (Suspects set) facts x = tt
backed_free (Ask i) facts x = tt
