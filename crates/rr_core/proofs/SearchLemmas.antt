-- Searching the decided prefix for requests that wait.
use Rattle.std.proofs.Common.{◌≡◌, ◌+◌, ◌≤◌, ◌<◌, ℕ, arith, Bool, true, false, cond, ◌||◌, List, [], ◌∷◌, ◌++◌, length, take, drop, ap, sym, ◌∙◌, refl, subst, Option, Some, None, is_some, IsSome, Result, Ok, Err, OnOk, OnErr, IfOk}
use Rattle.std.specs.Prelude.{find, slice_get}
use Rattle.std.specs.Option.{option_map_or}
use Rattle.std.specs.List.{list_any}
use Rattle.std.proofs.lemmas.Bool.{false≢true, eq-eqb}
use Rattle.std.proofs.lemmas.List.{take-append-drop, take-append-le, length-append}
use Rattle.std.proofs.lemmas.List.Folds.{list_any-append}
use Rattle.std.proofs.lemmas.Option.{none-some, slice_get_within}
use Rattle.std.proofs.Math.Seq.{take-length}
use Rattle.std.specs.declared.alloc.AllocError.{AllocError}
use Rattle.rr_types.specs.declared.command.Command.{Command}
use Rattle.rr_types.specs.declared.command.RequestNo.{RequestNo}
use Rattle.rr_types.specs.declared.fact.Fact.{Fact}
use Rattle.rr_types.specs.declared.refusal.Refusal.{Refusal}
use Rattle.rr_types.specs.Groups.{Grouped}
use Rattle.rr_types.specs.Promises.{take_on_all, decided_from}
use Rattle.rr_types.specs.Registry.{has_request, is_same_request}
use Rattle.rr_registry.specs.Kept.{Kept, kept_reply}
use Rattle.rr_model.specs.NodeState.{NodeState, decided_prefix}
use Rattle.rr_model.specs.NodeStep.{group_taken, group_put_back, marked_running, running_group}
use Rattle.rr_state.specs.Arrived.{without_first}
use Rattle.rr_state.proofs.SameLemmas.{request_is}
use Rattle.rr_core.specs.Steps.{Changed, combined}
use Rattle.rr_core.specs.Kept.{IsKept}
use Rattle.rr_core.specs.Searched.{IsSearched}
use Rattle.rr_core.proofs.MarkLemmas.{replied_where, take_next}

or_left : (a b : Bool) → (a || b) ≡ false → a ≡ false
or_left true b h = h
or_left false b h = refl

or_right : (a b : Bool) → (a || b) ≡ false → b ≡ false
or_right true b h = absurd (false≢true (sym h))
or_right false b h = h

both_no : (a b : Bool) → a ≡ false → b ≡ false → (a || b) ≡ false
both_no a b e f = rw (e, f) refl

-- where none passes a test, none passes one that says yes more seldom
none_less : {X : Type 0} (p q : X → Bool) (xs : List X) → ((x : X) → p x ≡ false → q x ≡ false) → list_any p xs ≡ false → list_any q xs ≡ false
none_less p q [] h n = refl
none_less p q (x ∷ xs) h n = both_no (q x) (list_any q xs) (h x (or_left (p x) _ n)) (none_less p q xs h (or_right (p x) _ n))

-- none is found then, and none is left
no_find : {X : Type 0} (p : X → Bool) (xs : List X) → list_any p xs ≡ false → find p xs ≡ None
no_find p [] h = refl
no_find p (x ∷ xs) h = ap (λ (b : Bool). cond b (Some x) (find p xs)) (or_left (p x) (list_any p xs) h) ∙ no_find p xs (or_right (p x) (list_any p xs) h)

none_found : {X : Type 0} (p : X → Bool) (xs : List X) → find p xs ≡ None → list_any p xs ≡ false
none_found p [] h = refl
none_found p (x ∷ xs) h = by (none_found p xs) (p x) refl
  where
    by : (find p xs ≡ None → list_any p xs ≡ false) → (b : Bool) → p x ≡ b → (p x || list_any p xs) ≡ false
    by more true e = absurd (none-some x (sym (subst (λ (b : Bool). cond b (Some x) (find p xs) ≡ None) e h)))
    by more false e = both_no (p x) (list_any p xs) e (more (subst (λ (b : Bool). cond b (Some x) (find p xs) ≡ None) e h))

none_left : {X : Type 0} (p t : X → Bool) (xs : List X) → list_any p xs ≡ false → list_any p (without_first t xs) ≡ false
none_left p t [] h = refl
none_left p t (x ∷ xs) h = by (none_left p t xs (or_right (p x) _ h)) (t x)
  where
    by : list_any p (without_first t xs) ≡ false → (b : Bool) → list_any p (cond b xs (x ∷ without_first t xs)) ≡ false
    by more true = or_right (p x) _ h
    by more false = both_no (p x) _ (or_left (p x) _ h) more

-- which requests commands hold with others behind them
has_more : (cs ds : List Command) (q : RequestNo) → has_request (cs ++ ds) q ≡ (has_request cs q || has_request ds q)
has_more [] ds q = refl
has_more (c ∷ cs) ds q = by (has_more cs ds q) (is_same_request c.request q)
  where
    by : has_request (cs ++ ds) q ≡ (has_request cs q || has_request ds q) → (b : Bool) → cond b true (has_request (cs ++ ds) q) ≡ (cond b true (has_request cs q) || has_request ds q)
    by more true = refl
    by more false = more

not_in_front : (n : ℕ) (cs : List Command) (q : RequestNo) → has_request cs q ≡ false → has_request (take n cs) q ≡ false
not_in_front n cs q h = or_left _ _ (sym (has_more (take n cs) (drop n cs) q) ∙ ap (λ (ds : List Command). has_request ds q) (take-append-drop n cs) ∙ h)

itself : (p : RequestNo) → is_same_request p p ≡ true
itself p = rw (eq-eqb p.client p.client refl, eq-eqb p.seq p.seq refl) refl

turned : (p q : RequestNo) → is_same_request p q ≡ false → is_same_request q p ≡ false
turned p q h = by (is_same_request q p) refl
  where
    by : (b : Bool) → is_same_request q p ≡ b → is_same_request q p ≡ false
    by false e = e
    by true e = absurd (false≢true (sym h ∙ ap (λ (r : RequestNo). is_same_request p r) (request_is q p e) ∙ itself p))

-- one more command whose request doesn't wait
one_more : (cs : List Command) (c : Command) (ws : List RequestNo) → list_any (λ w. is_same_request w c.request) ws ≡ false → list_any (has_request cs) ws ≡ false → list_any (has_request (cs ++ c ∷ [])) ws ≡ false
one_more cs c [] a b = refl
one_more cs c (w ∷ ws) a b =
    let other : is_same_request c.request w ≡ false = turned w c.request (or_left (is_same_request w c.request) _ a) in
    both_no (has_request (cs ++ c ∷ []) w) _
    (has_more cs (c ∷ []) w ∙ both_no (has_request cs w) _ (or_left (has_request cs w) _ b) (ap (λ (x : Bool). cond x true false) other))
    (one_more cs c ws (or_right (is_same_request w c.request) _ a) (or_right (has_request cs w) _ b))

pub searched_one : (n : ℕ) (b : Bool) (s : NodeState) (c : Command) → Some c ≡ slice_get (decided_prefix s) n → list_any (λ w. is_same_request w c.request) s.waiting ≡ false → IsSearched n b s → IsSearched (n + 1) b s
searched_one n b s c there waits h =
    let at : n < length (decided_prefix s) = slice_get_within (decided_prefix s) n c (sym there) in
    record {
      within = omega arith;
      none = λ e. subst (λ (cs : List Command). list_any (has_request cs) s.waiting ≡ false) (sym (take_next (decided_prefix s) n c there)) (one_more (take n (decided_prefix s)) c s.waiting waits (h.none e));
    }

-- where all was searched, no request that waits has a reply
pub none_waits : (n : ℕ) (b : Bool) (s : NodeState) (k : Kept) → IsKept s k → n ≡ length (decided_prefix s) → b ≡ false → IsSearched n b s → find (λ q. is_some (kept_reply k q)) s.waiting ≡ None
none_waits n b s k kept e f h =
    let whole : take n (decided_prefix s) ≡ decided_prefix s = ap (λ (m : ℕ). take m (decided_prefix s)) e ∙ take-length (decided_prefix s) in
    let none : list_any (has_request (decided_prefix s)) s.waiting ≡ false = subst (λ (cs : List Command). list_any (has_request cs) s.waiting ≡ false) whole (h.none f) in
    no_find (λ q. is_some (kept_reply k q)) s.waiting
    (none_less (has_request (decided_prefix s)) (λ q. is_some (kept_reply k q)) s.waiting (λ q f. replied_where s k kept q ∙ f) none)

-- where no request that waits has a reply, all is searched
all_searched : (s : NodeState) (k : Kept) → IsKept s k → find (λ q. is_some (kept_reply k q)) s.waiting ≡ None → IsSearched (length (decided_prefix s)) false s
all_searched s k kept h = record {
  within = omega arith;
  none = λ e. subst (λ (cs : List Command). list_any (has_request cs) s.waiting ≡ false) (sym (take-length (decided_prefix s)))
      (none_less (λ q. is_some (kept_reply k q)) (has_request (decided_prefix s)) s.waiting (λ q f. sym (replied_where s k kept q) ∙ f) (none_found (λ q. is_some (kept_reply k q)) s.waiting h));
}

-- a request less waits
pub one_answered : (n : ℕ) (b : Bool) (s now : NodeState) (ws : List RequestNo) (p : RequestNo → Bool) → s ≡ now → ws ≡ without_first p s.waiting → IsSearched n b now → IsSearched n b (record s { waiting = ws })
one_answered n b s now ws p e w h =
    let before : IsSearched n b s = subst (IsSearched n b) (sym e) h in
    record { within = before.within; none = λ f. ap (list_any (has_request (take n (decided_prefix s)))) w ∙ none_left (has_request (take n (decided_prefix s))) p s.waiting (before.none f) }

-- none has a reply
pub none_answered : (m : ℕ) (s now : NodeState) (k : Kept) (ws : List RequestNo) → s ≡ now → IsKept now k → m ≡ length (decided_prefix s) → (find (λ q. is_some (kept_reply k q)) s.waiting ≡ None) × (ws ≡ s.waiting) → IsSearched m false (record s { waiting = ws })
none_answered m s now k ws e kept l h =
    let all : IsSearched m false s = subst (λ (n : ℕ). IsSearched n false s) (sym l) (all_searched s k (subst (λ (t : NodeState). IsKept t k) (sym e) kept) h.0) in
    record { within = all.within; none = λ f. ap (list_any (has_request (take m (decided_prefix s)))) h.1 ∙ all.none f }

-- nothing is searched at first
pub not_searched : (s : NodeState) → IsSearched 0 false s
not_searched s = record { within = omega arith; none = λ e. none s.waiting }
  where
    none : (ws : List RequestNo) → list_any (has_request (take 0 (decided_prefix s))) ws ≡ false
    none [] = refl
    none (w ∷ ws) = none ws

pub stale : (n : ℕ) (b : Bool) (s : NodeState) → IsSearched n b s → IsSearched n true s
stale n b s h = record { within = h.within; none = λ e. absurd (false≢true (sym e)) }

-- what a step has changed is taken on
committed : (n : ℕ) (b : Bool) (s : NodeState) (c : Changed) (k : Kept) → IsKept s k → (b ≡ false → list_any (λ q. is_some (kept_reply k q)) c.waiting ≡ false) → IsSearched n b s → IsSearched n b (combined s c)
committed n b s c k kept new h = record {
  within = h.within;
  none = λ e. list_any-append (has_request front) s.waiting c.waiting ∙ rw (h.none e, none_less (λ q. is_some (kept_reply k q)) (has_request front) c.waiting (λ q f. not_in_front n (decided_prefix s) q (sym (replied_where s k kept q) ∙ f)) (new e)) refl;
}
  where
    front : List Command
    front = take n (decided_prefix s)

pub commit_searched : (n : ℕ) (b : Bool) (s t : NodeState) (c : Changed) (k : Kept) (r : Result (Unit {0}) AllocError) → IsKept s k → OnOk r (t ≡ combined s c) → OnErr r (t ≡ s) → (b ≡ false → list_any (λ q. is_some (kept_reply k q)) c.waiting ≡ false) → IsSearched n b s → IsSearched n b t
commit_searched n b s t c k (Ok u) kept ok err new h = rw ok (committed n b s c k kept new h)
commit_searched n b s t c k (Err e) kept ok err new h = rw err h

-- groups that are taken and put back
pub take_searched : (n : ℕ) (b : Bool) (s t : NodeState) (r : Result (Option Grouped) Refusal) → IfOk r (λ g. g ≡ None → (t ≡ s) × (s.staged ≡ [])) → IfOk r (λ g. IsSome g → (t ≡ group_taken s) × (g ≡ running_group t)) → OnErr r (t ≡ s) → IsSearched n b s → IsSearched n b t
unfolding group_taken
take_searched n b s t (Ok None) none some err h = rw (none refl).0 h
take_searched n b s t (Ok (Some g)) none some err h = rw (some refl).0 record { within = h.within; none = h.none }
take_searched n b s t (Err e) none some err h = rw err h

pub put_back_searched : (n : ℕ) (b : Bool) (s t : NodeState) → t ≡ group_put_back s → IsSearched n b s → IsSearched n b t
unfolding group_put_back
put_back_searched n b s t e h = rw e record { within = h.within; none = h.none }

-- marking lengthens the decided prefix
longer : (n : ℕ) (b : Bool) (s t : NodeState) (more : List Command) → t.waiting ≡ s.waiting → decided_prefix t ≡ decided_prefix s ++ more → IsSearched n b s → IsSearched n b t
longer n b s t more w e h =
    let long : length (decided_prefix t) ≡ length (decided_prefix s) + length more = ap length e ∙ length-append (decided_prefix s) more in
    let before : n ≤ length (decided_prefix s) = h.within in
    let front : take n (decided_prefix t) ≡ take n (decided_prefix s) = ap (take n) e ∙ take-append-le n (decided_prefix s) more before in
    record { within = omega arith; none = λ f. rw (front, w) (h.none f) }

pub marked_searched : (n : ℕ) (b : Bool) (s t : NodeState) (more : List Command) → decided_from 0 (take_on_all s.marked (option_map_or (λ facts. facts) s.running [])) ≡ decided_prefix s ++ more → t ≡ marked_running s → IsSome s.running → IsSearched n b s → IsSearched n b t
unfolding marked_running
marked_searched n b s t more e g runs h = by s.running refl
  where
    by : (o : Option (List Fact)) → s.running ≡ o → IsSearched n b t
    by None f = absurd (false≢true (ap is_some (sym f) ∙ runs))
    by (Some facts) f =
        let after : decided_from 0 (take_on_all s.marked facts) ≡ decided_prefix s ++ more = ap (λ (o : Option (List Fact)). decided_from 0 (take_on_all s.marked (option_map_or (λ facts. facts) o []))) (sym f) ∙ e in
        let make : List Fact → NodeState = (λ facts. record s { running = None; marked = take_on_all s.marked facts; marked_end = s.marked_end + length facts }) in
        let is : t ≡ make facts = g ∙ ap (λ (o : Option (List Fact)). option_map_or make o s) f in
        longer n b s t more (ap (λ (u : NodeState). u.waiting) is) (ap decided_prefix is ∙ after) h
