-- The lists of a state with what a step adds to them.
use Rattle.std.proofs.Common.{◌≡◌, ◌+◌, ◌<◌, ℕ, arith, Bool, true, false, eqb, cond, ◌&&◌, ◌||◌, not, List, [], ◌∷◌, ◌++◌, ap, sym, ◌∙◌, refl, Option, Some, None, append-nil, append_assoc, get_or, drop, take, length, length-append}
use Rattle.std.specs.Prelude.{filter, find}
use Rattle.std.specs.List.{list_any}
use Rattle.std.proofs.lemmas.Bool.{ne_eqb, eq-eqb, eqb-true, eqb-false, false≢true}
use Rattle.std.proofs.lemmas.List.{take_more}
use Rattle.std.proofs.lemmas.List.Elements.{filter-append}
use Rattle.std.proofs.lemmas.List.Folds.{list_any-append, find-append}
use Rattle.rr_types.specs.declared.command.RequestNo.{RequestNo}
use Rattle.rr_types.specs.declared.command.Command.{Command}
use Rattle.rr_types.specs.declared.fact.Fact.{Fact}
use Rattle.rr_types.specs.Registry.{is_same_request, has_request}
use Rattle.rr_model.specs.NodeState.{NodeState, Row}
use Rattle.rr_core.specs.Places.{first_free, is_estimate_beside, is_free}
use Rattle.rr_core.specs.Steps.{Changed, combined, without_requests, AreNew, AreNewRequests}
use Rattle.rr_state.proofs.SameLemmas.{request_is}

-- nothing is taken out
pub none_taken : (cs : List Command) → without_requests [] cs ≡ cs
none_taken [] = refl
none_taken (c ∷ cs) = ap (λ (r : List Command). c ∷ r) (none_taken cs)

-- a step that has changed nothing yet
pub combined_none : (s : NodeState) (c : Changed) → c.rows ≡ [] → c.staged ≡ [] → c.taken ≡ [] → c.pooled ≡ [] → c.suspects ≡ s.suspects → c.watches ≡ s.watches → c.waiting ≡ [] → c.owed ≡ [] → combined s c ≡ s
combined_none s c r t k p u w q o = rw (r, t, k, p, u, w, q, o, append-nil s.staged, append-nil s.pool, none_taken s.pool, append-nil s.waiting, append-nil s.owed) refl

same_number : (a b : ℕ) → eqb a b ≡ eqb b a
same_number a b = by (eqb a b) refl
  where
    by : (x : Bool) → eqb a b ≡ x → eqb a b ≡ eqb b a
    by true e = e ∙ sym (eq-eqb _ _ (sym (eqb-true _ _ e)))
    by false e = e ∙ sym (ne_eqb _ _ (λ same. eqb-false _ _ e (sym same)))

same_request : (p q : RequestNo) → is_same_request p q ≡ is_same_request q p
same_request p q = rw (same_number p.client q.client, same_number p.seq q.seq) refl

-- a decision takes its request number out
pub without_one : (taken : List RequestNo) (q : RequestNo) (cs : List Command) → filter (λ c. not (is_same_request c.request q)) (without_requests taken cs) ≡ without_requests (taken ++ q ∷ []) cs
without_one taken q [] = refl
without_one taken q (c ∷ cs) = rw (list_any-append (λ p. is_same_request p c.request) taken (q ∷ []), same_request q c.request) (by (without_one taken q cs) (list_any (λ p. is_same_request p c.request) taken) (is_same_request c.request q) refl)
  where
    by : filter (λ c. not (is_same_request c.request q)) (without_requests taken cs) ≡ without_requests (taken ++ q ∷ []) cs → (a b : Bool) → is_same_request c.request q ≡ b → filter (λ c. not (is_same_request c.request q)) (cond (not a) (c ∷ without_requests taken cs) (without_requests taken cs)) ≡ cond (not (a || (b || false))) (c ∷ without_requests (taken ++ q ∷ []) cs) (without_requests (taken ++ q ∷ []) cs)
    by more true b e = more
    by more false true e = rw e more
    by more false false e = rw e (ap (λ (r : List Command). c ∷ r) more)

pub taken_more : (taken : List RequestNo) (p q : RequestNo) (known : Bool) → (list_any (λ t. is_same_request t q) taken ≡ true → known ≡ true) → (is_same_request p q ≡ true → known ≡ true) → list_any (λ t. is_same_request t q) (taken ++ p ∷ []) ≡ true → known ≡ true
taken_more taken p q known h k e = by (list_any (λ t. is_same_request t q) taken) (is_same_request p q) refl refl (sym (list_any-append (λ t. is_same_request t q) taken (p ∷ [])) ∙ e)
  where
    by : (a b : Bool) → list_any (λ t. is_same_request t q) taken ≡ a → is_same_request p q ≡ b → (a || (b || false)) ≡ true → known ≡ true
    by true b f g m = h f
    by false true f g m = k g
    by false false f g m = absurd (false≢true m)

-- a request waits by the state or by the step
pub waiting_in_both : (q : RequestNo) (xs ys : List RequestNo) → list_any (λ w. is_same_request w q) (xs ++ ys) ≡ (list_any (λ w. is_same_request w q) xs || list_any (λ w. is_same_request w q) ys)
waiting_in_both q xs ys = list_any-append (λ w. is_same_request w q) xs ys

-- commands with this request number, of which the taken ones are left out
has_left : (taken : List RequestNo) (q : RequestNo) (cs : List Command) → has_request (without_requests taken cs) q ≡ (has_request cs q && not (list_any (λ p. is_same_request p q) taken))
has_left taken q [] = refl
has_left taken q (c ∷ cs) = by (has_left taken q cs) (list_any (λ p. is_same_request p c.request) taken) (is_same_request c.request q) refl refl
  where
    by : has_request (without_requests taken cs) q ≡ (has_request cs q && not (list_any (λ p. is_same_request p q) taken)) → (a b : Bool) → list_any (λ p. is_same_request p c.request) taken ≡ a → is_same_request c.request q ≡ b → has_request (without_requests taken (c ∷ cs)) q ≡ (has_request (c ∷ cs) q && not (list_any (λ p. is_same_request p q) taken))
    by more true true e f =
        let g : list_any (λ p. is_same_request p q) taken ≡ true = ap (λ (r : RequestNo). list_any (λ p. is_same_request p r) taken) (sym (request_is _ _ f)) ∙ e in
        rw (e, f) (more ∙ rw g (ends (has_request cs q)))
      where
        ends : (x : Bool) → (x && false) ≡ false
        ends true = refl
        ends false = refl
    by more true false e f = rw (e, f) more
    by more false true e f =
        let g : list_any (λ p. is_same_request p q) taken ≡ false = ap (λ (r : RequestNo). list_any (λ p. is_same_request p r) taken) (sym (request_is _ _ f)) ∙ e in
        rw (e, f, g) refl
    by more false false e f = rw (e, f) more

has_both : (q : RequestNo) (xs ys : List Command) → has_request (xs ++ ys) q ≡ (has_request xs q || has_request ys q)
has_both q [] ys = refl
has_both q (x ∷ xs) ys = by (has_both q xs ys) (is_same_request x.request q)
  where
    by : has_request (xs ++ ys) q ≡ (has_request xs q || has_request ys q) → (b : Bool) → cond b true (has_request (xs ++ ys) q) ≡ (cond b true (has_request xs q) || has_request ys q)
    by more true = refl
    by more false = more

pub has_in_both : (taken : List RequestNo) (q : RequestNo) (cs ds : List Command) → has_request (without_requests taken (cs ++ ds)) q ≡ ((has_request cs q || has_request ds q) && not (list_any (λ p. is_same_request p q) taken))
has_in_both taken q cs ds = has_left taken q (cs ++ ds) ∙ ap (λ (b : Bool). b && not (list_any (λ p. is_same_request p q) taken)) (has_both q cs ds)

-- the first free command is the first of those that weren't taken
free_is : (rows : List Row) (is : List ℕ) (i : ℕ) (taken : List RequestNo) (cs : List Command) → first_free rows is i (without_requests taken cs) ≡ find (is_free rows is i taken) cs
unfolding first_free is_free
free_is rows is i taken [] = refl
free_is rows is i taken (c ∷ cs) = by (free_is rows is i taken cs) (list_any (λ q. is_same_request q c.request) taken)
  where
    by : find (λ d. not (is_estimate_beside rows is i d)) (without_requests taken cs) ≡ find (is_free rows is i taken) cs → (a : Bool) → find (λ d. not (is_estimate_beside rows is i d)) (cond (not a) (c ∷ without_requests taken cs) (without_requests taken cs)) ≡ cond (not a && not (is_estimate_beside rows is i c)) (Some c) (find (is_free rows is i taken) cs)
    by more true = more
    by more false = ap (λ (x : Option Command). cond (not (is_estimate_beside rows is i c)) (Some c) x) more

-- it is one of the first commands, or else of the others
pub free_in_base : (rows : List Row) (is : List ℕ) (i : ℕ) (taken : List RequestNo) (xs ys : List Command) (c : Command) → Some c ≡ find (is_free rows is i taken) xs → Some c ≡ first_free rows is i (without_requests taken (xs ++ ys))
free_in_base rows is i taken xs ys c e = sym (free_is rows is i taken (xs ++ ys) ∙ find-append _ xs ys ∙ rw (sym e) refl)

pub free_in_pooled : (rows : List Row) (is : List ℕ) (i : ℕ) (taken : List RequestNo) (xs ys : List Command) (x : Option Command) → None ≡ find (is_free rows is i taken) xs → x ≡ find (is_free rows is i taken) ys → x ≡ first_free rows is i (without_requests taken (xs ++ ys))
free_in_pooled rows is i taken xs ys x e f = f ∙ sym (free_is rows is i taken (xs ++ ys) ∙ find-append _ xs ys ∙ rw (sym e) refl)

-- one more command is pooled
pub pooled_last : (taken : List RequestNo) (cs ds : List Command) (c : Command) → list_any (λ p. is_same_request p c.request) taken ≡ false → without_requests taken (cs ++ (ds ++ c ∷ [])) ≡ without_requests taken (cs ++ ds) ++ c ∷ []
pooled_last taken cs ds c h = ap (without_requests taken) (sym (append_assoc cs ds (c ∷ []))) ∙ filter-append _ (cs ++ ds) (c ∷ []) ∙ rw h refl

new_last : (before ds : List Command) (c : Command) → AreNew before ds → has_request (before ++ ds) c.request ≡ false → AreNew before (ds ++ c ∷ [])
new_last before [] c n h = (rw (append-nil before) at h, tt)
new_last before (d ∷ ds) c n h = (n.0, new_last (before ++ d ∷ []) ds c n.1 (rw (append_assoc before (d ∷ []) ds) h))

pub request_new : (before qs : List RequestNo) (q : RequestNo) → AreNewRequests before qs → list_any (λ w. is_same_request w q) (before ++ qs) ≡ false → AreNewRequests before (qs ++ q ∷ [])
request_new before [] q n h = (rw (append-nil before) at h, tt)
request_new before (p ∷ qs) q n h = (n.0, request_new (before ++ p ∷ []) qs q n.1 (rw (append_assoc before (p ∷ []) qs) h))

-- a request number that isn't decided isn't taken
not_taken : (taken : List RequestNo) (q : RequestNo) (known : Bool) → (list_any (λ p. is_same_request p q) taken ≡ true → known ≡ true) → known ≡ false → list_any (λ p. is_same_request p q) taken ≡ false
not_taken taken q known h k = by (list_any (λ p. is_same_request p q) taken) refl
  where
    by : (b : Bool) → list_any (λ p. is_same_request p q) taken ≡ b → list_any (λ p. is_same_request p q) taken ≡ false
    by false e = e
    by true e = absurd (false≢true (sym k ∙ h e))

-- a command that is neither in the pool nor decided is new
pub command_new : (taken : List RequestNo) (before ds : List Command) (c : Command) → AreNew before ds → list_any (λ p. is_same_request p c.request) taken ≡ false → has_request (without_requests taken (before ++ ds)) c.request ≡ false → AreNew before (ds ++ c ∷ [])
command_new taken before ds c n h k = new_last before ds c n (by (has_request (before ++ ds) c.request) refl)
  where
    by : (b : Bool) → has_request (before ++ ds) c.request ≡ b → has_request (before ++ ds) c.request ≡ false
    by false e = e
    by true e = absurd (false≢true (sym k ∙ has_left taken c.request (before ++ ds) ∙ rw (e, h) refl))

pub count_both : (xs ys : List Fact) → length (xs ++ ys) ≡ length xs + length ys
count_both xs ys = length-append xs ys

-- commands one by one: the first is new, and so are the others behind it
pub first_new : (before cs : List Command) (c d : Command) → 0 < length cs → c ≡ get_or cs 0 d → AreNew before cs → has_request before c.request ≡ false
first_new before [] c d l e n = absurd (omega arith)
first_new before (x ∷ cs) c d l e n = rw e n.0

pub rest_new : (before cs : List Command) (c d : Command) → 0 < length cs → c ≡ get_or cs 0 d → AreNew before cs → AreNew (before ++ c ∷ []) (drop 1 cs)
rest_new before [] c d l e n = absurd (omega arith)
rest_new before (x ∷ cs) c d l e n = rw e n.1

pub first_request : (before qs : List RequestNo) (q d : RequestNo) → 0 < length qs → q ≡ get_or qs 0 d → AreNewRequests before qs → list_any (λ w. is_same_request w q) before ≡ false
first_request before [] q d l e n = absurd (omega arith)
first_request before (x ∷ qs) q d l e n = rw e n.0

pub rest_requests : (before qs : List RequestNo) (q d : RequestNo) → 0 < length qs → q ≡ get_or qs 0 d → AreNewRequests before qs → AreNewRequests (before ++ q ∷ []) (drop 1 qs)
rest_requests before [] q d l e n = absurd (omega arith)
rest_requests before (x ∷ qs) q d l e n = rw e n.1

pub first_rest : {X : Type 0} (before xs : List X) (x d : X) → 0 < length xs → x ≡ get_or xs 0 d → (before ++ x ∷ []) ++ drop 1 xs ≡ before ++ xs
first_rest before [] x d l e = absurd (omega arith)
first_rest before (y ∷ xs) x d l e = append_assoc before (x ∷ []) xs ∙ rw e refl

-- one more request is taken out
pub taken_step : (taken : List RequestNo) (cs pool after : List Command) (k : ℕ) (d : RequestNo) → k < length taken → pool ≡ without_requests (take k taken) cs → after ≡ filter (λ c. not (is_same_request c.request (get_or taken k d))) pool → after ≡ without_requests (take (k + 1) taken) cs
taken_step taken cs pool after k d l e f =
    f ∙ ap (filter (λ c. not (is_same_request c.request (get_or taken k d)))) e ∙ without_one (take k taken) (get_or taken k d) cs ∙ ap (λ (qs : List RequestNo). without_requests qs cs) (sym (take_more taken k d l))
