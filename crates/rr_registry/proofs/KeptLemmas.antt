-- The bound names and kept replies are those of the commands applied, and of each request number the first counts.
use Rattle.std.proofs.Common.{◌≡◌, ℕ, Bool, true, false, cond, List, [], ◌∷◌, ◌++◌, None, Some, Option, Ordering, is_some, refl, sym, ap, ◌∙◌, arith, ◌==◌}
use Rattle.std.specs.declared.cmp.Ordering.TheVariants.{Less, Equal, Greater}
use Rattle.std.specs.Ordering.{is_eq}
use Rattle.std.specs.Cmp.{IsTotalOrder}
use Rattle.std.specs.List.{fold}
use Rattle.std.specs.BTreeMap.{insert_entry, is_at}
use Rattle.std.specs.Map.{lookup}
use Rattle.std.proofs.lemmas.Cmp.{nat_cmp_total, on_total, then_total}
use Rattle.std.proofs.lemmas.Map.Lookups.{CmpEqualImpliesEq}
use Rattle.std.proofs.lemmas.Bool.Decides.{nat_tests}
use Rattle.rr_types.specs.declared.command.RequestNo.{RequestNo}
use Rattle.rr_types.specs.declared.command.Command.{Command}
use Rattle.rr_types.specs.declared.command.Reply.{Reply}
use Rattle.rr_types.specs.Registry.{is_same_request, has_request, Bindings, apply, firsts_beside, reply_after, registry_of, reply_of}
use Rattle.rr_registry.specs.Kept.{Kept, request_cmp, kept_reply, keep, applied, applied_all, kept_of}
use Rattle.rr_registry.proofs.TableLemmas.{eq-request_cmp, lookup-request, exact_requests}

module _ {K X : Type 0} (R : K → K → Ordering) where
  found_past : (k : K) (v : X) (e : K × X) (rest : Option X) (q : K) → IsTotalOrder R → R k e.0 ≡ Greater → (o : Ordering) → R q k ≡ o → cond (is_at (R q) e.0) (Some e.1) (cond (is_at (R q) k) (Some v) rest) ≡ cond (is_at (R q) k) (Some v) (cond (is_at (R q) e.0) (Some e.1) rest)
  found_past k v e rest q t h Less p = rw p
  found_past k v e rest q t h Equal p = let past : R q e.0 ≡ Greater = t.congr q k e.0 p ∙ h in rw (p, past)
  found_past k v e rest q t h Greater p = rw p

  found_at : (k : K) (v : X) (e : K × X) (rest : Option X) (q : K) → k ≡ e.0 → (b : Bool) → is_at (R q) k ≡ b → cond (is_at (R q) e.0) (Some v) rest ≡ cond (is_at (R q) k) (Some v) (cond (is_at (R q) e.0) (Some e.1) rest)
  found_at k v e rest q same true p = let there : is_at (R q) e.0 ≡ true = ap (is_at (R q)) (sym same) ∙ p in rw (p, there)
  found_at k v e rest q same false p = let there : is_at (R q) e.0 ≡ false = ap (is_at (R q)) (sym same) ∙ p in rw (p, there)

  found_first : IsTotalOrder R → CmpEqualImpliesEq R → (k : K) (v : X) (e : K × X) (es : List (K × X)) (q : K) → lookup (is_at (R q)) (insert_entry R es k v) ≡ cond (is_at (R q) k) (Some v) (lookup (is_at (R q)) es) → (o : Ordering) → R k e.0 ≡ o → lookup (is_at (R q)) (insert_entry R (e ∷ es) k v) ≡ cond (is_at (R q) k) (Some v) (lookup (is_at (R q)) (e ∷ es))
  found_first t exact k v e es q more Less h = rw h
  found_first t exact k v e es q more Equal h = rw h (found_at k v e (lookup (is_at (R q)) es) q (exact k e.0 h) (is_at (R q) k) refl)
  found_first t exact k v e es q more Greater h = rw h (ap (cond (is_at (R q) e.0) (Some e.1)) more ∙ found_past k v e (lookup (is_at (R q)) es) q t h (R q k) refl)

  -- what is found once a key has a value
  pub lookup-insert_entry : IsTotalOrder R → CmpEqualImpliesEq R → (k : K) (v : X) (es : List (K × X)) (q : K) → lookup (is_at (R q)) (insert_entry R es k v) ≡ cond (is_at (R q) k) (Some v) (lookup (is_at (R q)) es)
  lookup-insert_entry t exact k v [] q = refl
  lookup-insert_entry t exact k v (e ∷ es) q = found_first t exact k v e es q (lookup-insert_entry t exact k v es q) (R k e.0) refl

pub requests_total : IsTotalOrder request_cmp
requests_total = then_total (on_total (λ q. q.client) nat_cmp_total) (on_total (λ q. q.seq) nat_cmp_total)

-- the reply to each request once one is kept
pub reply_kept : (k : Kept) (r : RequestNo) (step : Bindings × Reply) (q : RequestNo) → kept_reply (keep k r step) q ≡ cond (is_same_request q r) (Some step.1) (kept_reply k q)
reply_kept k r step q =
    sym (lookup-request q (insert_entry request_cmp k.replies r step.1))
    ∙ lookup-insert_entry request_cmp requests_total exact_requests r step.1 k.replies q
    ∙ rw (eq-request_cmp q r, lookup-request q k.replies)

eq_back : (x y : ℕ) → (x == y) ≡ (y == x)
eq_back x y = grind (arith, nat_tests)

pub same_back : (p q : RequestNo) → is_same_request p q ≡ is_same_request q p
same_back p q = rw (eq_back p.client q.client, eq_back p.seq q.seq)

eq_itself : (x : ℕ) → (x == x) ≡ true
eq_itself x = grind (arith, nat_tests)

same_itself : (q : RequestNo) → is_same_request q q ≡ true
same_itself q = rw (eq_itself q.client, eq_itself q.seq)

-- the requests with a kept reply are those of these commands
abbrev Knows : Kept → List Command → Type 0
Knows k seen = (q : RequestNo) → is_some (kept_reply k q) ≡ has_request seen q

-- the first that is there
abbrev pub first_of : {A : Type 0} → Option A → Option A → Option A
first_of None b = b
first_of (Some a) b = Some a

knows_first : (k : Kept) (seen : List Command) (c : Command) (step : Bindings × Reply) → Knows k seen → (q : RequestNo) (b : Bool) → is_same_request q c.request ≡ b → is_some (kept_reply (keep k c.request step) q) ≡ has_request (c ∷ seen) q
knows_first k seen c step h q true same = let back : is_same_request c.request q ≡ true = same_back c.request q ∙ same in rw (reply_kept k c.request step q, same, back)
knows_first k seen c step h q false other = let back : is_same_request c.request q ≡ false = same_back c.request q ∙ other in rw (reply_kept k c.request step q, other, back) (h q)

-- one more command is known
knows_more : (k : Kept) (seen : List Command) (c : Command) (step : Bindings × Reply) → Knows k seen → Knows (keep k c.request step) (c ∷ seen)
knows_more k seen c step h q = knows_first k seen c step h q (is_same_request q c.request) refl

pub applied_known : (k : Kept) (c : Command) → is_some (kept_reply k c.request) ≡ true → applied k c ≡ k
applied_known k c h = rw h

pub applied_new : (k : Kept) (c : Command) → is_some (kept_reply k c.request) ≡ false → applied k c ≡ keep k c.request (apply k.bindings c)
applied_new k c h = rw h

firsts_known : (seen cs : List Command) (c : Command) → has_request seen c.request ≡ true → firsts_beside seen (c ∷ cs) ≡ firsts_beside seen cs
firsts_known seen cs c h = rw h

firsts_new : (seen cs : List Command) (c : Command) → has_request seen c.request ≡ false → firsts_beside seen (c ∷ cs) ≡ c ∷ firsts_beside (c ∷ seen) cs
firsts_new seen cs c h = rw h

-- the bindings after these commands
abbrev bindings_after : Bindings → List Command → Bindings
bindings_after m cs = fold (λ m c. (apply m c).0) m cs

bindings_first : (k : Kept) (seen cs : List Command) (c : Command) → Knows k seen → ((m : Kept) (known : List Command) → Knows m known → (applied_all m cs).bindings ≡ bindings_after m.bindings (firsts_beside known cs)) → (b : Bool) → has_request seen c.request ≡ b → (applied_all k (c ∷ cs)).bindings ≡ bindings_after k.bindings (firsts_beside seen (c ∷ cs))
bindings_first k seen cs c h more true b =
    ap (λ m. (applied_all m cs).bindings) (applied_known k c (h c.request ∙ b)) ∙ more k seen h ∙ ap (bindings_after k.bindings) (sym (firsts_known seen cs c b))
bindings_first k seen cs c h more false b =
    let step = apply k.bindings c in
    ap (λ m. (applied_all m cs).bindings) (applied_new k c (h c.request ∙ b)) ∙ more (keep k c.request step) (c ∷ seen) (knows_more k seen c step h) ∙ ap (bindings_after k.bindings) (sym (firsts_new seen cs c b))

bindings_of : (cs : List Command) (k : Kept) (seen : List Command) → Knows k seen → (applied_all k cs).bindings ≡ bindings_after k.bindings (firsts_beside seen cs)
bindings_of [] k seen h = refl
bindings_of (c ∷ cs) k seen h = bindings_first k seen cs c h (bindings_of cs) (has_request seen c.request) refl

none_of : {A : Type 0} (o : Option A) → is_some o ≡ false → o ≡ None
none_of None h = refl
none_of (Some a) h = cc

equal_of : (o : Ordering) → is_eq o ≡ true → o ≡ Equal
equal_of Less h = cc
equal_of Equal h = refl
equal_of Greater h = cc

-- requests that are found to be one are one
pub one_request : (p q : RequestNo) → is_same_request p q ≡ true → p ≡ q
one_request p q h = exact_requests p q (equal_of (request_cmp p q) (eq-request_cmp p q ∙ h))

reply_step : (k : Kept) (c : Command) (step : Bindings × Reply) (q : RequestNo) (later : Option Reply) → kept_reply k c.request ≡ None → (b : Bool) → is_same_request c.request q ≡ b → first_of (kept_reply (keep k c.request step) q) later ≡ first_of (kept_reply k q) (cond (is_same_request c.request q) (Some step.1) later)
reply_step k c step q later none true same =
    let back : is_same_request q c.request ≡ true = same_back q c.request ∙ same in
    let here : kept_reply k q ≡ None = ap (kept_reply k) (sym (one_request c.request q same)) ∙ none in
    rw (reply_kept k c.request step q, same, back, here)
reply_step k c step q later none false other =
    let back : is_same_request q c.request ≡ false = same_back q c.request ∙ other in
    rw (reply_kept k c.request step q, other, back)

reply_first : (k : Kept) (seen cs : List Command) (c : Command) (q : RequestNo) → Knows k seen → ((m : Kept) (known : List Command) → Knows m known → kept_reply (applied_all m cs) q ≡ first_of (kept_reply m q) (reply_after m.bindings (firsts_beside known cs) q)) → (b : Bool) → has_request seen c.request ≡ b → kept_reply (applied_all k (c ∷ cs)) q ≡ first_of (kept_reply k q) (reply_after k.bindings (firsts_beside seen (c ∷ cs)) q)
reply_first k seen cs c q h more true b =
    ap (λ m. kept_reply (applied_all m cs) q) (applied_known k c (h c.request ∙ b)) ∙ more k seen h ∙ ap (λ fs. first_of (kept_reply k q) (reply_after k.bindings fs q)) (sym (firsts_known seen cs c b))
reply_first k seen cs c q h more false b =
    let step = apply k.bindings c in
    let none : kept_reply k c.request ≡ None = none_of (kept_reply k c.request) (h c.request ∙ b) in
    ap (λ m. kept_reply (applied_all m cs) q) (applied_new k c (h c.request ∙ b))
    ∙ more (keep k c.request step) (c ∷ seen) (knows_more k seen c step h)
    ∙ reply_step k c step q (reply_after step.0 (firsts_beside (c ∷ seen) cs) q) none (is_same_request c.request q) refl
    ∙ ap (λ fs. first_of (kept_reply k q) (reply_after k.bindings fs q)) (sym (firsts_new seen cs c b))

first_none : {A : Type 0} (o : Option A) → o ≡ first_of o None
first_none None = refl
first_none (Some a) = refl

replies_of : (cs : List Command) (k : Kept) (seen : List Command) (q : RequestNo) → Knows k seen → kept_reply (applied_all k cs) q ≡ first_of (kept_reply k q) (reply_after k.bindings (firsts_beside seen cs) q)
replies_of [] k seen q h = first_none (kept_reply k q)
replies_of (c ∷ cs) k seen q h = reply_first k seen cs c q h (λ m known knows. replies_of cs m known q knows) (has_request seen c.request) refl

-- what is kept of a list has its registry as its bindings
pub bindings-kept_of : (cs : List Command) → (kept_of cs).bindings ≡ registry_of cs
bindings-kept_of cs = bindings_of cs (record { bindings = []; replies = [] }) [] (λ q. refl)

-- and its replies
pub reply-kept_of : (cs : List Command) (q : RequestNo) → kept_reply (kept_of cs) q ≡ reply_of cs q
reply-kept_of cs q = replies_of cs (record { bindings = []; replies = [] }) [] q (λ q. refl)

applied-append : (k : Kept) (cs ds : List Command) → applied_all k (cs ++ ds) ≡ applied_all (applied_all k cs) ds
applied-append k [] ds = refl
applied-append k (c ∷ cs) ds = applied-append (applied k c) cs ds

-- what is kept of a longer list
pub kept_of-append : (cs ds : List Command) → kept_of (cs ++ ds) ≡ applied_all (kept_of cs) ds
kept_of-append cs ds = applied-append (record { bindings = []; replies = [] }) cs ds

applied_first : (k : Kept) (c : Command) (b : Bool) → is_some (kept_reply k c.request) ≡ b → is_some (kept_reply (applied k c) c.request) ≡ true
applied_first k c true h = ap (λ m. is_some (kept_reply m c.request)) (applied_known k c h) ∙ h
applied_first k c false h =
    ap (λ m. is_some (kept_reply m c.request)) (applied_new k c h)
    ∙ ap is_some (reply_kept k c.request (apply k.bindings c) c.request)
    ∙ rw (same_itself c.request)

-- a command that was applied has a reply
pub applied_replies : (k : Kept) (c : Command) → is_some (kept_reply (applied k c) c.request) ≡ true
applied_replies k c = applied_first k c (is_some (kept_reply k c.request)) refl
