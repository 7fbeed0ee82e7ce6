-- One command applied where no place is free.
use Rattle.std.proofs.Common.{◌≡◌, Bool, true, false, cond, ◌||◌, List, [], Option, None, Some, is_some, refl, ap, sym, ◌∙◌}
use Rattle.std.specs.List.Sorted.{IsStrictlySortedBy}
use Rattle.std.specs.BTreeMap.{BTreeMap, insert_entry, is_at}
use Rattle.std.specs.Map.{lookup, keys_of}
use Rattle.rr_types.specs.declared.command.RequestNo.{RequestNo}
use Rattle.rr_types.specs.declared.command.Command.{Command}
use Rattle.rr_types.specs.declared.command.Reply.{Reply}
use Rattle.rr_types.specs.Registry.{is_same_request, apply_op, apply, holding_of}
use Rattle.rr_registry.specs.Places.{filled}
use Rattle.rr_registry.proofs.PlaceLemmas.{filled-put, none_of_none}
use Rattle.rr_registry.specs.declared.names.Names.{Names}
use Rattle.rr_registry.specs.declared.tables.Tables.{Tables}
use Rattle.rr_registry.specs.Kept.{request_cmp, kept_reply, keep, applied}
use Rattle.rr_registry.specs.Tables.{bindings_in, kept_in, HasFreeOnlyFor, HasNoFreeName}
use Rattle.rr_registry.proofs.TableLemmas.{lookup-request, exact_requests}
use Rattle.rr_registry.proofs.FreeLemmas.{first, alone}
use Rattle.rr_registry.proofs.KeptLemmas.{lookup-insert_entry, requests_total, applied_known, applied_new}

-- a request that has a place has its reply, so its command changes nothing
pub known_alone : (t : Tables) (c : Command) → HasFreeOnlyFor t [] → is_some (lookup (is_at (request_cmp c.request)) t.replies.entries) ≡ true → kept_in t ≡ applied (kept_in t) c
known_alone t c free place = sym (applied_known (kept_in t) c (alone (is_some (kept_reply (kept_in t) c.request)) (free.replies c.request place)))

-- one that has none has no reply
new_alone : (t : Tables) (c : Command) → lookup (is_at (request_cmp c.request)) t.replies.entries ≡ None → applied (kept_in t) c ≡ keep (kept_in t) c.request (apply (kept_in t).bindings c)
new_alone t c none = applied_new (kept_in t) c (ap is_some (sym (lookup-request c.request (filled t.replies.entries))) ∙ none_of_none (is_at (request_cmp c.request)) t.replies.entries none)

-- a reply put in a new place is kept
reply_put : (es : List (RequestNo × Option Reply)) (q : RequestNo) (reply : Reply) → IsStrictlySortedBy request_cmp (keys_of es) → filled (insert_entry request_cmp es q (Some reply)) ≡ insert_entry request_cmp (filled es) q reply
reply_put es q reply sorted = filled-put request_cmp requests_total exact_requests q (Some reply) es sorted

found_both : {A B : Type 0} (b : Bool) (x : A) (o : Option A) (y : B) (p : Option B) → (is_some o ≡ true → (is_some p || false) ≡ true) → is_some (cond b (Some x) o) ≡ true → (is_some (cond b (Some y) p) || false) ≡ true
found_both true x o y p h there = refl
found_both false x o y p h there = h there

replies_alone : (es fs : List (RequestNo × Option Reply)) (r : RequestNo) (reply : Reply) → IsStrictlySortedBy request_cmp (keys_of es) → fs ≡ insert_entry request_cmp es r (Some reply) → ((q : RequestNo) → is_some (lookup (is_at (request_cmp q)) es) ≡ true → (is_some (lookup (is_same_request q) (filled es)) || false) ≡ true) → (q : RequestNo) → is_some (lookup (is_at (request_cmp q)) fs) ≡ true → (is_some (lookup (is_same_request q) (filled fs)) || false) ≡ true
replies_alone es fs r reply sorted put free q there =
    let places : lookup (is_at (request_cmp q)) fs ≡ cond (is_at (request_cmp q) r) (Some (Some reply)) (lookup (is_at (request_cmp q)) es) =
    ap (lookup (is_at (request_cmp q))) put ∙ lookup-insert_entry request_cmp requests_total exact_requests r (Some reply) es q in
    let replies : lookup (is_same_request q) (filled fs) ≡ cond (is_at (request_cmp q) r) (Some reply) (lookup (is_same_request q) (filled es)) =
    sym (lookup-request q (filled fs))
    ∙ ap (λ xs. lookup (is_at (request_cmp q)) (filled xs)) put
    ∙ ap (lookup (is_at (request_cmp q))) (reply_put es r reply sorted)
    ∙ lookup-insert_entry request_cmp requests_total exact_requests r reply (filled es) q
    ∙ ap (cond (is_at (request_cmp q) r) (Some reply)) (lookup-request q (filled es)) in
    ap (λ o. is_some o || false) replies
    ∙ found_both (is_at (request_cmp q) r) (Some reply) (lookup (is_at (request_cmp q)) es) reply (lookup (is_same_request q) (filled es)) (free q) (ap is_some (sym places) ∙ there)

-- the same entries leave no place free
pub same_free : (t : Tables) (replies : BTreeMap RequestNo (Option Reply)) → replies.entries ≡ t.replies.entries → HasFreeOnlyFor t [] → HasFreeOnlyFor (record { names = t.names; replies = replies }) []
same_free t replies same free = record {
  names = free.names;
  replies = λ q there. ap (λ es. is_some (lookup (is_same_request q) (filled es)) || false) same ∙ free.replies q (ap (λ es. is_some (lookup (is_at (request_cmp q)) es)) (sym same) ∙ there);
}

-- a command of a new request is applied, and its reply is kept
pub applied_alone : (t : Tables) (names : Names) (c : Command) (reply : Reply) → IsStrictlySortedBy request_cmp (keys_of t.replies.entries) → lookup (is_at (request_cmp c.request)) t.replies.entries ≡ None → (bindings_in names, reply) ≡ apply_op (bindings_in t.names) c.request.client c.op → record { bindings = bindings_in names; replies = filled (insert_entry request_cmp t.replies.entries c.request (Some reply)) } ≡ applied (kept_in t) c
applied_alone t names c reply sorted none step =
    let es = t.replies.entries in
    let kept = reply_put es c.request reply sorted ∙ ap (λ s. insert_entry request_cmp (filled es) c.request s.1) step in
    ap (λ s. record { bindings = s.0; replies = filled (insert_entry request_cmp es c.request (Some reply)) }) step
    ∙ ap (λ rs. record { bindings = (apply_op (bindings_in t.names) c.request.client c.op).0; replies = rs }) kept
    ∙ sym (new_alone t c none)

-- and no place is then free
pub free_alone : (t : Tables) (names : Names) (replies : BTreeMap RequestNo (Option Reply)) (q : RequestNo) (reply : Reply) → IsStrictlySortedBy request_cmp (keys_of t.replies.entries) → replies.entries ≡ insert_entry request_cmp t.replies.entries q (Some reply) → HasFreeOnlyFor t [] → HasNoFreeName names → HasFreeOnlyFor (record { names = names; replies = replies }) []
free_alone t names replies q reply sorted put free named = record {
  names = λ n there. first (is_some (holding_of (bindings_in names) n)) false (named n there);
  replies = replies_alone t.replies.entries replies.entries q reply sorted put free.replies;
}
