-- A command applied in the places that it has.
use Rattle.std.proofs.Common.{◌≡◌, List, Option, None, Some, is_some, sym, ap, ◌∙◌}
use Rattle.std.specs.List.Sorted.{IsStrictlySortedBy}
use Rattle.std.specs.BTreeMap.{BTreeMap, insert_entry, is_at}
use Rattle.std.specs.Map.{lookup, keys_of, set_value}
use Rattle.rr_types.specs.declared.command.RequestNo.{RequestNo}
use Rattle.rr_types.specs.declared.command.Command.{Command}
use Rattle.rr_types.specs.declared.command.Reply.{Reply}
use Rattle.rr_types.specs.Registry.{is_same_request, apply_op}
use Rattle.rr_registry.specs.Places.{filled}
use Rattle.rr_registry.proofs.PlaceLemmas.{joined, lookup-filled}
use Rattle.rr_registry.specs.declared.names.Names.{Names}
use Rattle.rr_registry.specs.declared.tables.Tables.{Tables}
use Rattle.rr_registry.specs.Kept.{request_cmp, keep, applied}
use Rattle.rr_registry.specs.Tables.{bindings_in, kept_in}
use Rattle.rr_registry.proofs.TableLemmas.{lookup-request, exact_requests}
use Rattle.rr_registry.proofs.KeptLemmas.{requests_total, applied_new}
use Rattle.rr_registry.proofs.PlacedLemmas.{filled-set}

-- a request's place has the reply that is kept
pub kept_at : (es : List (RequestNo × Option Reply)) (q : RequestNo) (o : Option Reply) → IsStrictlySortedBy request_cmp (keys_of es) → lookup (is_at (request_cmp q)) es ≡ Some o → lookup (is_same_request q) (filled es) ≡ o
kept_at es q o sorted there = sym (lookup-request q (filled es)) ∙ lookup-filled request_cmp requests_total q es sorted ∙ ap joined there

-- a reply written in its place is kept
pub reply_written : (es : List (RequestNo × Option Reply)) (q : RequestNo) (o : Option Reply) (reply : Reply) → IsStrictlySortedBy request_cmp (keys_of es) → lookup (is_at (request_cmp q)) es ≡ Some o → filled (set_value (is_at (request_cmp q)) es (Some reply)) ≡ insert_entry request_cmp (filled es) q reply
reply_written es q o reply sorted there = filled-set request_cmp requests_total exact_requests q (Some reply) es sorted (ap is_some there)

-- a command of a new request is applied, and its reply kept
pub performed : (t : Tables) (names : Names) (replies : BTreeMap RequestNo (Option Reply)) (c : Command) (reply : Reply) → IsStrictlySortedBy request_cmp (keys_of t.replies.entries) → lookup (is_at (request_cmp c.request)) t.replies.entries ≡ Some None → filled replies.entries ≡ insert_entry request_cmp (filled t.replies.entries) c.request reply → (bindings_in names, reply) ≡ apply_op (bindings_in t.names) c.request.client c.op → kept_in (record { names = names; replies = replies }) ≡ applied (kept_in t) c
performed t names replies c reply sorted there put step =
    ap (λ rs. record { bindings = bindings_in names; replies = rs }) put
    ∙ ap (λ s. keep (kept_in t) c.request s) step
    ∙ sym (applied_new (kept_in t) c (ap is_some (kept_at t.replies.entries c.request None sorted there)))
