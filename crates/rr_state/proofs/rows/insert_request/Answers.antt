use Rattle.std.proofs.Common.{ap, sym, ◌∙◌, arith, cond, Some}
use Rattle.std.specs.BTreeMap.{is_at}
use Rattle.std.specs.Map.{lookup}
use Rattle.rr_types.specs.declared.command.RequestNo.{RequestNo}
use Rattle.rr_registry.specs.Kept.{request_cmp}
use Rattle.rr_registry.proofs.KeptLemmas.{requests_total}
use Rattle.rr_registry.specs.Places.{filled}
use Rattle.rr_registry.proofs.PlaceLemmas.{lookup-filled, joined, joined_cond}
use Rattle.rr_state.specs.Listed.{decision_at}
use Rattle.rr_state.proofs.NotedLemmas.{noted_put, reached_next, request_some}
use Rattle.rr_state.proofs.rows.insert_request.Goals as goal

pub returns-then-end-number-clause-noted : goal.returns-then-end-number-clause-noted
returns-then-end-number-clause-noted c = λ rows h.
    let d = request_some (decision_at rows c.args.instance) c.in-Some.request (h ∙ c.in-Some.is) in
    let same = c.number-number.ensures.value in
    let low = c.if-end-number.true in
    noted_put rows c.args.instance d.0 _ _ c.args.end _ d.1
    (λ q. lookup-filled request_cmp requests_total q c.insert.new.self.entries c.insert.ensures.ordered ∙ ap joined (c.in-Ok.ensures.updates.0 q)
    ∙ joined_cond (is_at (request_cmp c.in-Some.request) q) (Some tt) _
    ∙ ap (λ o. cond (is_at (request_cmp c.in-Some.request) q) (Some tt) o) (sym (lookup-filled request_cmp requests_total q c.args.requests.now.entries c.insert.ensures.was_ordered))
    ∙ ap (λ (r : RequestNo). cond (is_at (request_cmp r) q) (Some tt) (lookup (is_at (request_cmp q)) (filled c.args.requests.now.entries))) (sym d.2))
    (omega (arith, low)) (omega (arith, same)) (λ k. rw same (reached_next rows c.args.instance d.0 d.1))

pub returns-else-end-number-clause-noted : goal.returns-else-end-number-clause-noted
returns-else-end-number-clause-noted c = λ rows h.
    let d = request_some (decision_at rows c.args.instance) c.in-Some.request (h ∙ c.in-Some.is) in
    let same = c.number-number.ensures.value in
    let low = c.if-end-number.false in
    noted_put rows c.args.instance d.0 _ _ c.args.end c.args.end d.1
    (λ q. lookup-filled request_cmp requests_total q c.insert.new.self.entries c.insert.ensures.ordered ∙ ap joined (c.in-Ok.ensures.updates.0 q)
    ∙ joined_cond (is_at (request_cmp c.in-Some.request) q) (Some tt) _
    ∙ ap (λ o. cond (is_at (request_cmp c.in-Some.request) q) (Some tt) o) (sym (lookup-filled request_cmp requests_total q c.args.requests.now.entries c.insert.ensures.was_ordered))
    ∙ ap (λ (r : RequestNo). cond (is_at (request_cmp r) q) (Some tt) (lookup (is_at (request_cmp q)) (filled c.args.requests.now.entries))) (sym d.2))
    (omega arith) (omega (arith, same, low)) (λ k. k)
