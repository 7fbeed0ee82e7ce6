use Rattle.std.proofs.Common.{◌≡◌, true, None, Some, is_some, refl, sym, ap, ◌∙◌, arith}
use Rattle.std.specs.BTreeMap.{is_at}
use Rattle.std.specs.Map.{lookup}
use Rattle.std.proofs.lemmas.Grind.{common_steps}
use Rattle.std.proofs.lemmas.Map.Steps.{set_value_same}
use Rattle.rr_registry.specs.Places.{filled}
use Rattle.rr_registry.specs.Kept.{request_cmp}
use Rattle.rr_registry.specs.Tables.{bindings_in, kept_in}
use Rattle.rr_registry.proofs.TableLemmas.{places_alike}
use Rattle.rr_registry.proofs.KeptLemmas.{applied_known}
use Rattle.rr_registry.proofs.FreeLemmas.{free_names_done, free_replies_done, free_replies_known}
use Rattle.rr_registry.proofs.PlacedLemmas.{places_set}
use Rattle.rr_registry.proofs.PerformLemmas.{kept_at, reply_written, performed}
use Rattle.rr_registry.proofs.tables.Tables.perform.Goals as goal

pub returns-then-is_none-clause-kept : goal.returns-then-is_none-clause-kept
returns-then-is_none-clause-kept c =
    let t = c.args.self.now in
    let es = t.replies.entries in
    let command = c.args.command.now in
    let reply = c.perform.result in
    let none : c.in-Some.place.now ≡ None = (let test = c.is_none.ensures in let holds = c.if-is_none.true in grind (arith, common_steps)) in
    let there : lookup (is_at (request_cmp command.request)) es ≡ Some None = sym c.in-Some.ensures.value ∙ ap (λ o. Some o) none in
    performed t c.perform.new.self (c.get_mut.follows.lender (Some reply)) command reply c.get_mut.ensures.ordered there
    (ap filled (c.get_mut.follows.holds (Some reply)).0 ∙ reply_written es command.request None reply c.get_mut.ensures.ordered there)
    c.perform.ensures.step

pub returns-then-is_none-clause-places : goal.returns-then-is_none-clause-places
returns-then-is_none-clause-places c =
    let t = c.args.self.now in
    let w = Some c.perform.result in
    places_alike t (record { names = c.perform.new.self; replies = c.get_mut.follows.lender w })
    (λ q. ap (λ xs. is_some (lookup (is_at (request_cmp q)) xs)) (c.get_mut.follows.holds w).0 ∙ places_set (is_at (request_cmp q)) (is_at (request_cmp c.args.command.now.request)) t.replies.entries w)
    c.perform.ensures.places

pub returns-then-is_none-clause-names : goal.returns-then-is_none-clause-names
returns-then-is_none-clause-names c = λ cs h.
    let w = Some c.perform.result in
    free_names_done c.args.self.now (record { names = c.perform.new.self; replies = c.get_mut.follows.lender w }) c.args.command.now cs (ap (λ s. s.0) c.perform.ensures.step) c.perform.ensures.places h

pub returns-then-is_none-clause-replies : goal.returns-then-is_none-clause-replies
returns-then-is_none-clause-replies c = λ cs h.
    let t = c.args.self.now in
    let es = t.replies.entries in
    let command = c.args.command.now in
    let reply = c.perform.result in
    free_replies_done t (record { names = c.perform.new.self; replies = c.get_mut.follows.lender (Some reply) }) command reply cs
    (ap filled (c.get_mut.follows.holds (Some reply)).0 ∙ reply_written es command.request c.in-Some.place.now reply c.get_mut.ensures.ordered (sym c.in-Some.ensures.value))
    (λ q. ap (λ xs. is_some (lookup (is_at (request_cmp q)) xs)) (c.get_mut.follows.holds (Some reply)).0 ∙ places_set (is_at (request_cmp q)) (is_at (request_cmp command.request)) es (Some reply))
    h

pub returns-else-is_none-clause-kept : goal.returns-else-is_none-clause-kept
returns-else-is_none-clause-kept c =
    let t = c.args.self.now in
    let es = t.replies.entries in
    let command = c.args.command.now in
    let place = c.in-Some.place.now in
    let some : is_some place ≡ true = (let test = c.is_none.ensures in let fails = c.if-is_none.false in grind (arith, common_steps)) in
    ap (λ xs. record { bindings = bindings_in t.names; replies = filled xs }) ((c.get_mut.follows.holds place).0 ∙ set_value_same (is_at (request_cmp command.request)) es place (sym c.in-Some.ensures.value))
    ∙ sym (applied_known (kept_in t) command (ap is_some (kept_at es command.request place c.get_mut.ensures.ordered (sym c.in-Some.ensures.value)) ∙ some))

pub returns-else-is_none-clause-places : goal.returns-else-is_none-clause-places
returns-else-is_none-clause-places c =
    let t = c.args.self.now in
    let w = c.in-Some.place.now in
    places_alike t (record { names = t.names; replies = c.get_mut.follows.lender w })
    (λ q. ap (λ xs. is_some (lookup (is_at (request_cmp q)) xs)) (c.get_mut.follows.holds w).0 ∙ places_set (is_at (request_cmp q)) (is_at (request_cmp c.args.command.now.request)) t.replies.entries w)
    (λ n. refl)

pub returns-else-is_none-clause-replies : goal.returns-else-is_none-clause-replies
returns-else-is_none-clause-replies c = λ cs h.
    let t = c.args.self.now in
    let es = t.replies.entries in
    let command = c.args.command.now in
    let place = c.in-Some.place.now in
    let some : is_some place ≡ true = (let test = c.is_none.ensures in let fails = c.if-is_none.false in grind (arith, common_steps)) in
    free_replies_known t (record { names = t.names; replies = c.get_mut.follows.lender place }) command cs
    ((c.get_mut.follows.holds place).0 ∙ set_value_same (is_at (request_cmp command.request)) es place (sym c.in-Some.ensures.value))
    (ap is_some (kept_at es command.request place c.get_mut.ensures.ordered (sym c.in-Some.ensures.value)) ∙ some)
    h
