use Rattle.std.proofs.Common.{refl, ◌∙◌}
use Rattle.rr_registry.proofs.TableLemmas.{places_stay, eq-request_cmp}
use Rattle.rr_registry.proofs.FreeLemmas.{free_made}
use Rattle.rr_registry.proofs.tables.Tables.make_places.Goals as goal

pub returns-in_err-make_place-clause-stay : goal.returns-in_err-make_place-clause-stay
returns-in_err-make_place-clause-stay c =
    places_stay c.args.self.now (record { names = c.args.self.now.names; replies = c.make_place.new.map }) c.make_place.ensures.kept (λ n h. h)

pub returns-in_err-make_place-2-clause-stay : goal.returns-in_err-make_place-2-clause-stay
returns-in_err-make_place-2-clause-stay c =
    places_stay c.args.self.now (record { names = c.make_place-2.new.self; replies = c.make_place.new.map }) c.make_place.ensures.kept c.make_place-2.ensures.stay

pub returns-clause-stay : goal.returns-clause-stay
returns-clause-stay c =
    places_stay c.args.self.now (record { names = c.make_place-2.new.self; replies = c.make_place.new.map }) c.make_place.ensures.kept c.make_place-2.ensures.stay

pub returns-in_err-make_place-clause-free : goal.returns-in_err-make_place-clause-free
returns-in_err-make_place-clause-free c = λ cs h.
    free_made c.args.self.now _ c.args.command.now cs (rw c.make_place.ensures.filled) (λ n other. refl)
    (λ q other. c.make_place.ensures.only q (eq-request_cmp c.args.command.now.request q ∙ other))
    h

pub returns-in_err-make_place-2-clause-free : goal.returns-in_err-make_place-2-clause-free
returns-in_err-make_place-2-clause-free c = λ cs h.
    free_made c.args.self.now _ c.args.command.now cs (rw (c.make_place-2.ensures.bindings, c.make_place.ensures.filled)) c.make_place-2.ensures.only
    (λ q other. c.make_place.ensures.only q (eq-request_cmp c.args.command.now.request q ∙ other))
    h

pub returns-clause-free : goal.returns-clause-free
returns-clause-free c = λ cs h.
    free_made c.args.self.now _ c.args.command.now cs (rw (c.make_place-2.ensures.bindings, c.make_place.ensures.filled)) c.make_place-2.ensures.only
    (λ q other. c.make_place.ensures.only q (eq-request_cmp c.args.command.now.request q ∙ other))
    h
