use Rattle.std.proofs.Common.{IsTrue, ap, sym, subst, ◌∙◌}
use Rattle.std.specs.List.{All, list_any}
use Rattle.rr_model.specs.NodeState.{Row, is_decided}
use Rattle.rr_state.specs.Listed.{Listed, put_rows, KeepsDecisions}
use Rattle.rr_state.specs.Marked.{has_mark_place}
use Rattle.rr_state.proofs.ListedLemmas.{listed_absorbed, listed_is}
use Rattle.rr_state.proofs.PrefixLemmas.{marked_same}
use Rattle.rr_state.proofs.instances.Instances.absorb.Goals as goal

pub absorb-requires : goal.absorb-requires
absorb-requires c = subst (λ rows. KeepsDecisions rows (put_rows rows c.args.rows.now.items)) (sym (ap (λ (t : Listed). t.rows) c.self.view_is)) c.requires

pub invariant_of-self-in-Ok : goal.invariant_of-self-in-Ok
invariant_of-self-in-Ok c =
    let kept = subst (λ rows. KeepsDecisions rows (put_rows rows c.args.rows.now.items)) (sym (ap (λ (t : Listed). t.rows) c.self.view_is)) c.requires in
    let keeps = subst (KeepsDecisions c.self.inside.rows) (sym c.in-Ok.ensures.ok) kept in
    listed_absorbed c.self.inside.rows c.absorb.new.self c.args.rows.now.items c.self.inside.window c.slide_behind-self-inside.result c.self.inside.marks c.make_places.new.self c.self.invariant
    c.in-Ok.ensures.ok keeps c.in-Ok.ensures.ascend c.in-Ok.ensures.instances
    (c.slide_behind-self-inside.ensures c.self.inside.rows c.args.rows.now.items c.self.invariant.ascend keeps c.in-Ok.ensures.ok (c.is_any_decided-is_decision_new.ensures ∙ ap (list_any (λ r. is_decided r)) c.deref-2.ensures.value) c.self.invariant.shown)
    c.in_ok-make_places.ensures.marks c.in_ok-make_places.ensures.value c.in_ok-make_places.ensures.moved c.in_ok-make_places.ensures.prefix c.in_ok-make_places.ensures.stay
    (subst (All (λ (r : Row). IsTrue (has_mark_place c.make_places.new.self r.instance))) c.deref.ensures.value c.in_ok-make_places.ensures.made)

pub returns-in-Ok-clause-ok : goal.returns-in-Ok-clause-ok
returns-in-Ok-clause-ok c =
    let kept = subst (λ rows. KeepsDecisions rows (put_rows rows c.args.rows.now.items)) (sym (ap (λ (t : Listed). t.rows) c.self.view_is)) c.requires in
    let keeps = subst (KeepsDecisions c.self.inside.rows) (sym c.in-Ok.ensures.ok) kept in
    listed_is c.absorb.new.self _ _ _
    (c.in-Ok.ensures.ok ∙ ap (λ (t : Listed). put_rows t.rows c.args.rows.now.items) c.self.view_is)
    (marked_same c.self.inside.rows c.absorb.new.self c.self.inside.marks c.make_places.new.self c.self.invariant.moved keeps c.in_ok-make_places.ensures.moved c.in_ok-make_places.ensures.value ∙ ap (λ (t : Listed). t.marked) c.self.view_is)
