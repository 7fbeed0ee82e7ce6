use Rattle.std.proofs.Common.{◌≡◌, ◌<◌, length, true, ap, sym, ◌∙◌, Some, arith, slice_index_or, slice_set, refl, option_map}
use Rattle.std.proofs.lemmas.Grind.{common_steps}
use Rattle.rr_types.specs.Facts.{instance_of}
use Rattle.rr_types.specs.Standings.{IsInRound}
use Rattle.rr_types.specs.declared.promise.Standing.{Standing}
use Rattle.rr_model.specs.NodeState.{Row, row_of}
use Rattle.rr_core.specs.Steps.{put_rows}
use Rattle.std.specs.Prelude.{Option}
use Rattle.std.proofs.Common.{subst}
use Rattle.rr_core.proofs.OverLemmas.{Newest, newest, newest_there_at, newest_rows, newest_keep, newest_stay}
use Rattle.rr_core.proofs.over.change_newest.Goals as goal

there_is : (c : goal.After-index_mut) → 0 < length c.args.changed.now.items
there_is c = let e = c.len.ensures in let f = c.if-len-eq0.false in grind (arith, common_steps)

of_fact : (c : goal.After-index_mut) → c.index_mut.result.now.instance ≡ instance_of c.args.fact.now
of_fact c =
    let e = c.if-ne.ensures in
    let v = c.behind-changed.view_is in
    let i = c.index.ensures in
    let m = c.index_mut.ensures.value in
    let n = c.instance.ensures in
    grind (arith, common_steps)

pub take_on-requires : goal.take_on-requires
take_on-requires c =
    let there = newest_there_at c.args.changed.now.items c.args.base.now.rows (instance_of c.args.fact.now) c.index_mut.result.now c.index_mut.result.now (there_is c) (sym c.index_mut.ensures.value) (of_fact c) in
    subst (λ (x : Option Standing). IsInRound x c.args.fact.now) (ap (λ (x : Option Row). option_map (λ (q : Row). q.standing) x) there) c.requires.round

there_taken : (c : goal.In_ok-take_on) → 0 < length c.args.changed.now.items
there_taken c = let e = c.len.ensures in let f = c.if-len-eq0.false in grind (arith, common_steps)

of_taken : (c : goal.In_ok-take_on) → c.index_mut.result.now.instance ≡ instance_of c.args.fact.now
of_taken c =
    let e = c.if-ne.ensures in
    let v = c.behind-changed.view_is in
    let i = c.index.ensures in
    let m = c.index_mut.ensures.value in
    let n = c.instance.ensures in
    grind (arith, common_steps)

is_newest : (c : goal.In_ok-take_on) → Newest c.args.number c.args.fact.now c.args.changed.now.items c.args.base.now.rows c.take_on.new.self
is_newest c = newest c.args.number c.args.fact.now c.args.changed.now.items c.args.base.now.rows c.index_mut.result.now c.take_on.new.self c.index_mut.result.now (there_taken c) (sym c.index_mut.ensures.value) (of_taken c) c.in_ok-take_on.ensures.ok.0 c.in_ok-take_on.ensures.ok.1

pub returns-clause-rows : goal.returns-clause-rows
returns-clause-rows c = λ _. newest_rows c.args.number c.args.fact.now c.args.changed.now.items _ c.args.base.now.rows c.take_on.new.self (there_taken c) refl (is_newest c)

pub returns-clause-keep : goal.returns-clause-keep
returns-clause-keep c = λ _. newest_keep c.args.number c.args.fact.now c.args.changed.now.items _ c.args.base.now.rows c.take_on.new.self (there_taken c) refl (is_newest c) c.requires.decided c.requires.keeps

pub returns-clause-stay : goal.returns-clause-stay
returns-clause-stay c = λ _ q t. newest_stay c.args.number c.args.fact.now c.args.changed.now.items _ c.args.base.now.rows c.take_on.new.self (there_taken c) refl (is_newest c) c.requires.keeps q t
