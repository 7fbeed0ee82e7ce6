use Rattle.std.proofs.Common.{◌++◌, ◌≤◌, length, ap, sym, ◌∙◌, append-nil, arith}
use Rattle.std.proofs.lemmas.List.{drop_all}
use Rattle.std.specs.Map.{values_of}
use Rattle.rr_registry.specs.Places.{filled}
use Rattle.rr_registry.proofs.NumberedLemmas.{present, values_all}
use Rattle.rr_registry.proofs.numbered.Numbered.values.Goals as goal

pub loop-place-2-init : goal.loop-place-2-init
loop-place-2-init g c =
    let pushed = c.loop-place.values.items in
    let done : length c.deref-place-items.result.now ≤ c.loop-place.place-index = let t = c.loop-place-test.false in omega (arith, t) in
    let all =
    sym (append-nil pushed) ∙ ap (λ r. pushed ++ present r) (sym (drop_all c.loop-place.place-index c.deref-place-items.result.now done))
    ∙ c.loop-place.invariant ∙ ap present c.deref-place-items.ensures.value in
    ap (λ v. v ++ values_of (filled c.iter-rest.result)) all ∙ ap (λ r. present c.self.inside.low.items ++ values_of (filled r)) c.iter-rest.ensures.rest
    ∙ sym (values_all 0 c.self.inside.low.items c.self.inside.high.entries) ∙ ap (λ es. values_of (filled es)) c.self.view_is
