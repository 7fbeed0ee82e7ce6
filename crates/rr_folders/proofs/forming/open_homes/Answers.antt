use Rattle.std.proofs.Common.{◌≡◌, ◌<◌, subst, arith, map, true, false}
use Rattle.rr_folders.specs.Judging.{AreLeftOut}
use Rattle.rr_folders.proofs.forming.open_homes.Goals as goal

pub unreachable-requires : goal.unreachable-requires
unreachable-requires g c =
    let below : c.loop-index.index < c.args.nodes = omega (arith, c.loop-index-test.true, c.count-index-end.ensures.value) in
    let no : false ≡ true = c.in_default.ensures.valid.1 below in
    cc

pub returns-clause-left_out : goal.returns-clause-left_out
returns-clause-left_out g c =
    subst (λ set. AreLeftOut set 0 (map (λ h. h.disk) c.loop-index.homes.items)) c.without-without.ensures c.loop-index.invariant.2
