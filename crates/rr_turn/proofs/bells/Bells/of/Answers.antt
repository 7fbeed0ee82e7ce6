use Rattle.std.proofs.Common.{◌≡◌, ◌∙◌, ◌<◌, arith}
use Rattle.rr_turn.proofs.Rows.{at_place}
use Rattle.rr_turn.proofs.bells.Bells.of.Goals as goal

pub returns : goal.returns
returns c =
    let place : c.from.result ≡ c.args.node = cc in
    let within : c.from.result < 7 = omega (arith, c.index.ensures.range) in
    at_place c.args.self.now.bells.items c.from.result c.index-2.result.now c.args.self.now.placed within c.index-2.ensures ∙ place
