use Rattle.std.proofs.Common.{◌≡◌, ◌++◌, ◌∷◌, []}
use Rattle.rr_text.proofs.FillLoop.{pairs_next}
use Rattle.rr_text.proofs.text_parse.pairs.Goals as goal

pub loop-rest-preserved : goal.loop-rest-preserved
loop-rest-preserved c =
    let e : c.push.new.self.items ≡ c.loop-rest.bytes.items ++ c.in-Some.byte ∷ [] = c.in_ok-push-in-Some.ensures.items in
    rw e (pairs_next c.loop-rest.bytes.items c.loop-rest.rest.now c.in-Some.byte _ c.in-len2-up.len_at_least c.in-Some.ensures c.loop-rest.invariant)
