use Rattle.std.proofs.Common.{◌∙◌, sym}
use Rattle.rr_turn.proofs.TickLaws.{ticks_by, ticked_not, ticked_on, standstill_same, standstill_counted, ok_both}
use Rattle.rr_turn.proofs.ticking.tick.Goals as goal

pub returns-then-branch : goal.returns-then-branch
returns-then-branch g c =
    let gives = g.L.Links.gives in
    let b = c.args.standstill.now in
    let now = c.hear_all.new.locked in
    let then = c.hear_all.new.chase in
    let again = c.in_ok-hear_again.ensures in
    let is = sym again.gaining ∙ c.if-branch.true in
    ticks_by gives c.args.locked.now now c.args.most _ c.args.chase.now then c.hear_again.new.chase b b c.args.links.now c.hear_all.new.links c.hear_again.new.links c.in_ok-hear_all.ensures
    (ticked_not gives now then b c.hear_all.new.links c.hear_again.new.links is again.calls) again.chase (standstill_same now then b is)

pub returns-else-branch : goal.returns-else-branch
returns-else-branch g c =
    let gives = g.L.Links.gives in
    let b = c.args.standstill.now in
    let j = c.beat.new.standstill in
    let now = c.hear_all.new.locked in
    let then = c.hear_all.new.chase in
    let u = c.hear_again.new.locked in
    let again = c.in_ok-hear_again.ensures in
    let is = sym again.gaining ∙ c.if-branch.false in
    ok_both c.beat.result
    (λ ran counted. ticks_by gives c.args.locked.now now c.args.most _ c.args.chase.now then c.hear_again.new.chase b j c.args.links.now c.hear_all.new.links c.beat.new.links
    c.in_ok-hear_all.ensures (ticked_on gives now u then b c.hear_all.new.links c.hear_again.new.links c.beat.new.links is again.state again.calls ran) again.chase
    (standstill_counted now u then b j is again.state counted)) c.beat.ensures.calls c.beat.ensures.standstill
