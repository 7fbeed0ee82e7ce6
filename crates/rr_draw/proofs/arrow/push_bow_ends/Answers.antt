use Rattle.rr_draw.proofs.AppendLaws.{five_more}
use Rattle.rr_draw.proofs.arrow.push_bow_ends.Goals as goal

pub returns : goal.returns
returns c =
    let second = rw c.saturating_sub-bow.ensures at c.in_ok-push_corner-2.ensures in
    let third = rw c.saturating_sub-bow.ensures at c.in_ok-push_corner-3.ensures in
    five_more c.args.out.now.items _ _ _ _ _ _ _ _ _ c.push_bytes.new.out.items c.in_ok-push_corner.ensures second third c.in_ok-push_corner-4.ensures c.in_ok-push_bytes.ensures.ok
