use Rattle.rr_draw.proofs.AppendLaws.{three_more}
use Rattle.rr_draw.proofs.arrow.push_line_ends.Goals as goal

pub returns : goal.returns
returns c = three_more c.args.out.now.items _ _ _ _ _ c.push_bytes.new.out.items c.in_ok-push_end.ensures c.in_ok-push_end-2.ensures c.in_ok-push_bytes.ensures.ok
