use Rattle.rr_draw.proofs.AppendLaws.{four_more}
use Rattle.rr_draw.proofs.words.push_opened.Goals as goal

pub returns : goal.returns
returns c = four_more c.args.out.now.items _ _ _ _ _ _ _ c.push_number-2.new.out.items c.in_ok-push_bytes.ensures.ok c.in_ok-push_number.ensures.ok c.in_ok-push_bytes-2.ensures.ok c.in_ok-push_number-2.ensures.ok
