use Rattle.std.proofs.Common.{option_map}
use Rattle.rr_account.proofs.PageLaws.{five_more}
use Rattle.rr_account.proofs.paging.push_page_object.Goals as goal

pub returns-clause-ok : goal.returns-clause-ok
returns-clause-ok c =
    let fronted = rw c.is_idle.ensures at c.in_ok-push_front.ensures.ok in
    record {
      note = option_map (λ w. w.items) c.in_ok-note.note;
      grew = five_more c.args.out.now.items _ _ _ _ _ _ _ _ _ c.push_end.new.out.items fronted c.in_ok-push_decides.ensures.ok c.in_ok-push_label.ensures.ok c.in_ok-push_event_object.ensures.ok c.in_ok-push_end.ensures.ok;
    }
