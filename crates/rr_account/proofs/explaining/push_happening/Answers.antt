use Rattle.std.proofs.Common.{rules}
use Rattle.rr_account.proofs.TextLemmas.{noted_event}
use Rattle.rr_account.proofs.explaining.push_happening.Goals as goal

pub returns-clause-ok : goal.returns-clause-ok
returns-clause-ok c = λ events counted before.
    noted_event c.args.account.now.report.lines events c.args.line c.args.told c.in_ok-next.next c.args.event.now c.args.text.now.items c.push_told.new.text.items c.push_note.new.text.items c.in_ok-note.note.items
    c.in_ok-next.ensures.range.0 counted c.in_ok-note.ensures.ok (search rules) (search rules) before
