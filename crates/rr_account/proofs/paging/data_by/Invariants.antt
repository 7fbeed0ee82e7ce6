-- The events so far have their objects.
use Rattle.rr_account.proofs.PageLaws.{PageSoFar}
use Rattle.rr_account.proofs.paging.data_by.Given as goal

abbrev pub invariant-loop-event : goal.invariant-loop-event
invariant-loop-event l = PageSoFar l.account l.fn.from l.fn.to l.decided l.event-index l.at l.told l.text.items
