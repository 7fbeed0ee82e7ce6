use Rattle.rr_account.proofs.TextLemmas.{NotedSoFar}
use Rattle.rr_account.proofs.explaining.explanation.Given as goal

-- the lines so far stand in the text, with notes on the events so far
abbrev pub invariant-loop-event : goal.invariant-loop-event
invariant-loop-event l = NotedSoFar l.account l.event-index l.line l.told l.text.items
