-- The events so far have their objects.
use Rattle.rr_account.proofs.ExplanationLemmas.{ToldSoFar}
use Rattle.rr_account.proofs.json.json_explanation.Given as goal

abbrev pub invariant-loop-event : goal.invariant-loop-event
invariant-loop-event l = ToldSoFar l.account l.event-index l.at l.told l.text.items
