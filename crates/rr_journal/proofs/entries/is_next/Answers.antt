use Rattle.std.proofs.lemmas.Bool.{eqb-true}
use Rattle.rr_journal.proofs.EntryLemmas.{first_is}
use Rattle.rr_journal.proofs.entries.is_next.Goals as goal

pub returns-in-Some : goal.returns-in-Some
returns-in-Some c = λ h. first_is c.args.beyond.now.entries c.args.number _ c.in-Some.ensures.first (eqb-true c.in-Some.first.now c.args.number h)
