use Rattle.rr_core.proofs.RoundLemmas.{propose_from}
use Rattle.rr_core.proofs.proposing.propose.Goals as goal

pub returns : goal.returns
returns c =
    record {
      ok = propose_from _ _ _ _ _ _ _ c.next_number-number.ensures.value c.in_ok-stage.ensures.ok c.in_ok-owe_everyone.ensures.ok;
    }
