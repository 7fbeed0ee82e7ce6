use Rattle.rr_core.proofs.RelayLemmas.{conclude_from}
use Rattle.rr_core.proofs.decisions.conclude.Goals as goal

pub returns : goal.returns
returns c =
    record {
      ok = conclude_from _ _ _ _ _ _ c.next_number-number.ensures.value c.in_ok-stage.ensures.ok c.in_ok-owe_others.ensures.ok;
    }
