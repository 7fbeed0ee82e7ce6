use Rattle.rr_explain.proofs.FaultLemmas.{ends_whole, ends_behind}
use Rattle.rr_explain.proofs.faults.fault_of_first_line.Goals as goal

pub fault_of_count-requires : goal.fault_of_count-requires
fault_of_count-requires c =
    let line = c.args.line.now in
    ends_behind line line c.next_word.result.0.now c.in-Some-behind.count.now (ends_whole line) (rw c.in-Some-behind.is at c.next_word.ensures.behind)
