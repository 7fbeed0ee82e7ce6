use Rattle.rr_explain.proofs.FaultLemmas.{printed_told}
use Rattle.rr_explain.proofs.faults.print_text_fault.Goals as goal

pub returns : goal.returns
returns g c = printed_told c.print_found.result _ _ c.args.name.now c.args.bytes.now c.args.refusal.now c.fault_of-found.result c.fault_of-found.ensures c.print_found.ensures
