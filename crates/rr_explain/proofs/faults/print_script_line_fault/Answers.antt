use Rattle.rr_explain.proofs.FaultLemmas.{printed_of_script}
use Rattle.rr_explain.proofs.faults.print_script_line_fault.Goals as goal

pub returns : goal.returns
returns g c = printed_of_script c.print_found.result _ _ c.args.name.now c.args.bytes.now c.args.number c.fault_at-fault.result c.fault_at-fault.ensures c.print_found.ensures
