use Rattle.rr_text.proofs.ScriptReading.{one_fault}
use Rattle.rr_text.proofs.script_law.one_script_fault.Goals as goal

pub returns : goal.returns
returns c = one_fault
