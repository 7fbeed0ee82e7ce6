use Rattle.rr_text.proofs.ScriptReading.{read_again}
use Rattle.rr_text.proofs.script.Script.parse.Goals as goal

pub returns-clause-only : goal.returns-clause-only
returns-clause-only c = read_again c.args.nodes c.args.bytes.now c.script.result c.script.ensures.found c.script.ensures.fault
