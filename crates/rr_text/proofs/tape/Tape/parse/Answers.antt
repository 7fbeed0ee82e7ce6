use Rattle.rr_text.proofs.TapeReading.{read_again}
use Rattle.rr_text.proofs.tape.Tape.parse.Goals as goal

pub returns-clause-only : goal.returns-clause-only
returns-clause-only c = read_again c.args.bytes.now c.tape.result c.tape.ensures.found c.tape.ensures.fault
