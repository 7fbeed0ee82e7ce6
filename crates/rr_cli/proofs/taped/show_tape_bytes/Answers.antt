use Rattle.std.proofs.Common.{refl}
use Rattle.rr_cli.specs.Ends.{untaped}
use Rattle.rr_cli.proofs.taped.show_tape_bytes.Goals as goal

pub show_tape-requires : goal.show_tape-requires
show_tape-requires g c = record { lawful = c.in-Ok.ensures.found.0; read = c.in-Ok.ensures.found.1 }

pub returns-in-Ok-clause-ends : goal.returns-in-Ok-clause-ends
returns-in-Ok-clause-ends g c = c.show_tape.ensures.ends

pub returns-in-Err-clause-ends : goal.returns-in-Err-clause-ends
returns-in-Err-clause-ends g c = untaped c.in-Err.refusal c.in-Err.ensures.fault c.end_by_fault.ensures refl
