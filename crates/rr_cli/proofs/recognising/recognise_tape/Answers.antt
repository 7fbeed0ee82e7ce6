use Rattle.rr_cli.proofs.TapedLemmas.{is_tape}
use Rattle.rr_cli.proofs.recognising.recognise_tape.Goals as goal

pub returns-in-Ok : goal.returns-in-Ok
returns-in-Ok c = is_tape c.args.bytes.now c.args.of_schedule c.in-Ok.tape c.requires.fault c.requires.other c.in-Ok.ensures.found

pub told_fault-requires : goal.told_fault-requires
told_fault-requires c = record {
  schedule = c.requires.fault;
  no_schedule = c.requires.other;
  tape = c.in-Err.ensures.fault;
  no_tape = c.in_default.not-OutOfMemory;
}
