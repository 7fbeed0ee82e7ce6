use Rattle.rr_cli.proofs.TapedLemmas.{is_schedule}
use Rattle.rr_cli.proofs.recognising.recognise.Goals as goal

pub returns-in-Ok : goal.returns-in-Ok
returns-in-Ok c = is_schedule c.args.bytes.now c.in-Ok._schedule c.in-Ok.ensures.found

pub recognise_tape-requires : goal.recognise_tape-requires
recognise_tape-requires c = record {
  fault = c.in-Err.ensures.fault;
  other = c.in_default.not-OutOfMemory;
}
