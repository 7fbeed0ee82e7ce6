use Rattle.rr_cli.specs.declared.refusals.TextKind.TheVariants.{Schedule, Tape}
use Rattle.rr_cli.proofs.TapedLemmas.{told_as_schedule, told_as_tape}
use Rattle.rr_cli.proofs.recognising.told_fault.Goals as goal

pub returns-then-is_later : goal.returns-then-is_later
returns-then-is_later c =
    told_as_tape c.args.bytes.now Tape c.args.of_schedule c.args.of_tape c.requires.schedule c.requires.no_schedule c.requires.tape c.requires.no_tape

pub returns-else-is_later : goal.returns-else-is_later
returns-else-is_later c =
    told_as_schedule c.args.bytes.now Schedule c.args.of_schedule c.args.of_tape c.requires.schedule c.requires.no_schedule c.requires.tape c.requires.no_tape
