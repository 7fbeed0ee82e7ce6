use Rattle.rr_threads.proofs.Rounds.{rounds_by, rounds_on}
use Rattle.rr_threads.proofs.recorder.Scribe.tell.Goals as goal

pub returns-in-None-clause-rounds : goal.returns-in-None-clause-rounds
returns-in-None-clause-rounds g c = rounds_by c.args.input.now c.args.locked.now c.step.new.self c.step.result c.step.ensures.refused c.step.ensures.err

pub returns-in-Some-clause-rounds : goal.returns-in-Some-clause-rounds
returns-in-Some-clause-rounds g c = rounds_on c.args.input.now c.args.locked.now c.input_on.new.locked _ _ c.input_on.result c.input_on.ensures.cause
