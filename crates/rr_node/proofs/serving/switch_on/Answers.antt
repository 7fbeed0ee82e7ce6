use Rattle.std.proofs.Common.{subst}
use Rattle.rr_journal.specs.declared.switch.Switching.{Switching}
use Rattle.rr_journal.specs.SwitchTable.{GoesOn}
use Rattle.rr_node.proofs.SwitchingLaws.{switch_ends, switch_failing}
use Rattle.rr_node.proofs.ServingLaws.{none_done}
use Rattle.rr_journal.specs.Switches.{due_call}
use Rattle.rr_node.proofs.serving.switch_on.Goals as goal

pub returns-in-Ok-Done-clause-steps : goal.returns-in-Ok-Done-clause-steps
returns-in-Ok-Done-clause-steps c =
    let done = c.in-Ok-Done.ensures.done in
    let went = subst (λ (x : Switching). GoesOn c.args.job c.args.slots.now x c.step.new.journal) c.in-Ok-Done.field-0-is done.1 in
    λ s. switch_ends s c.args.slots.now c.step.new.journal c.args.job went done.2

pub returns-in-Ok-Done-clause-fails : goal.returns-in-Ok-Done-clause-fails
returns-in-Ok-Done-clause-fails c = λ s calm n p fill due arms. none_done fill (due_call c.args.job) calm c.args.slots.now c.step.new.journal arms c.in-Ok-Done.ensures.done.2

pub returns-in-Err-clause-fails : goal.returns-in-Err-clause-fails
returns-in-Err-clause-fails c = λ s calm n p fill due arms. switch_failing n p fill s calm c.args.slots.now c.step.new.journal c.args.job c.in-Err.refusal arms c.in-Err.ensures.refused
