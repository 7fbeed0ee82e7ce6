use Rattle.std.proofs.Common.{◌+◌, [], ◌∷◌, length, refl}
use Rattle.rr_journal.specs.Calls.{Write, Sync}
use Rattle.rr_node.specs.declared.serving.Flush.TheVariants.{Body, BodyOut, BodySafe, GateSet}
use Rattle.rr_node.proofs.DiskLaws.{written_by}
use Rattle.rr_node.proofs.ServingLaws.{flush_goes, job_goes, gate_done, call_failing, none_done}
use Rattle.rr_node.proofs.serving.step_on.Goals as goal

pub returns-in-Ok-clause-steps : goal.returns-in-Ok-clause-steps
returns-in-Ok-clause-steps c =
    let job = c.in-Body.job in
    let done = c.in-Ok.ensures.done in
    let k = c.step.new.journal in
    λ s. rw c.in-Body.is
    (flush_goes s c.args.slots.now c.step.new.journal (Body job) (BodyOut c.in-Ok.job) (Write job.area (job.gate + 1) job.body) Sync (Write job.area job.gate (165 ∷ []) ∷ Sync ∷ []) refl (rw done.0 refl) done.2
    (λ calm. written_by c.args.slots.now.disk k.disk job.area (job.gate + 1) job.body calm done.3) (job_goes s c.args.slots.now c.step.new.journal job c.in-Ok.job done.2 done.0))

pub returns-in-Ok-step-2-clause-steps : goal.returns-in-Ok-step-2-clause-steps
returns-in-Ok-step-2-clause-steps c =
    let job = c.in-BodySafe.job in
    let done = c.in-Ok-step-2.ensures.done in
    let k = c.step-in-BodySafe.new.journal in
    λ s. rw c.in-BodySafe.is
    (flush_goes s c.args.slots.now c.step-in-BodySafe.new.journal (BodySafe job) (GateSet c.in-Ok-step-2.job) (Write job.area job.gate (165 ∷ [])) Sync [] refl refl done.2
    (λ calm. written_by c.args.slots.now.disk k.disk job.area job.gate (165 ∷ []) calm done.3) (job_goes s c.args.slots.now c.step-in-BodySafe.new.journal job c.in-Ok-step-2.job done.2 done.0))

pub returns-in-Ok-step-3-clause-steps : goal.returns-in-Ok-step-3-clause-steps
returns-in-Ok-step-3-clause-steps c =
    let job = c.in-GateSet.job in
    let done = c.in-Ok-step-3.ensures.done in
    λ s. rw c.in-GateSet.is
    (gate_done s c.args.slots.now c.step-in-GateSet.new.journal job c.in-Ok-step-3.synced (job.group.serial + length job.group.facts) done.0 done.2 refl done.3)

pub returns-in-Switching : goal.returns-in-Switching
returns-in-Switching c = rw c.in-Switching.is c.switch_on.ensures

pub returns-in-Ok-clause-fails : goal.returns-in-Ok-clause-fails
returns-in-Ok-clause-fails c =
    let job = c.in-Body.job in
    λ s calm n p fill due arms. none_done fill (Write job.area (job.gate + 1) job.body) calm c.args.slots.now c.step.new.journal arms c.in-Ok.ensures.done.3

pub returns-in-Err-clause-fails : goal.returns-in-Err-clause-fails
returns-in-Err-clause-fails c =
    let job = c.in-Body.job in
    rw c.in-Body.is
    (λ s calm n p fill due arms. call_failing n p fill s calm c.args.slots.now c.step.new.journal (Body job) c.in-Err.refusal (Write job.area (job.gate + 1) job.body) _ refl arms c.in-Err.ensures.refused)

pub returns-in-Ok-step-2-clause-fails : goal.returns-in-Ok-step-2-clause-fails
returns-in-Ok-step-2-clause-fails c =
    let job = c.in-BodySafe.job in
    λ s calm n p fill due arms. none_done fill (Write job.area job.gate (165 ∷ [])) calm c.args.slots.now c.step-in-BodySafe.new.journal arms c.in-Ok-step-2.ensures.done.3

pub returns-in-Err-step-2-clause-fails : goal.returns-in-Err-step-2-clause-fails
returns-in-Err-step-2-clause-fails c =
    let job = c.in-BodySafe.job in
    rw c.in-BodySafe.is
    (λ s calm n p fill due arms. call_failing n p fill s calm c.args.slots.now c.step-in-BodySafe.new.journal (BodySafe job) c.in-Err-step-2.refusal (Write job.area job.gate (165 ∷ [])) _ refl arms c.in-Err-step-2.ensures.refused)

pub returns-in-Ok-step-3-clause-fails : goal.returns-in-Ok-step-3-clause-fails
returns-in-Ok-step-3-clause-fails c =
    let job = c.in-GateSet.job in
    λ s calm n p fill due arms. none_done fill Sync calm c.args.slots.now c.step-in-GateSet.new.journal arms c.in-Ok-step-3.ensures.done.3
