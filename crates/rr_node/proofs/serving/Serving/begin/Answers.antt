use Rattle.std.proofs.Common.{ap, sym, subst, ◌∙◌, Ok, Err, Some, is_some}
use Rattle.rr_types.specs.Groups.{Grouped}
use Rattle.rr_node.specs.declared.doing.Doing.TheVariants as does
use Rattle.rr_types.specs.declared.event.NodeEvent.TheVariants as at
use Rattle.rr_node.specs.declared.event.Outcome.TheVariants.{Quiet}
use Rattle.rr_node.specs.declared.serving.Flush.{Flush}
use Rattle.rr_node.specs.declared.serving.Flush.TheVariants.{Body}
use Rattle.rr_node.specs.Views.{CarriesOn}
use Rattle.rr_node.proofs.ServingLaws.{begin_done, begin_refused}
use Rattle.rr_node.proofs.serving.Serving.begin.Goals as goal

pub returns-in-Ok : goal.returns-in-Ok
returns-in-Ok c =
    let s = c.args.self.now in
    let took = c.in-Ok-Some.ensures in
    let some = ap is_some c.in-Ok-Some.field-0-is in
    let runs = sym c.in-Ok-Some.field-0-is ∙ (took.some some).1 in
    let gave = c.in-Ok.ensures.ok in
    rw c.runs_next.ensures
    (subst (λ (f : Flush). CarriesOn at.Take (record { core = s.core; slots = s.slots; flush = f }) (Ok Quiet) (does.Serving (record { core = c.take_group.new.self; slots = c.begin.new.self; flush = Body c.in-Ok.job }))) (sym c.requires)
    (begin_done s.core c.take_group.new.self s.slots c.begin.new.self c.in-Ok-Some.group c.in-Ok.job (took.there some) (took.some some).0 runs took.free c.in-Ok.ensures.lawful gave.2 gave.3 gave.4))

pub returns-in-Err-begin : goal.returns-in-Err-begin
returns-in-Err-begin c =
    let s = c.args.self.now in
    let took = c.in-Ok-Some.ensures in
    let some = ap is_some c.in-Ok-Some.field-0-is in
    let runs = sym c.in-Ok-Some.field-0-is ∙ (took.some some).1 in
    let refused = c.in-Err-begin.ensures in
    let back = c.put_back.ensures (sym runs ∙ ap (λ (g : Grouped). Some g) (sym refused.refused.0)) in
    subst (λ (f : Flush). CarriesOn at.Take (record { core = s.core; slots = s.slots; flush = f }) (Err c.in-Err-begin.refusal) (does.Serving (record { core = c.put_back.new.core; slots = c.begin.new.self; flush = f }))) (sym c.requires)
    (begin_refused s.core c.take_group.new.self c.put_back.new.core s.slots c.begin.new.self c.in-Ok-Some.group c.in-Err-begin.refusal (took.there some) (took.some some).0 runs took.free back refused.refused.1 refused.cause)
