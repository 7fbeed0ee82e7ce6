use Rattle.std.proofs.Common.{sym, subst, ◌∙◌, Ok}
use Rattle.rr_node.specs.declared.doing.Doing.TheVariants as does
use Rattle.rr_types.specs.declared.event.NodeEvent.TheVariants as at
use Rattle.rr_node.specs.declared.event.Outcome.TheVariants.{Quiet}
use Rattle.rr_node.specs.declared.serving.Flush.{Flush}
use Rattle.rr_node.specs.declared.serving.Flush.TheVariants.{Resting}
use Rattle.rr_node.specs.Views.{CarriesOn}
use Rattle.rr_node.proofs.ServingLaws.{mark_done}
use Rattle.rr_node.proofs.serving.Serving.mark.Goals as goal

pub returns-in-Ok : goal.returns-in-Ok
returns-in-Ok c =
    let s = c.args.self.now in
    rw c.replace.ensures.after
    (subst (λ (f : Flush). CarriesOn at.Mark (record { core = s.core; slots = s.slots; flush = f }) (Ok Quiet) (does.Serving (record { core = c.mark.new.self; slots = s.slots; flush = Resting }))) (sym c.in-Flushed.is ∙ c.replace.ensures.value)
    (mark_done s.core c.mark.new.self s.slots c.in-Flushed.synced c.in-Ok.ensures.ok c.in-Ok.ensures.fits))
