use Rattle.std.proofs.Common.{◌∙◌, ℕ, List, refl, subst, inl, inr}
use Rattle.rr_cli.specs.Ends.{Prints}
use Rattle.rr_cli.proofs.audit.end_by_no_object.Goals as goal

pub returns-in-Ok : goal.returns-in-Ok
returns-in-Ok g c =
    let prints = subst (λ (text : List ℕ). Prints text c.end_by_text-printing.result (g.O.Sink.printing c.args.out.now) (g.O.Sink.printing c.end_by_text-printing.new.out)) (c.as_slice.ensures.value ∙ c.in-Ok.ensures) c.end_by_text-printing.ensures.ends in
    record { ends = inr (c.args.node, c.args.given.now, c.end_by_text-printing.result, prints, c.no_status.ensures) }

pub returns-in-Err : goal.returns-in-Err
returns-in-Err g c = record { ends = inl (c.end_by_refusal.ensures, refl) }
