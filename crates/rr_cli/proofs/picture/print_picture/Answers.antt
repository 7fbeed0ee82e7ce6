use Rattle.std.proofs.Common.{List, ℕ, subst}
use Rattle.rr_cli.specs.Ends.{PrintsCut, pictured, unpictured}
use Rattle.rr_cli.proofs.picture.print_picture.Goals as goal

pub returns-in-Ok-clause-ends : goal.returns-in-Ok-clause-ends
returns-in-Ok-clause-ends g c =
    let ends : PrintsCut c.args.cut.now c.in-Ok.text.items c.end_by_cut.result (g.O.Sink.printing c.picture_in.new.out) (g.O.Sink.printing c.end_by_cut.new.out) =
    subst (λ (text : List ℕ). PrintsCut c.args.cut.now text c.end_by_cut.result (g.O.Sink.printing c.picture_in.new.out) (g.O.Sink.printing c.end_by_cut.new.out)) c.as_slice.ensures.value c.end_by_cut.ensures.ends in
    pictured c.in-Ok.text.items c.in-Ok.ensures.ok (rw c.picture_in.ensures.unprinted at ends)

pub returns-in-Err-clause-ends : goal.returns-in-Err-clause-ends
returns-in-Err-clause-ends g c = unpictured c.in-Err.refusal c.in-Err.ensures.fault c.end_by_fault.ensures c.picture_in.ensures.unprinted
