use Rattle.std.proofs.Common.{ap, sym, refl, ◌∙◌, Some, is_some}
use Rattle.rr_types.specs.Groups.{Grouped}
use Rattle.rr_model.specs.NodeStep.{group_put_back}
use Rattle.rr_host.proofs.GroupLaws.{back_again}
use Rattle.rr_host.proofs.up.Up.begin.Goals as goal

pub returns-in-Err-begin-clause-refused : goal.returns-in-Err-begin-clause-refused
returns-in-Err-begin-clause-refused c =
    let s = c.args.self.now in
    let took = c.in-Ok-Some.ensures in
    let some = ap is_some c.in-Ok-Some.field-0-is in
    let runs = sym c.in-Ok-Some.field-0-is ∙ (took.some some).1 in
    let refused = c.in-Err-begin.ensures in
    let back = c.put_back.ensures (sym runs ∙ ap (λ (g : Grouped). Some g) (sym refused.refused.0)) in
    let again = back ∙ ap group_put_back (took.some some).0 ∙ back_again s.core took.free in
    let same = refused.refused.1 in
    λ _. rw (again, same) refl
