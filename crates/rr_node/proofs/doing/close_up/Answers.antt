use Rattle.std.proofs.Common.{◌≡◌, Some, sym, subst, ◌∙◌}
use Rattle.std.specs.Prelude.{IsSome}
use Rattle.rr_journal.specs.OpeningStates.{OpeningState}
use Rattle.rr_node.specs.Views.{NodeDisk, Ended}
use Rattle.rr_node.proofs.OpeningLaws.{one_opening, is_there, closes_served}
use Rattle.rr_node.proofs.doing.close_up.Goals as goal

pub close-requires : goal.close-requires
close-requires c =
    let same = one_opening c.requires.0 c.in-Opening.opening (sym c.requires.1 ∙ c.in-Opening.is) in
    subst (λ (o : OpeningState NodeDisk). IsSome o.end) same (is_there c.requires.0.end c.requires.2.0 c.requires.2.1)

pub returns-in-Ok : goal.returns-in-Ok
returns-in-Ok c = λ o is end there n p old ended.
    let same = one_opening o c.in-Opening.opening (sym is ∙ c.in-Opening.is) in
    closes_served n p old c.in-Opening.opening end c.in-Ok.core c.in-Ok.slots c.serve.result.1 c.serve.result.0
    (subst (λ (x : OpeningState NodeDisk). Ended old x end) same ended) (c.in-Ok.ensures.ok end (subst (λ (x : OpeningState NodeDisk). x.end ≡ Some end) same there)) (c.serve.ensures n p)
