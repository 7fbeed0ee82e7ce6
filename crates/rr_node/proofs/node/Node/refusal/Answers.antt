use Rattle.std.proofs.Common.{subst}
use Rattle.rr_node.specs.Runs.{IsSpelt}
use Rattle.rr_node.specs.Seats.{Seat}
use Rattle.rr_node.proofs.SpellingLaws.{steady_spelt}
use Rattle.rr_node.proofs.node.Node.refusal.Goals as goal

pub returns-in-Opening-clause-spelt : goal.returns-in-Opening-clause-spelt
returns-in-Opening-clause-spelt c =
    let n = c.self.inside in
    subst (λ (s : Seat). IsSpelt s.doing) c.self.view_is (steady_spelt n.nodes n.node n.doing c.self.invariant.1)
