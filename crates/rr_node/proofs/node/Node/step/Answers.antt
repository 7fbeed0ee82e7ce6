use Rattle.std.proofs.Common.{refl, subst}
use Rattle.rr_node.specs.Runs.{IsSpelt}
use Rattle.rr_node.specs.Seats.{Seat}
use Rattle.rr_node.specs.Views.{seat_of}
use Rattle.rr_node.proofs.CallLaws.{gives_none, gives_one, gave}
use Rattle.rr_node.proofs.SpellingLaws.{steady_spelt, steadily_spelt}
use Rattle.rr_node.proofs.node.Node.step.Goals as goal

pub returns-in-Some-clause-spelt : goal.returns-in-Some-clause-spelt
returns-in-Some-clause-spelt c =
    let n = c.self.inside in
    subst (λ (s : Seat). IsSpelt s.doing) c.self.view_is (steady_spelt n.nodes n.node n.doing c.self.invariant.1)

pub returns-in-None-clause-one_call : goal.returns-in-None-clause-one_call
returns-in-None-clause-one_call c =
    let n = c.self.inside in
    let new = c.go_on.new.doing in
    gives_one c.args.event.now c.args.self.now (seat_of n.nodes n.node new) c.go_on.result
    (gave n.nodes n.node c.args.event.now n.doing n.doing new new c.args.self.now c.go_on.result c.self.view_is c.self.invariant.1 refl c.go_on.ensures refl)

pub returns-in-None-clause-no_call : goal.returns-in-None-clause-no_call
returns-in-None-clause-no_call c =
    let n = c.self.inside in
    let new = c.go_on.new.doing in
    gives_none c.args.event.now c.args.self.now (seat_of n.nodes n.node new) c.go_on.result
    (gave n.nodes n.node c.args.event.now n.doing n.doing new new c.args.self.now c.go_on.result c.self.view_is c.self.invariant.1 refl c.go_on.ensures refl)

pub returns-in-None-clause-spelt : goal.returns-in-None-clause-spelt
returns-in-None-clause-spelt c =
    let n = c.self.inside in
    let new = c.go_on.new.doing in
    steadily_spelt n.nodes n.node n.doing n.doing new new c.self.invariant.1 refl c.go_on.ensures refl
