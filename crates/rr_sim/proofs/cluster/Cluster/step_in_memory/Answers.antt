use Rattle.std.proofs.Common.{◌≡◌, ℕ, false, true, sym, ◌∙◌, subst}
use Rattle.rr_sim.specs.Clusters.{TellsOfWant}
use Rattle.rr_sim.proofs.WantLaws.{in_memory}
use Rattle.rr_sim.proofs.cluster.Cluster.step_in_memory.Goals as goal

pub returns-clause-ok : goal.returns-clause-ok
returns-clause-ok c =
    in_memory c.args.line c.args.event.now c.args.self.now c.step.new.self c.in_ok-step.ensures.ok
    (λ wants. (let both : false ≡ true = sym c.if-tells_of_want.false ∙ c.tells_of_want.ensures.1 (subst (λ (k : ℕ). TellsOfWant c.step.new.self.lines k) (sym c.count_of_lines-told.ensures) wants) in absurd cc))
