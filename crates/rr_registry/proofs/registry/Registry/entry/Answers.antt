use Rattle.std.proofs.Common.{ap, ◌∙◌}
use Rattle.rr_types.specs.Registry.{holding_of}
use Rattle.rr_registry.proofs.KeptLemmas.{bindings-kept_of}
use Rattle.rr_registry.proofs.registry.Registry.entry.Goals as goal

pub returns-clause-of_list : goal.returns-clause-of_list
returns-clause-of_list c L h = c.holding.ensures ∙ ap (λ m. holding_of m c.args.name.now) (ap (λ k. k.bindings) (c.self.view_is ∙ h) ∙ bindings-kept_of L)
