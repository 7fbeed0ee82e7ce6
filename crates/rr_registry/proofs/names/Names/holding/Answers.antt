use Rattle.std.proofs.Common.{◌∙◌}
use Rattle.rr_registry.proofs.TableLemmas.{lookup-name}
use Rattle.rr_registry.specs.Tables.{bindings_in}
use Rattle.rr_registry.proofs.names.Names.holding.Goals as goal

pub returns-clause-value : goal.returns-clause-value
returns-clause-value c = c.value_at.ensures.value ∙ lookup-name c.args.name.now (bindings_in c.args.self.now)
