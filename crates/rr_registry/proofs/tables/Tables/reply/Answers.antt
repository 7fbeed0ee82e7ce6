use Rattle.std.proofs.Common.{◌∙◌}
use Rattle.rr_registry.proofs.TableLemmas.{lookup-request}
use Rattle.rr_registry.specs.Tables.{kept_in}
use Rattle.rr_registry.proofs.tables.Tables.reply.Goals as goal

pub returns : goal.returns
returns c = c.value_at.ensures.value ∙ lookup-request c.args.request (kept_in c.args.self.now).replies
