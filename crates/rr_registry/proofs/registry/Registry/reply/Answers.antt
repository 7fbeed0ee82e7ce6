use Rattle.std.proofs.Common.{ap, ◌∙◌}
use Rattle.rr_registry.specs.Kept.{kept_reply}
use Rattle.rr_registry.proofs.KeptLemmas.{reply-kept_of}
use Rattle.rr_registry.proofs.registry.Registry.reply.Goals as goal

pub returns-clause-of_list : goal.returns-clause-of_list
returns-clause-of_list c L h = c.reply.ensures ∙ ap (λ k. kept_reply k c.args.request) (c.self.view_is ∙ h) ∙ reply-kept_of L c.args.request
