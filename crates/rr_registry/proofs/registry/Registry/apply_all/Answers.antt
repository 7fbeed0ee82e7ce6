use Rattle.std.proofs.Common.{ap, sym, ◌∙◌}
use Rattle.std.proofs.lemmas.Result.{on_ok_weaker}
use Rattle.rr_registry.specs.Kept.{applied_all}
use Rattle.rr_registry.proofs.KeptLemmas.{kept_of-append}
use Rattle.rr_registry.proofs.registry.Registry.apply_all.Goals as goal

pub returns-clause-of_list : goal.returns-clause-of_list
returns-clause-of_list c L h =
    let commands = c.args.commands.now in
    on_ok_weaker c.apply_all.result (λ kept. kept ∙ ap (λ k. applied_all k commands) (c.self.view_is ∙ h) ∙ sym (kept_of-append L commands)) c.apply_all.ensures.kept
