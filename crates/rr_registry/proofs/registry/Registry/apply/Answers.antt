use Rattle.std.proofs.Common.{◌≡◌, ap, true, is_some, ◌∙◌}
use Rattle.rr_registry.specs.Kept.{kept_reply}
use Rattle.rr_registry.proofs.KeptLemmas.{applied_replies}
use Rattle.rr_registry.proofs.registry.Registry.apply.Goals as goal

pub unreachable-requires : goal.unreachable-requires
unreachable-requires c =
    let request = c.args.command.now.request in
    let some : is_some c.reply.result ≡ true =
    ap is_some (c.reply.ensures.kept ∙ ap (λ k. kept_reply k request) c.in_ok-apply_all.ensures.ok) ∙ applied_replies c.args.self.now c.args.command.now in
    let none = ap is_some c.in-None.is in
    cc
