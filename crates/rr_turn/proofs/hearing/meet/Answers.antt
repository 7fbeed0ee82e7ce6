use Rattle.std.proofs.Common.{◌∙◌, [], ap, sym, length}
use Rattle.std.proofs.lemmas.Result.{on_ok_weaker}
use Rattle.rr_turn.specs.declared.chase.Hearing.TheVariants.{Alone}
use Rattle.rr_model.specs.NodeState.{NodeState, decided_prefix}
use Rattle.rr_turn.specs.Asked.{hears, still, more}
use Rattle.rr_turn.proofs.Hears.{meets_by}
use Rattle.rr_turn.proofs.hearing.meet.Goals as goal

pub returns-then-is_plain-clause-calls : goal.returns-then-is_plain-clause-calls
returns-then-is_plain-clause-calls g c =
    let s = c.args.locked.now in
    let to = c.hear.new.self in
    let count = c.decided_count.ensures ∙ ap (λ (u : NodeState). length (decided_prefix u)) c.core.ensures in
    on_ok_weaker c.hear.result
    (λ heard. meets_by g.L.Links.gives c.args.sent.now s c.args.chase.now Alone c.decided_count.result c.args.links.now to count (sym (c.if-is_plain.ensures.heard (search)))
    (more (hears s c.args.sent.now) [] c.args.links.now to to heard (still to))) c.hear.ensures.call
