use Rattle.std.proofs.Common.{◌≡◌, ◌<◌, None, Ok, Option, length, subst, ◌∙◌, arith}
use Rattle.rr_audit.specs.declared.given.Given.{Given}
use Rattle.rr_audit.specs.Audits.{Replay}
use Rattle.rr_audit.specs.Following.{FollowsAt, Steps}
use Rattle.rr_audit.proofs.Going.{no_some, stepped}
use Rattle.rr_audit.proofs.replay.Replay.step.Goals as goal

pub returns : goal.returns
returns c =
    let before : Replay = record { nodes = c.self.inside.nodes.items; wire = c.self.inside.wire } in
    let e = c.args.event.now in
    let s = c.index_mut-node.result.now in
    let t = c.follow.new.self in
    let is : c.from-at.result ≡ c.args.event.now.node = c.from-at.ensures ∙ c.index.ensures.value in
    let there : c.from-at.result < length c.self.inside.nodes.items = omega (arith, c.if-at-len.false, c.len.ensures, c.self.inside.nodes.ok.0) in
    let none : c.in_ok-given.field-0 ≡ None = no_some c.in_ok-given.field-0 c.in_default.not-Some in
    let followed : FollowsAt c.self.inside.wire e s t (Ok None) = subst (λ (g : Option Given). FollowsAt c.self.inside.wire e s t (Ok g)) none c.in_ok-given.ensures in
    subst (λ (x : Replay). Steps c.args.event.now x c.carry.new.self (Ok None)) c.self.view_is
    (stepped e before c.carry.new.self c.from-at.result s t is there c.index_mut-node.ensures.value followed c.in_ok-carry.ensures.ok)
