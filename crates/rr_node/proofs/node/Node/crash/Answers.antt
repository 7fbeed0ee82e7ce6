use Rattle.std.proofs.Common.{◌≡◌, ℕ, None, ap, ◌∙◌}
use Rattle.rr_node.specs.declared.doing.Doing.{Doing}
use Rattle.rr_node.specs.declared.doing.Doing.TheVariants as does
use Rattle.rr_node.specs.Seats.{Seat, crashed}
use Rattle.rr_node.specs.Views.{IsSteady, due_of, seat_of}
use Rattle.rr_node.proofs.node.Node.crash.Goals as goal

-- no failure is due at a steady node
calm : (n p : ℕ) (d : Doing) → IsSteady n p d → due_of d ≡ None
calm n p (does.Stopped disk) h = h
calm n p (does.Faulted disk) h = h
calm n p (does.Opening o) h = h.2
calm n p (does.Serving s) h = h.calm

pub invariant_of-self : goal.invariant_of-self
invariant_of-self c =
    let n = c.self.inside in
    (c.self.invariant.0, c.crash.ensures.down n.nodes n.node (calm n.nodes n.node n.doing c.self.invariant.1))

pub returns-clause-left : goal.returns-clause-left
returns-clause-left c =
    let n = c.self.inside in
    let seat : Seat = seat_of n.nodes n.node n.doing in
    c.crash.ensures.left n.nodes n.node
    ∙ ap (λ (k : ℕ). crashed k c.from.result c.args.fill.now seat) c.from-first.ensures
    ∙ ap (λ (k : ℕ). crashed c.args.cut_first k c.args.fill.now seat) c.from.ensures
    ∙ ap (crashed c.args.cut_first c.args.cut_second c.args.fill.now) c.self.view_is

pub returns-clause-no_call : goal.returns-clause-no_call
returns-clause-no_call c =
    let n = c.self.inside in
    ap (λ (s : Seat). s.calls) (c.crash.ensures.left n.nodes n.node) ∙ ap (λ (s : Seat). s.calls) c.self.view_is
