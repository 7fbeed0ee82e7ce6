use Rattle.std.proofs.Common.{◌∷◌, [], true, false, None, Some, inl, inr, subst}
use Rattle.rr_turn.specs.Asked.{sees_over, sees_closed, keeps_all, sees_switch, rests_down, still, more}
use Rattle.rr_turn.proofs.down.stay_down.Goals as goal

pub returns-then-is_over : goal.returns-then-is_over
returns-then-is_over g c =
    let gives = g.E.DownEnds.gives in
    let from = c.args.ends.now in
    let to = c.is_over.new.self in
    inl (more (sees_over true) [] from to to (subst (λ b. gives from (sees_over b) to) c.if-is_over.true c.is_over.ensures) (still to))

pub returns-then-is_closed : goal.returns-then-is_closed
returns-then-is_closed g c =
    let gives = g.E.DownEnds.gives in
    let from = c.args.ends.now in
    let over = c.is_over.new.self in
    let to = c.is_closed.new.self in
    inr (more (sees_over false) (sees_closed true ∷ []) from over to (subst (λ b. gives from (sees_over b) over) c.if-is_over.false c.is_over.ensures)
    (more (sees_closed true) [] over to to (subst (λ b. gives over (sees_closed b) to) c.if-is_closed.true c.is_closed.ensures) (still to)))

pub returns-in-Some : goal.returns-in-Some
returns-in-Some g c =
    let gives = g.E.DownEnds.gives in
    let from = c.args.ends.now in
    let over = c.is_over.new.self in
    let closed = c.is_closed.new.self in
    let kept = c.keep_all.new.self in
    let to = c.moves_if_on.new.self in
    let on = sees_switch (Some c.in-Some.moves) in
    more (sees_over false) (sees_closed false ∷ keeps_all ∷ on ∷ []) from over to (subst (λ b. gives from (sees_over b) over) c.if-is_over.false c.is_over.ensures)
    (more (sees_closed false) (keeps_all ∷ on ∷ []) over closed to (subst (λ b. gives over (sees_closed b) closed) c.if-is_closed.false c.is_closed.ensures)
    (more keeps_all (on ∷ []) closed kept to c.keep_all.ensures (more on [] kept to to c.in-Some.ensures (still to))))

pub returns-in-None : goal.returns-in-None
returns-in-None g c =
    let gives = g.E.DownEnds.gives in
    let from = c.args.ends.now in
    let over = c.is_over.new.self in
    let closed = c.is_closed.new.self in
    let kept = c.keep_all.new.self in
    let off = c.moves_if_on.new.self in
    let to = c.rest.new.self in
    more (sees_over false) (sees_closed false ∷ keeps_all ∷ sees_switch None ∷ rests_down ∷ []) from over to (subst (λ b. gives from (sees_over b) over) c.if-is_over.false c.is_over.ensures)
    (more (sees_closed false) (keeps_all ∷ sees_switch None ∷ rests_down ∷ []) over closed to (subst (λ b. gives over (sees_closed b) closed) c.if-is_closed.false c.is_closed.ensures)
    (more keeps_all (sees_switch None ∷ rests_down ∷ []) closed kept to c.keep_all.ensures
    (more (sees_switch None) (rests_down ∷ []) kept off to c.in-None.ensures (more rests_down [] off to to c.rest.ensures (still to)))))
