use Rattle.std.proofs.Common.{subst, arith}
use Rattle.rr_turn.specs.Asked.{sees_told, sees_end}
use Rattle.rr_turn.proofs.Waits.{waits_none, waits_on, waited_told, waited_down, waited_late}
use Rattle.rr_turn.proofs.waiting.wait_at.Goals as goal

pub loop-rests-init : goal.loop-rests-init
loop-rests-init g c = (omega arith, waits_none g.E.ClientEnds.gives c.args.ends.now)

pub loop-rests-preserved : goal.loop-rests-preserved
loop-rests-preserved g c =
    let gives = g.E.ClientEnds.gives in
    let at = c.loop-rests.ends in
    let told = c.is_told.new.self in
    let ending = c.is_ending.new.self in (
      omega arith,
      waits_on gives c.loop-rests.rests c.args.ends.now told ending at c.rest.new.self c.loop-rests.invariant.1
          (subst (λ b. gives at (sees_told b) told) c.if-is_told.false c.is_told.ensures) (subst (λ b. gives told (sees_end b) ending) c.if-is_ending.false c.is_ending.ensures) c.rest.ensures,
    )

pub returns-then-is_told : goal.returns-then-is_told
returns-then-is_told g c =
    let gives = g.E.ClientEnds.gives in
    let at = c.loop-rests.ends in
    let told = c.is_told.new.self in
    waited_told gives c.args.looks c.loop-rests.rests c.args.ends.now at told c.loop-rests.invariant.0 c.loop-rests.invariant.1 (subst (λ b. gives at (sees_told b) told) c.if-is_told.true c.is_told.ensures)

pub returns-then-is_ending : goal.returns-then-is_ending
returns-then-is_ending g c =
    let gives = g.E.ClientEnds.gives in
    let at = c.loop-rests.ends in
    let told = c.is_told.new.self in
    let ending = c.is_ending.new.self in
    waited_down gives c.args.looks c.loop-rests.rests c.args.ends.now at told ending c.loop-rests.invariant.0 c.loop-rests.invariant.1
    (subst (λ b. gives at (sees_told b) told) c.if-is_told.false c.is_told.ensures) (subst (λ b. gives told (sees_end b) ending) c.if-is_ending.true c.is_ending.ensures)

pub returns : goal.returns
returns g c = waited_late g.E.ClientEnds.gives c.args.looks c.loop-rests.rests c.args.ends.now c.loop-rests.ends (omega arith) c.loop-rests.invariant.1
