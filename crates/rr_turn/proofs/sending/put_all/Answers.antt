use Rattle.std.proofs.Common.{◌≡◌, ◌-◌, ◌+◌, [], suc, Some, None, refl, sym, subst, ap, ◌∙◌, arith}
use Rattle.std.specs.Prelude.{IfSome, IfNone}
use Rattle.rr_model.specs.NodeStep.{next_leaving, message_left}
use Rattle.rr_turn.specs.Asked.{leaves, still}
use Rattle.rr_turn.specs.Turns.{leaving, left}
use Rattle.rr_turn.specs.Looks.{Puts}
use Rattle.rr_turn.proofs.Sends.{HasPut, put_more, put_none, put_full}
use Rattle.rr_turn.proofs.sending.put_all.Goals as goal
use Rattle.rr_turn.proofs.sending.put_all.Goals.{else-loop-turn-test, then-loop-turn-test+in-Ok-None}

pub loop-turn-init : goal.loop-turn-init
loop-turn-init g c =
    let all : c.args.most - 0 ≡ c.args.most = omega arith in (
      omega arith,
      record {
        sents = [];
        count = omega arith;
        oldest = ap (λ n. leaving n c.args.locked.now) all;
        rest = ap (λ n. left n c.args.locked.now) all;
        here = refl;
        calls = still c.args.links.now;
        woken = cc;
        answer = refl;
        chase = refl;
      },
    )

pub loop-turn-preserved : goal.loop-turn-preserved
loop-turn-preserved g c =
    let gives = g.L.Links.gives in
    let most = c.args.most in
    let l = c.loop-turn in
    let old = c.args.locked.now in
    let new = c.send.new.locked in
    let before = c.args.chase.now in
    let room : most - l.turn ≡ suc (most - (l.turn + 1)) = omega (arith, c.loop-turn-test.true) in
    let has = subst (λ n. HasPut gives n most old l.locked c.args.links.now l.links l.woken l.has_any before l.chase) room l.invariant.1 in
    let went = subst (λ o. gives l.links (leaves l.locked o) c.send.new.self) c.in-Ok-Some.field-0-is c.in-Ok-Some.ensures.call in
    let one = subst (λ o. IfSome o (λ sent. (next_leaving l.locked ≡ Some sent.message) × (new ≡ message_left l.locked))) c.in-Ok-Some.field-0-is c.in-Ok-Some.ensures.some in (
      omega arith,
      put_more gives (most - (l.turn + 1)) most old l.locked c.args.links.now l.links l.woken l.has_any before l.chase c.in-Ok-Some.sent new c.send.new.self c.put-woken.new.links has one.0 one.1 went
          c.put-woken.ensures.calls c.put-woken.ensures.woken c.put-woken.ensures.chase,
    )

pub returns : goal.returns
returns g c =
    let gives = g.L.Links.gives in
    let most = c.args.most in
    let old = c.args.locked.now in
    let from = c.args.links.now in
    let before = c.args.chase.now in
    let l = c.loop-turn in
    let at = c.loop-turn-test in
    elim at.branch [
      | else-loop-turn-test w ↦ (
          let none : most - l.turn ≡ 0 = omega (arith, w.loop-turn-test.false) in
          subst (λ t. Puts gives old t most l.has_any l.woken before from l.chase at.links) (sym w.locked-is)
          (subst (λ end. Puts gives old l.locked most l.has_any l.woken before from l.chase end) (sym w.links-is)
          (put_full gives most old l.locked from l.links l.woken l.has_any before l.chase (subst (λ n. HasPut gives n most old l.locked from l.links l.woken l.has_any before l.chase) none l.invariant.1))))
      | then-loop-turn-test+in-Ok-None w ↦ (
          let none = subst (λ o. IfNone o ((next_leaving l.locked ≡ None) × (w.send.new.locked ≡ l.locked))) w.in-Ok-None.field-0-is w.in-Ok-None.ensures.none in
          let went = subst (λ o. gives l.links (leaves l.locked o) w.send.new.self) w.in-Ok-None.field-0-is w.in-Ok-None.ensures.call in
          subst (λ end. Puts gives old at.locked most l.has_any l.woken before from l.chase end) (sym w.links-is)
          (put_none gives (most - l.turn) most old l.locked at.locked from l.links l.woken l.has_any before l.chase w.send.new.self l.invariant.1
          (omega (arith, w.loop-turn-test.true)) none.0 (w.locked-is ∙ none.1) went))
    ]
