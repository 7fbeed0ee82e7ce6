use Rattle.std.proofs.Common.{◌≡◌, ◌∙◌, ◌+◌, refl, subst, sym, ap, arith}
use Rattle.std.specs.Prelude.{map, IfSome}
use Rattle.std.specs.List.{range_with_len}
use Rattle.rr_turn.proofs.Rows.{one_more}
use Rattle.rr_turn.proofs.bells.row.Goals as goal

pub loop-index-preserved : goal.loop-index-preserved
loop-index-preserved c =
    let l = c.loop-index in
    let same = subst (λ o. IfSome o (λ p. p ≡ l.index)) c.in-Some.is c.at.ensures.value in (
      omega arith,
      c.in_ok-push.ensures.len ∙ ap (λ n. n + 1) l.invariant.1,
      subst (λ bells. map (λ b. b.node) bells ≡ range_with_len 0 (l.index + 1)) (sym c.in_ok-push.ensures.items)
          (one_more l.bells.items l.index l.index c.new.result l.invariant.2 refl (c.new.ensures ∙ same)),
    )
