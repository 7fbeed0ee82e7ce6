use Rattle.std.proofs.Common.{◌≡◌, ◌++◌, ◌∷◌, [], ◌+◌, length, arith, sym, ap, ◌∙◌, subst, List, append_assoc, Some}
use Rattle.std.specs.Prelude.{slice_get}
use Rattle.std.proofs.lemmas.Option.{slice_get_within}
use mathlib.Core.List.{IsPrefix}
use Rattle.rr_types.specs.declared.command.Command.{Command}
use Rattle.rr_model.specs.NodeState.{decided_prefix}
use Rattle.rr_turn.specs.Listed.{listed}
use Rattle.rr_turn.proofs.Takes.{prefix_take, prefix_more, take_get, length_more}
use Rattle.rr_turn.proofs.following.follow.Goals as goal

pub returns-in-Err-clause-some : goal.returns-in-Err-clause-some
returns-in-Err-clause-some g c pre = subst (λ (p : List Command). IsPrefix p (decided_prefix c.args.core.now)) (sym (ap listed c.in-Err.ensures.kept ∙ c.loop-place.invariant.2 pre)) (prefix_take c.loop-place.place (decided_prefix c.args.core.now))

pub loop-place-preserved : goal.loop-place-preserved
loop-place-preserved g c =
    let found : slice_get (decided_prefix c.args.core.now) c.loop-place.place ≡ Some c.in-Some.command = cc in
    let more : listed c.append.new.self ≡ listed c.loop-place.publisher ++ c.in-Some.command ∷ [] = ap listed c.in-Ok.ensures.ok ∙ sym (append_assoc c.loop-place.publisher.published c.loop-place.publisher.appended (c.in-Some.command ∷ [])) in
    let within = slice_get_within (decided_prefix c.args.core.now) c.loop-place.place c.in-Some.command found in (
      ap (λ (l : List Command). length l) more ∙ length_more (listed c.loop-place.publisher) c.in-Some.command ∙ ap (λ n. n + 1) c.loop-place.invariant.0,
      omega arith,
      λ pre. more ∙ ap (λ (l : List Command). l ++ c.in-Some.command ∷ []) (c.loop-place.invariant.2 pre) ∙ sym (take_get (decided_prefix c.args.core.now) c.loop-place.place c.in-Some.command found),
      ap (λ p. p.published) c.in-Ok.ensures.ok ∙ c.loop-place.invariant.3,
      subst (λ (p : List Command). IsPrefix (listed c.args.publisher.now) p) (sym more) (prefix_more (listed c.args.publisher.now) (listed c.loop-place.publisher) c.in-Some.command c.loop-place.invariant.4),
    )
