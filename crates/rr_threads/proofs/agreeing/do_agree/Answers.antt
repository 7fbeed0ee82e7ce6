use Rattle.std.proofs.Common.{◌≡◌, ◌∙◌, ℕ, ◌+◌, true, false, None, Some, drop, length, sym, arith}
use Rattle.std.specs.Prelude.{slice_get}
use Rattle.std.proofs.lemmas.Option.{slice_get_within}
use Rattle.rr_types.specs.Commands.{is_same_command}
use Rattle.rr_model.specs.NodeState.{decided_prefix}
use Rattle.rr_threads.proofs.AgreeLemmas.{agree_on, differ_at, agree_past}
use Rattle.rr_threads.proofs.agreeing.do_agree.Goals as goal

pub returns-in_default-decided_at : goal.returns-in_default-decided_at
returns-in_default-decided_at c =
    let xs = decided_prefix c.args.one.now in
    let ys = decided_prefix c.args.other.now in
    let none : slice_get ys c.loop-place.place ≡ None = cc in
    sym (agree_past xs ys c.loop-place.place none) ∙ c.loop-place.invariant.1

pub returns-then-not-is_same : goal.returns-then-not-is_same
returns-then-not-is_same c =
    let xs = decided_prefix c.args.one.now in
    let ys = decided_prefix c.args.other.now in
    let found : slice_get xs c.loop-place.place ≡ Some c.in-Some.command = cc in
    let beside : slice_get ys c.loop-place.place ≡ Some c.in-Some-decided_at.beside = cc in
    let other : is_same_command c.in-Some.command c.in-Some-decided_at.beside ≡ false = cc in
    sym (differ_at xs ys c.loop-place.place c.in-Some.command c.in-Some-decided_at.beside found beside other) ∙ c.loop-place.invariant.1

pub loop-place-preserved : goal.loop-place-preserved
loop-place-preserved c =
    let xs = decided_prefix c.args.one.now in
    let ys = decided_prefix c.args.other.now in
    let found : slice_get xs c.loop-place.place ≡ Some c.in-Some.command = cc in
    let beside : slice_get ys c.loop-place.place ≡ Some c.in-Some-decided_at.beside = cc in
    let same : is_same_command c.in-Some.command c.in-Some-decided_at.beside ≡ true = cc in
    let within = slice_get_within xs c.loop-place.place c.in-Some.command found in (
      omega arith,
      sym (agree_on xs ys c.loop-place.place c.in-Some.command c.in-Some-decided_at.beside found beside same) ∙ c.loop-place.invariant.1,
    )
