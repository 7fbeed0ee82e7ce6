-- There is a slot for each place, and a guest for each slot.
use Rattle.std.proofs.Common.{◌≡◌, length, None, Result, Ok, Err, IfOk, subst, arith}
use Rattle.rr_client.specs.Seating.{left_out_in}
use Rattle.rr_client.proofs.cluster.run_over.Goals as goal

pub returns-clause-all : goal.returns-clause-all
returns-clause-all g c =
    let as_many : length c.in_ok-slots.slots.items ≡ length c.args.places.items = omega (arith, c.in_ok-slots.ensures, c.len.ensures, c.args.places.ok.0) in
    subst (λ n. IfOk c.collect_all.result (λ guests. length guests.items ≡ n)) as_many c.collect_all.ensures

-- what holds anyway holds of what was given
in_any_case : {A E : Type 0} (P : Type 0) (r : Result A E) → P → IfOk r (λ x. P)
in_any_case P (Ok x) p = p
in_any_case P (Err e) p = tt

pub returns-clause-none_left_out : goal.returns-clause-none_left_out
returns-clause-none_left_out g c = in_any_case (left_out_in c.args.options.now.without c.args.places.items ≡ None) c.collect_all.result c.requires.none_left_out
