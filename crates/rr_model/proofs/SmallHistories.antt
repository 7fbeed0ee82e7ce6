-- Small histories, and what isn't one.
use Rattle.std.proofs.Common.{◌≡◌, ℕ, zero, suc, ◌≤◌, List, [], length, take, refl, arith}
use Rattle.std.proofs.lemmas.Option.{none-some}
use Rattle.rr_types.specs.declared.promise.Entry.{Entry}
use Rattle.rr_types.specs.Promises.{promise_of}
use Rattle.rr_types.specs.declared.fact.Fact.{Fact}
use Rattle.rr_model.specs.Deeds.{IsHistory, OpensWell, first_start, IsFirstStartEmpty, HearsNothingUnsent, DoesNothingDown}

pub first_start_is_one : IsHistory 1 first_start
first_start_is_one = ((omega arith, refl), tt)

pub first_start_opens_well : OpensWell 1 first_start
first_start_opens_well = ((0, omega arith, refl, refl), tt)

empty_by : (promise : List Entry) (next count : ℕ) → count ≤ 0 → next ≡ length (take {A = Fact} count []) → promise ≡ promise_of (take count []) → (promise ≡ []) × (next ≡ 0)
empty_by promise next zero l e f = (f, e)
empty_by promise next (suc count) l e f = absurd (omega arith)

pub first_start_is_empty : IsFirstStartEmpty
first_start_is_empty promise next o = empty_by promise next o.0.0 o.0.1 o.0.2 o.0.3

pub hears_nothing_unsent : HearsNothingUnsent
hears_nothing_unsent m h = let c = ((h.1.0.2).0).0 in absurd (let l = c.1 in omega (arith, l))

pub does_nothing_down : DoesNothingDown
does_nothing_down h = none-some h.0.0 h.0.1
