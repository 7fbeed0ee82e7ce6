-- Where an instance stands by its row: an open one, or one that has decided, which has no round.
use Rattle.std.proofs.Common.{◌≡◌, ℕ, Bool, true, false, not, ◌&&◌, List, Option, None, Some, option_map, is_some, refl, ap, sym, ◌∙◌}
use Rattle.rr_types.specs.declared.promise.Standing.{Standing}
use Rattle.rr_types.specs.declared.promise.Standing.TheVariants.{Decided, Open}
use Rattle.rr_types.specs.Rounds.{OpenAt}
use Rattle.rr_types.specs.Standings.{is_undecided}
use Rattle.rr_model.specs.NodeState.{Row, row_of, is_decided}
use Rattle.rr_core.specs.Places.{HasNoRound}

abbrev stands : Option Row → Option Standing
stands o = option_map (λ (r : Row). r.standing) o

pub open_there : (rows : List Row) (i : ℕ) (r : Row) (o : OpenAt) → row_of rows i ≡ Some r → r.standing ≡ Open o → option_map (λ (q : Row). q.standing) (row_of rows i) ≡ Some (Open o)
open_there rows i r o h e = ap stands h ∙ ap (λ (s : Standing). Some s) e

none_decided : (s : Standing) → not (is_undecided (Some s)) ≡ true → HasNoRound (Some s)
none_decided (Decided v) h = record { round = refl; stamp = refl; estimate = refl; proposal = refl }
none_decided (Open o) h = cc

pub decided_there : (rows : List Row) (i : ℕ) (r : Row) → row_of rows i ≡ Some r → is_decided r ≡ true → HasNoRound (option_map (λ (q : Row). q.standing) (row_of rows i))
decided_there rows i r h d = rw h (none_decided r.standing d)

pub nothing_there : (rows : List Row) (i : ℕ) → row_of rows i ≡ None → HasNoRound (option_map (λ (q : Row). q.standing) (row_of rows i))
nothing_there rows i h = rw h (record { round = refl; stamp = refl; estimate = refl; proposal = refl })

both_false : (a b : Bool) → b ≡ false → false ≡ (a && b)
both_false true b h = sym h
both_false false b h = refl

pub not_proposed : {A : Type 0} (a : Bool) (o : Option A) → o ≡ None → false ≡ (a && is_some o)
not_proposed a o h = both_false a (is_some o) (ap is_some h)
