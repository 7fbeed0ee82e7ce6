-- What a row says that is kept in a short or a full form.
use Rattle.std.specs.Prelude.{ℕ, ◌^◌, Bool, true, false, ◌&&◌, nat_lt}
use Rattle.rr_types.specs.declared.fact.Fact.{Fact}
use Rattle.rr_types.specs.declared.fact.Fact.TheVariants.{Enter, Propose, Adopt, Decide}
use Rattle.rr_types.specs.declared.promise.Standing.{Standing}
use Rattle.rr_types.specs.declared.promise.Standing.TheVariants.{Decided}
use Rattle.rr_model.specs.NodeState.{Row, Backing, Tally, no_votes}
use Rattle.rr_state.specs.declared.row.Form.{Form}
use Rattle.rr_state.specs.declared.row.Form.TheVariants.{Short, Full}

-- what a row says in a form: where its instance stands, what backs it, what was heard
abbrev pub standing_in : Form → Standing
standing_in (Short s) = Decided s.command
standing_in (Full f) = f.value.standing

abbrev pub backing_in : Form → Backing
backing_in (Short s) = s.backing
backing_in (Full f) = f.value.backing

abbrev pub tally_in : Form → Tally
tally_in (Short s) = no_votes
tally_in (Full f) = f.value.tally

-- the row of instance i that is kept in a form
abbrev pub row_in : ℕ → Form → Row
row_in i f = record { instance = i; standing = standing_in f; backing = backing_in f; tally = tally_in f }

-- whether a short row has room for these numbers: each is below 2^32
abbrev pub is_short : Backing → Bool
is_short b = nat_lt b.entered (2 ^ 32) && nat_lt b.proposed (2 ^ 32) && nat_lt b.adopted (2 ^ 32) && nat_lt b.decided (2 ^ 32)

-- whether a fact decides its instance
abbrev pub is_decide : Fact → Bool
is_decide (Enter i e) = false
is_decide (Propose i r v) = false
is_decide (Adopt i r v) = false
is_decide (Decide i v) = true
