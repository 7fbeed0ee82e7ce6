-- How nodes that get no further stand to one another: those behind hurry, and those ahead wait for them.
use Rattle.std.specs.Prelude.{ℕ, suc, ◌-◌, Bool, false, ◌&&◌, ◌==◌, nat_lt, if◌then◌else◌, List, [], ◌∷◌, Option}
use Rattle.std.specs.Option.{option_map_or}
use Rattle.std.specs.List.{list_any}
use Rattle.rr_turn.specs.Ticks.{Standstill, hurried, held}
use Rattle.rr_threads.specs.declared.pacing.InRound.{InRound}
use Rattle.rr_threads.specs.declared.pacing.Pace.{Pace}
use Rattle.rr_threads.specs.declared.pacing.Pace.TheVariants.{Behind, Ahead, Along}

-- one is in an earlier round of an instance than another
abbrev pub is_before : InRound → InRound → Bool
is_before one other = (one.instance == other.instance) && nat_lt one.round other.round

-- both are in one round of an instance
abbrev pub is_beside : InRound → InRound → Bool
is_beside one other = (one.instance == other.instance) && (one.round == other.round)

-- one of the others is in a later round
abbrev pub is_any_before : InRound → List (Option InRound) → Bool
is_any_before own others = list_any (λ other. option_map_or (is_before own) other false) others

-- one of the others is in an earlier round
abbrev pub is_any_behind : InRound → List (Option InRound) → Bool
is_any_behind own others = list_any (λ other. option_map_or (λ o. is_before o own) other false) others

-- another is in the same round
abbrev pub is_one_beside : InRound → Option InRound → Bool
is_one_beside own other = option_map_or (is_beside own) other false

-- how many of the others are in the same round
abbrev pub count_beside : InRound → List (Option InRound) → ℕ
count_beside own [] = 0
count_beside own (other ∷ others) = if is_one_beside own other then suc (count_beside own others) else count_beside own others

-- how a node stands to the others: behind where one is in a later round; ahead where one is in an earlier round, and those in its own
-- round are no majority with it
abbrev pub pace_of : InRound → List (Option InRound) → ℕ → Pace
pace_of own others majority =
    if is_any_before own others then Behind
    else (if nat_lt (count_beside own others) (majority - 1) && is_any_behind own others then Ahead else Along)

-- the standstill of a node that goes by its pace
abbrev pub paced : Pace → Standstill → Standstill
paced Behind s = hurried s
paced Ahead s = held s
paced Along s = s
