-- What an outbox remembers of its search through the queue of its messages.
use Rattle.std.specs.Prelude.{◌≡◌, ◌<◌, ◌≤◌, ℕ, Bool, false, List, take, length, slice_get, find, All}
use Rattle.std.specs.List.{remove}
use Rattle.rr_model.specs.NodeState.{Owed}
use Rattle.rr_model.specs.NodeStep.{may_leave}
use Rattle.rr_state.specs.Owing.{without_first}

-- facts numbered `least` or above back the first `count` messages, and the search goes on at `next`
abbrev pub IsPassed : ℕ → ℕ → ℕ → List Owed → Type 0
IsPassed count next least os = (count ≤ next) × (next ≤ length os) × All (λ o. may_leave least o ≡ false) (take count os)

-- the first element that passes is at k
abbrev pub Found : {A : Type 0} → (A → Bool) → List A → ℕ → Type 0
Found p xs k = (k < length xs) × (find p xs ≡ slice_get xs k) × (without_first p xs ≡ remove xs k)
