-- The item at a place of what an iterator gives.
use Rattle.std.proofs.Common.{◌≡◌, Option, None, Some, option_map, refl}

-- an item that is shown as itself
pub shown_again : {A : Type 0} (item : Option A) → option_map (λ x. x) item ≡ item
shown_again None = refl
shown_again (Some x) = refl
