-- The request numbers that a shell gives.
use Rattle.std.specs.Prelude.{◌≡◌, ◌⊎◌, ◌+◌, ◌<◌, ◌≤◌, ℕ, Option, None, Some, IfSome}
use Rattle.rr_folders.specs.Requests.{Reserved, greater}
use Rattle.rr_run.specs.Boards.{Call, WasTold}
use Rattle.rr_run.specs.declared.asking.Question.TheVariants as asks
use Rattle.rr_run.specs.declared.asking.Told.{Told}
use Rattle.rr_run.specs.declared.asking.Told.TheVariants as told

-- this number is the next of a block, which goes on behind it; or the first of a new block, where the old one has none, and no lower than
-- the old one's next
abbrev pub IsNext : Reserved → Reserved → ℕ → Type 0
IsNext old new n =
    ((old.next < old.end) × (n ≡ old.next) × (new ≡ record { next = n + 1; end = old.end }))
    ⊎ ((old.end ≤ old.next) × (old.next ≤ n) × (new ≡ record { next = n + 1; end = n + 1048576 }))

-- the greater of two numbers, of which either may be lacking
abbrev pub greatest_of : Option ℕ → Option ℕ → Option ℕ
greatest_of most None = most
greatest_of most (Some n) = Some (greater most n)

-- the greatest number of a client that facts name, with one that is told
abbrev pub greatest_told : Option ℕ → Told → Option ℕ
greatest_told most (told.Greatest g) = greatest_of most g.number
greatest_told most t = most

-- the first k nodes were asked which is the greatest number of a client that their facts name, and this is the greatest of those
pub data HaveTold {B : Type 0} (gives : B → Call → B → Type 0) (client : ℕ) : ℕ → Option ℕ → Type 0 where
  none : HaveTold gives client 0 None
  more : {k : ℕ} {most : Option ℕ} → HaveTold gives client k most → (t : Told) → WasTold gives (asks.Greatest k client) t
      → HaveTold gives client (k + 1) (greatest_told most t)

-- a block begins behind each number of a client that the facts of n nodes name
abbrev pub IsBehindAll : {B : Type 0} → (B → Call → B → Type 0) → ℕ → ℕ → Reserved → Type 0
IsBehindAll gives client n block = (most : Option ℕ) × HaveTold gives client n most × IfSome most (λ used. used < block.next)
