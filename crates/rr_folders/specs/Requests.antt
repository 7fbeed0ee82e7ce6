-- The file that reserves request numbers, and the numbers that facts name.
use Rattle.std.specs.Prelude.{ℕ, max, ◌==◌, if◌then◌else◌, List, [], ◌∷◌, fold, Option, None, Some}
use Rattle.rr_types.specs.declared.command.Command.{Command}
use Rattle.rr_types.specs.declared.promise.Entry.{Entry}
use Rattle.rr_types.specs.declared.promise.Standing.{Standing}
use Rattle.rr_types.specs.declared.promise.Standing.TheVariants.{Decided, Open}
use Rattle.rr_text.specs.Reading.{◌>>=◌, cut_at, number_at}

-- request numbers that are reserved and not used: from the next one on, below the end
pub record Reserved : Type 0 where
  pub next : ℕ
  pub end : ℕ

-- the number before the line feed, where nothing stands behind that
abbrev pub stored_from : List ℕ × List ℕ → Option ℕ
stored_from (word, []) = number_at word
stored_from (word, b ∷ bs) = None

-- the number that the bytes of the file hold: one in decimal below 2 ^ 64, and a line feed
abbrev pub stored_number : List ℕ → Option ℕ
stored_number bytes = cut_at 10 bytes >>= stored_from

-- the greater of two numbers, where there is a first
abbrev pub greater : Option ℕ → ℕ → ℕ
greater None n = n
greater (Some m) n = max m n

-- the greatest number of a client, with a command too
abbrev pub greatest_with : ℕ → Option ℕ → Command → Option ℕ
greatest_with client most c = if c.request.client == client then Some (greater most c.request.seq) else most

-- the greatest number of a client, with a proposal too
abbrev pub greatest_proposed : ℕ → Option ℕ → Option Command → Option ℕ
greatest_proposed client most None = most
greatest_proposed client most (Some c) = greatest_with client most c

-- the greatest number of a client, with what is known of an instance too: its decision, or its estimate and its proposal
abbrev pub greatest_known : ℕ → Option ℕ → Standing → Option ℕ
greatest_known client most (Decided c) = greatest_with client most c
greatest_known client most (Open s) = greatest_proposed client (greatest_with client most s.estimate) s.proposal

abbrev pub greatest_at : ℕ → Option ℕ → Entry → Option ℕ
greatest_at client most e = greatest_known client most e.standing

-- the greatest request number of a client that facts name
abbrev pub greatest_in : ℕ → List Entry → Option ℕ
greatest_in client entries = fold (greatest_at client) None entries
