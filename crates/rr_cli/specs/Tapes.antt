-- What an audit prints.
use Rattle.std.specs.Prelude.{ℕ, List, [], ◌∷◌, codes, decimal}
use Rattle.rr_text.specs.ReportTexts.{line}

-- the line of a yes to a tape of so many events
abbrev pub yes_text : ℕ → List ℕ
yes_text count = line (codes "audit" ∷ codes "yes" ∷ decimal count ∷ [])
