-- Which nodes are left down, by a word.
use Rattle.std.specs.Prelude.{◌≡◌, ◌⊎◌, ◌<◌, ℕ, true, false, List, [], ◌∷◌, Option, None, Some, ◌==◌, if◌then◌else◌}
use Rattle.clap.specs.Words.{Text}
use Rattle.rr_types.specs.Nodes.{has_member, with_member}
use Rattle.rr_text.specs.Reading.{◌>>=◌, node_at}

-- a set with the node of n too that a word names; none where it names no node, or one that the set has
abbrev pub named_beside : ℕ → ℕ → List ℕ → Option ℕ
named_beside n set word = node_at n word >>= λ p. if has_member set p then None else Some (with_member set p)

-- a set with the nodes of n too that a list names: their numbers with commas between them, each once; none where it isn't such a list
abbrev pub named_from : ℕ → ℕ → List ℕ → Option ℕ
named_from n set [] = None
named_from n set (digit ∷ []) = named_beside n set (digit ∷ [])
named_from n set (digit ∷ (comma ∷ rest)) =
    if comma == 44 then (named_beside n set (digit ∷ []) >>= λ more. named_from n more rest) else None

-- the nodes of n that a word names, none of them where there is no word; none where it isn't such a list
abbrev pub left_out_by : ℕ → Option Text → Option ℕ
left_out_by n None = Some 0
left_out_by n (Some word) = named_from n 0 word

-- the first k nodes are left out
abbrev pub AreLeftOutBelow : ℕ → ℕ → Type 0
AreLeftOutBelow k left = (q : ℕ) → q < k → has_member left q ≡ true

-- node p of n is the lowest that isn't left out; node 0, where all are
abbrev pub IsFirstLeft : ℕ → ℕ → ℕ → Type 0
IsFirstLeft n left p = ((p < n) × (has_member left p ≡ false) × AreLeftOutBelow p left) ⊎ ((p ≡ 0) × AreLeftOutBelow n left)
