-- The votes that a coordinator keeps: the first of each node.
use Rattle.std.specs.Prelude.{◌≡◌, ℕ, ◌+◌, ◌≤◌, ◌==◌, List, [], ◌∷◌, Option, find}
use Rattle.rr_model.specs.NodeState.{Vote}
use Rattle.rr_model.specs.NodeStep.{with_vote}

-- the votes that are kept after these have come, one after another
abbrev pub kept_after : List Vote → List Vote → List Vote
kept_after kept [] = kept
kept_after kept (v ∷ vs) = kept_after (with_vote v kept) vs

-- the first vote of node q
abbrev pub first_of : ℕ → List Vote → Option Vote
first_of q vs = find (λ v. v.sender == q) vs

-- the senders ascend from number q on, so that no two are one
abbrev pub AscendsFrom : ℕ → List Vote → Type 0
AscendsFrom q [] = Unit {0}
AscendsFrom q (v ∷ vs) = (q ≤ v.sender) × AscendsFrom (v.sender + 1) vs

-- of each node its first vote is kept, and no vote else: the senders are distinct
pub record KeepsFirsts (votes : List Vote) : Type 0 where
  pub firsts : (q : ℕ) → first_of q (kept_after [] votes) ≡ first_of q votes
  pub distinct : AscendsFrom 0 (kept_after [] votes)
