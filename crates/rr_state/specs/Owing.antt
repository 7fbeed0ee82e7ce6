-- The messages that a node owes, and which bodies need no fact.
use Rattle.std.specs.Prelude.{◌≡◌, ℕ, Bool, true, false, IsTrue, if◌then◌else◌, List, [], ◌∷◌, None}
use Rattle.rr_types.specs.declared.message.Body.{Body}
use Rattle.rr_types.specs.declared.message.Body.TheVariants.{Estimate, Proposal, Ack, Decision, Request, Nack, Beat, Suspects, Ask}
use Rattle.rr_model.specs.NodeState.{Owed}

-- a body that says nothing of facts
abbrev pub is_free : Body → Bool
is_free (Estimate i e) = false
is_free (Proposal i r v) = false
is_free (Ack i r) = false
is_free (Decision i v) = false
is_free (Request v) = true
is_free (Nack i r) = true
is_free Beat = true
is_free (Suspects s) = true
is_free (Ask i) = true

-- an owed message of this node that no fact backs is free
abbrev pub IsOwn : ℕ → Owed → Type 0
IsOwn p o = (o.message.from ≡ p) × (o.backing ≡ None → IsTrue (is_free o.message.body))

-- the list without the first element that passes
abbrev pub without_first : {A : Type 0} → (A → Bool) → List A → List A
without_first p [] = []
without_first p (x ∷ xs) = if p x then xs else x ∷ without_first p xs

-- what a node owes
pub record Owing : Type 0 where
  pub node : ℕ
  pub owed : List Owed
