-- Which commands are chosen on a wire, by tests.
use Rattle.std.specs.Prelude.{ℕ, Bool, false, ◌&&◌, ◌==◌, nat_le, if◌then◌else◌, List, Option, None, Some}
use Rattle.std.specs.Ordering.{nat_cmp, ordering_then}
use Rattle.std.specs.List.{list_any}
use Rattle.std.specs.BTreeSet.{BTreeSet, contains}
use Rattle.rr_types.specs.declared.command.Command.{Command}
use Rattle.rr_types.specs.declared.message.Body.{Body}
use Rattle.rr_types.specs.declared.message.Body.TheVariants.{Estimate, Proposal, Ack, Decision, Request, Nack, Beat, Suspects, Ask}
use Rattle.rr_types.specs.declared.message.Message.{Message}
use Rattle.rr_types.specs.Rounds.{majority_of}
use Rattle.rr_model.specs.Lawful.{count_below}

-- whether a body acknowledges round r of instance i
abbrev pub is_ack_of : ℕ → ℕ → Body → Bool
is_ack_of i r (Estimate j e) = false
is_ack_of i r (Proposal j s v) = false
is_ack_of i r (Ack j s) = j == i && s == r
is_ack_of i r (Decision j v) = false
is_ack_of i r (Request c) = false
is_ack_of i r (Nack j s) = false
is_ack_of i r Beat = false
is_ack_of i r (Suspects set) = false
is_ack_of i r (Ask j) = false

-- whether node q has acknowledged round r of instance i
abbrev pub has_acked : List Message → ℕ → ℕ → ℕ → Bool
has_acked wire i r q = list_any (λ m. m.from == q && is_ack_of i r m.body) wire

-- whether a set of acknowledgements, each an instance, a round and a node, has node q's of round r of instance i
abbrev pub has_ack : BTreeSet (ℕ × ℕ × ℕ) → ℕ → ℕ → ℕ → Bool
has_ack acks i r q = contains (λ x y. ordering_then (ordering_then (nat_cmp x.0 y.0) (nat_cmp x.1 y.1)) (nat_cmp x.2 y.2)) acks (i, r, q)

-- whether the set has a majority of n nodes
unfoldable pub is_majority : ℕ → (ℕ → Bool) → Bool
is_majority n set = nat_le (majority_of n) (count_below set n)

-- the instance and the command of a proposal whose round a majority of n nodes has acknowledged, where `acked i r` are the nodes
-- that acknowledged round r of instance i
abbrev pub chosen_by : ℕ → (ℕ → ℕ → ℕ → Bool) → Body → Option (ℕ × Command)
chosen_by n acked (Estimate i e) = None
chosen_by n acked (Proposal i r v) = if is_majority n (acked i r) then Some (i, v) else None
chosen_by n acked (Ack i r) = None
chosen_by n acked (Decision i v) = None
chosen_by n acked (Request c) = None
chosen_by n acked (Nack i r) = None
chosen_by n acked Beat = None
chosen_by n acked (Suspects set) = None
chosen_by n acked (Ask i) = None
