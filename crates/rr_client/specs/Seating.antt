-- Guests at their nodes.
use Rattle.std.specs.Prelude.{◌≡◌, ◌<◌, ◌≤◌, ℕ, Bool, true, ◌&&◌, nat_lt, if◌then◌else◌, List, [], ◌∷◌, Option, None, Some, IfSome}
use Rattle.rr_types.specs.Limits.{max_nodes}
use Rattle.rr_types.specs.Nodes.{has_member}
use Rattle.rr_types.specs.declared.promise.Entry.{Entry}
use Rattle.rr_client.specs.declared.error.ClusterError.{ClusterError}
use Rattle.rr_client.specs.declared.error.ClusterError.TheVariants.{OutOfMemory, Over, Node}
use Rattle.rr_client.specs.declared.guest.Place.{Place}
use Rattle.rr_client.specs.declared.seated.Coming.{Coming}
use Rattle.rr_client.specs.FreshNumbers.{least_free}

-- a guest that comes asks under numbers above all that the facts of disks name as those of its own client
abbrev pub HasOwnNumbers : {G : Type 0} → List (List Entry) → Option (Coming G) → Type 0
HasOwnNumbers promises coming = IfSome coming (λ c. least_free c.client promises ≤ c.numbers.next)

-- whether a node is one of those that are left out
abbrev pub is_left_out : ℕ → ℕ → Bool
is_left_out without node = nat_lt node max_nodes && has_member without node

-- the first node that is left out and that a guest asks
abbrev pub left_out_in : {G : Type 0} → ℕ → List (Place G) → Option ℕ
left_out_in without [] = None
left_out_in without (p ∷ ps) = if is_left_out without p.node then Some p.node else left_out_in without ps

-- why a guest of this node wasn't done: the node had failed, or was down; or memory was refused
abbrev pub IsCalledOff : ℕ → ClusterError → Type 0
IsCalledOff node (Node own refusal reason) = own ≡ node
IsCalledOff node Over = Unit {0}
IsCalledOff node OutOfMemory = Unit {0}
IsCalledOff node _ = ⊥

-- of these nodes those of the first set are in the second, and no others are
abbrev pub AreStopped : ℕ → ℕ → ℕ → Type 0
AreStopped nodes without stopped =
    ((p : ℕ) → p < nodes → has_member without p ≡ true → has_member stopped p ≡ true)
    × ((p : ℕ) → has_member stopped p ≡ true → has_member without p ≡ true)
