-- The registry: what a command does to the bound names, its reply, and that of each request number the first command counts.
use Rattle.std.specs.Prelude.{ℕ, Bool, true, false, ◌&&◌, ◌==◌, nat_lt, if◌then◌else◌, List, [], ◌∷◌, length, Option, None, Some}
use Rattle.std.specs.Ordering.{nat_cmp}
use Rattle.std.specs.Cmp.Lexicographic.{slice_cmp}
use Rattle.std.specs.Str.{bytes_eq}
use Rattle.std.specs.List.{fold}
use Rattle.std.specs.BTreeMap.{insert_entry}
use Rattle.std.specs.Map.{lookup, remove_entry}
use Rattle.rr_types.specs.declared.binding.Binding.{Binding}
use Rattle.rr_types.specs.declared.command.RequestNo.{RequestNo}
use Rattle.rr_types.specs.declared.command.Op.{Op}
use Rattle.rr_types.specs.declared.command.Op.TheVariants.{Claim, Update, Release, Transfer}
use Rattle.rr_types.specs.declared.command.Command.{Command}
use Rattle.rr_types.specs.declared.command.Reply.{Reply}
use Rattle.rr_types.specs.declared.command.Reply.TheVariants.{Claimed, Updated, Released, Transferred, Taken, Unknown, NotOwner, Full}
use Rattle.rr_types.specs.Limits.{max_bound}

-- who has a name, and its value
pub record Holding : Type 0 where
  pub owner : ℕ
  pub value : List ℕ

-- the bound names in byte order, each with its holding
abbrev pub Bindings : Type 0
Bindings = List (List ℕ × Holding)

-- a bound name with its holding, in one
abbrev pub binding_of : List ℕ × Holding → Binding
binding_of bound = record { name = bound.0; owner = bound.1.owner; value = bound.1.value }

-- who has this name
abbrev pub holding_of : Bindings → List ℕ → Option Holding
holding_of m name = lookup (bytes_eq name) m

-- the name bound to this owner with this value, whatever it was
abbrev pub bind : Bindings → List ℕ → ℕ → List ℕ → Bindings
bind m name owner value = insert_entry (slice_cmp nat_cmp) m name (record { owner = owner; value = value })

-- what a claim of a name does, where it is free and where somebody has it
abbrev pub claim : Bindings → ℕ → List ℕ → List ℕ → Option Holding → Bindings × Reply
claim m client name value None = if nat_lt (length m) max_bound then (bind m name client value, Claimed) else (m, Full)
claim m client name value (Some h) = (m, Taken h.owner)

-- what the owner of a name may do to it; it answers Unknown on a free name, NotOwner on another client's
abbrev pub by_owner : Bindings → ℕ → Option Holding → (Holding → Bindings × Reply) → Bindings × Reply
by_owner m client None change = (m, Unknown)
by_owner m client (Some h) change = if h.owner == client then change h else (m, NotOwner)

-- the registry step by operations
abbrev pub apply_op : Bindings → ℕ → Op → Bindings × Reply
apply_op m client (Claim name value) = claim m client name value (holding_of m name)
apply_op m client (Update name value) = by_owner m client (holding_of m name) (λ h. (bind m name client value, Updated))
apply_op m client (Release name) = by_owner m client (holding_of m name) (λ h. (remove_entry (bytes_eq name) m, Released))
apply_op m client (Transfer name owner) = by_owner m client (holding_of m name) (λ h. (bind m name owner h.value, Transferred))

-- the registry step: the bindings after a command, and the reply to it
abbrev pub apply : Bindings → Command → Bindings × Reply
apply m c = apply_op m c.request.client c.op

-- whether two request numbers are one
abbrev pub is_same_request : RequestNo → RequestNo → Bool
is_same_request p q = p.client == q.client && p.seq == q.seq

-- whether the list has a command with this request number
abbrev pub has_request : List Command → RequestNo → Bool
has_request [] q = false
has_request (c ∷ cs) q = if is_same_request c.request q then true else has_request cs q

-- the list without each command whose request number stands earlier in it, or in seen
abbrev pub firsts_beside : List Command → List Command → List Command
firsts_beside seen [] = []
firsts_beside seen (c ∷ cs) = if has_request seen c.request then firsts_beside seen cs else c ∷ firsts_beside (c ∷ seen) cs

-- the commands that count: of each request number the first
abbrev pub firsts : List Command → List Command
firsts cs = firsts_beside [] cs

-- the reply to the first command with this request number
abbrev pub reply_after : Bindings → List Command → RequestNo → Option Reply
reply_after m [] q = None
reply_after m (c ∷ cs) q = if is_same_request c.request q then Some (apply m c).1 else reply_after (apply m c).0 cs q

-- the registry of a list of commands: each request number is applied once
abbrev pub registry_of : List Command → Bindings
registry_of cs = fold (λ m c. (apply m c).0) [] (firsts cs)

-- the list's reply to a request
abbrev pub reply_of : List Command → RequestNo → Option Reply
reply_of cs q = reply_after [] (firsts cs) q
