-- The tables of a registry: what names and replies they hold, what an operation does there, and which places may be free.
use Rattle.std.specs.Prelude.{◌≡◌, ⊤, ℕ, ◌<◌, Bool, true, false, ◌&&◌, ◌||◌, List, [], length, Option, None, is_some, IsTrue}
use Rattle.std.specs.List.{list_any}
use Rattle.std.specs.Ordering.{nat_cmp}
use Rattle.std.specs.Cmp.Lexicographic.{slice_cmp}
use Rattle.std.specs.Map.{remove_entry}
use Rattle.std.specs.Str.{bytes_eq}
use Rattle.rr_types.specs.declared.command.RequestNo.{RequestNo}
use Rattle.rr_types.specs.declared.command.Op.{Op}
use Rattle.rr_types.specs.declared.command.Op.TheVariants.{Claim, Update, Release, Transfer}
use Rattle.rr_types.specs.declared.command.Command.{Command}
use Rattle.rr_types.specs.Registry.{Holding, Bindings, holding_of, bind, is_same_request}
use Rattle.rr_types.specs.Limits.{max_bound}
use Rattle.rr_registry.specs.declared.names.Names.{Names}
use Rattle.rr_registry.specs.declared.names.Effect.{Effect}
use Rattle.rr_registry.specs.declared.names.Effect.TheVariants.{Nothing, Bind, Replace, Free}
use Rattle.rr_registry.specs.declared.tables.Tables.{Tables}
use Rattle.rr_registry.specs.Kept.{Kept, request_cmp, kept_reply}
use Rattle.rr_registry.specs.Places.{filled, has_place}

-- the bound names
abbrev pub bindings_in : Names → Bindings
bindings_in t = filled t.places.entries

-- the name free
abbrev pub unbind : Bindings → List ℕ → Bindings
unbind m name = remove_entry (bytes_eq name) m

-- the bound names and the kept replies
abbrev pub kept_in : Tables → Kept
kept_in t = record { bindings = bindings_in t.names; replies = filled t.replies.entries }

-- whether a name has a place
abbrev pub has_name_place : Names → List ℕ → Bool
has_name_place t name = has_place (slice_cmp nat_cmp) t.places.entries name

-- whether a request has a place for its reply
abbrev pub has_reply_place : Tables → RequestNo → Bool
has_reply_place t q = has_place request_cmp t.replies.entries q

-- whether the name that an operation may bind has a place
abbrev pub has_op_place : Names → Op → Bool
has_op_place t (Claim name value) = has_name_place t name
has_op_place t (Update name value) = true
has_op_place t (Release name) = true
has_op_place t (Transfer name owner) = true

-- whether a command has its places: it can then be applied without memory
abbrev pub has_places : Tables → Command → Bool
has_places t c = has_reply_place t c.request && has_op_place t.names c.op

-- the count is that of the bound names
abbrev pub IsCounted : Names → Type 0
IsCounted t = t.bound ≡ length (bindings_in t)

-- whether an operation is a claim
abbrev pub is_claim : Op → Bool
is_claim (Claim name value) = true
is_claim (Update name value) = false
is_claim (Release name) = false
is_claim (Transfer name owner) = false

-- the bound names once an operation had this effect on its name
abbrev pub effected : Bindings → List ℕ → Effect → Bindings
effected m name Nothing = m
effected m name (Bind h) = bind m name h.owner h.value
effected m name (Replace h) = bind m name h.owner h.value
effected m name Free = unbind m name

-- whether an operation can have this effect, by who has its name and how many names are bound: a claim binds a free name
-- while there is room, the others are about a bound name
abbrev pub CanHave : ℕ → Option Holding → Op → Effect → Type 0
CanHave bound held op Nothing = ⊤
CanHave bound held op (Bind h) = IsTrue (is_claim op) × (held ≡ None) × (bound < max_bound)
CanHave bound held op (Replace h) = IsTrue (is_some held)
CanHave bound held op Free = IsTrue (is_some held)

-- whether an operation can leave this name's place free
abbrev pub may_free : Op → List ℕ → Bool
may_free (Claim name value) n = bytes_eq name n
may_free (Update name value) n = false
may_free (Release name) n = bytes_eq name n
may_free (Transfer name owner) n = false

-- each name with a place is bound
abbrev pub HasNoFreeName : Names → Type 0
HasNoFreeName t = (n : List ℕ) → IsTrue (has_name_place t n) → IsTrue (is_some (holding_of (bindings_in t) n))

-- the free places of names are of these commands: each other name with a place is bound
abbrev pub HasFreeNamesOnlyFor : Tables → List Command → Type 0
HasFreeNamesOnlyFor t cs =
    (n : List ℕ) → IsTrue (has_name_place t.names n)
    → IsTrue (is_some (holding_of (bindings_in t.names) n) || list_any (λ c. may_free c.op n) cs)

-- the free places of requests are of these commands: each other request with one has a reply
abbrev pub HasFreeRepliesOnlyFor : Tables → List Command → Type 0
HasFreeRepliesOnlyFor t cs =
    (q : RequestNo) → IsTrue (has_reply_place t q)
    → IsTrue (is_some (kept_reply (kept_in t) q) || list_any (λ c. is_same_request c.request q) cs)

-- the free places are of these commands
pub record HasFreeOnlyFor (t : Tables) (cs : List Command) : Type 0 where
  pub names : HasFreeNamesOnlyFor t cs
  pub replies : HasFreeRepliesOnlyFor t cs

-- no place is free: a registry keeps the places of its bound names and kept replies alone
abbrev pub HasNoFree : Tables → Type 0
HasNoFree t = HasFreeOnlyFor t []

-- what holds of the tables between calls: the count is right, and no place is free
abbrev pub IsSound : Tables → Type 0
IsSound t = IsCounted t.names × HasNoFree t
