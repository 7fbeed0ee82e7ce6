-- What a registry keeps after a list of commands: the bound names, and its reply to each request.
use Rattle.std.specs.Prelude.{if◌then◌else◌, List, [], ◌∷◌, Option, is_some}
use Rattle.std.specs.declared.cmp.Ordering.{Ordering}
use Rattle.std.specs.Ordering.{nat_cmp, ordering_then}
use Rattle.std.specs.BTreeMap.{insert_entry}
use Rattle.std.specs.Map.{lookup}
use Rattle.rr_types.specs.declared.command.RequestNo.{RequestNo}
use Rattle.rr_types.specs.declared.command.Command.{Command}
use Rattle.rr_types.specs.declared.command.Reply.{Reply}
use Rattle.rr_types.specs.Registry.{is_same_request, Bindings, apply}

-- requests are ordered by client, and then by number
abbrev pub request_cmp : RequestNo → RequestNo → Ordering
request_cmp p q = ordering_then (nat_cmp p.client q.client) (nat_cmp p.seq q.seq)

-- what a registry keeps: the bound names, and each reply that it gave, by its request
pub record Kept : Type 0 where
  pub bindings : Bindings
  pub replies : List (RequestNo × Reply)

-- the kept reply to a request
abbrev pub kept_reply : Kept → RequestNo → Option Reply
kept_reply k q = lookup (is_same_request q) k.replies

-- these bindings, and this reply kept for the request
abbrev pub keep : Kept → RequestNo → Bindings × Reply → Kept
keep k q step = record { bindings = step.0; replies = insert_entry request_cmp k.replies q step.1 }

-- what is kept after a command: a request with a kept reply changes nothing, any other is applied and its reply kept
abbrev pub applied : Kept → Command → Kept
applied k c = if is_some (kept_reply k c.request) then k else keep k c.request (apply k.bindings c)

-- what is kept after these commands
abbrev pub applied_all : Kept → List Command → Kept
applied_all k [] = k
applied_all k (c ∷ cs) = applied_all (applied k c) cs

-- what is kept of a list of commands, from nothing
abbrev pub kept_of : List Command → Kept
kept_of cs = applied_all (record { bindings = []; replies = [] }) cs
