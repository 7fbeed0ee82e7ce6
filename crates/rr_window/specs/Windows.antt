-- What a window has published, what was appended since, and what its readers are served.
use Rattle.std.specs.Prelude.{◌≡◌, List, [], ◌∷◌, ◌++◌, map, Result, Ok, Err}
use Rattle.logbook.specs.Pages.{Book}
use Rattle.rr_types.specs.declared.command.Command.{Command}
use Rattle.rr_types.specs.declared.command.RequestNo.{RequestNo}
use Rattle.rr_types.specs.declared.command.Reply.{Reply}
use Rattle.rr_registry.specs.Kept.{Kept, applied, kept_of}
use Rattle.rr_types.specs.Registry.{holding_of}
use Rattle.rr_window.specs.Lists.{Beginning, beginning}
use Rattle.rr_types.specs.Commands.{op_name}
use Rattle.rr_window.specs.Changes.{change_between}
use Rattle.rr_window.specs.Watches.{Trace, with_trace, kept_traces}

-- what is published, and what was appended since
pub record Publishing : Type 0 where
  pub published : List Command
  pub appended : List Command

-- a request, its reply, and the published list that gives it
pub record Receipt : Type 0 where
  pub request : RequestNo
  pub reply : Reply
  pub list : List Command

-- a command that joined the list, and the list up to and with it
pub record Addition : Type 0 where
  pub command : Command
  pub beginning : Beginning

-- their commands
abbrev pub commands_of : List Addition → List Command
commands_of additions = map (λ a. a.command) additions

-- these additions go on behind this list, one command after another
abbrev pub GoOn : Book → List Command → List Addition → Type 0
GoOn b list [] = Unit {0}
GoOn b list (a ∷ rest) = (a.beginning ≡ beginning b (list ++ a.command ∷ [])) × GoOn b (list ++ a.command ∷ []) rest

-- what readers are served: what a registry keeps, a beginning of the list, and the traces of its last commands
pub record Served : Type 0 where
  pub kept : Kept
  pub beginning : Beginning
  pub recent : List Trace

-- the trace of an addition to what a registry keeps
abbrev pub trace_in : Kept → Addition → Trace
trace_in k a =
    let name = op_name a.command.op in
    record { beginning = a.beginning; change = change_between name (holding_of k.bindings name) (holding_of (applied k a.command).bindings name) }

-- what they are served after an addition
abbrev pub with_addition : Served → Addition → Served
with_addition s a = record { kept = applied s.kept a.command; beginning = a.beginning; recent = with_trace s.recent (trace_in s.kept a) }

-- what they are served of a list
abbrev pub served_of : Book → List Command → Served
served_of b list = record { kept = kept_of list; beginning = beginning b list; recent = kept_traces b list }

-- the registry that is served is that of the beginning beside it, which is of the window's list
abbrev pub IsServed : Book → Served → Type 0
IsServed b s = s ≡ served_of b s.beginning.list

-- all additions are shown and none is left, or nothing has changed
abbrev pub IsShown : {E : Type 0} → Book → Served → List Addition → Served → List Addition → Result (Unit {0}) E → Type 0
IsShown b s pending t left (Ok _) = (t ≡ served_of b (s.beginning.list ++ commands_of pending)) × (left ≡ [])
IsShown b s pending t left (Err _) = (t ≡ s) × (left ≡ pending)
