-- A turn of a publisher.
use Rattle.std.specs.Prelude.{◌≡◌, ◌++◌, ◌∷◌, [], Bool, true, false, ◌||◌, if◌then◌else◌, List, length, Option, None, Some, nat_lt, IfSome}
use mathlib.Core.List.{IsPrefix}
use Rattle.rr_types.specs.declared.command.Command.{Command}
use Rattle.rr_types.specs.declared.command.RequestNo.{RequestNo}
use Rattle.rr_types.specs.declared.command.Reply.{Reply}
use Rattle.rr_types.specs.Registry.{reply_of}
use Rattle.rr_model.specs.NodeState.{NodeState, decided_prefix}
use Rattle.rr_model.specs.NodeStep.{next_acknowledged}
use Rattle.rr_window.specs.Windows.{Publishing}
use Rattle.rr_turn.specs.Listed.{listed}
use Rattle.rr_turn.specs.Asked.{Call, acknowledges, tells_clients}

-- the requests that wait to be told, with one more if one is acknowledged
abbrev pub with_acknowledged : Option (RequestNo × Reply) → List RequestNo → List RequestNo
with_acknowledged None waiting = waiting
with_acknowledged (Some a) waiting = waiting ++ a.0 ∷ []

-- what is published: all that is listed, if that has grown
abbrev pub published_then : Publishing → Publishing → Publishing
published_then p q = if nat_lt (length (listed p)) (length (listed q)) then record { published = listed q; appended = [] } else q

-- a publisher takes on what a node has marked, to the end of its decided prefix, and the node's oldest request that is decided
pub record Follows {C : Type 0} (gives : C → Call → C → Type 0) (state : NodeState) (told : Option (RequestNo × Reply))
    (p q : Publishing) (from to : C) : Type 0 where
  pub all : IsPrefix (listed p) (decided_prefix state) → listed q ≡ decided_prefix state
  pub kept : IsPrefix (listed p) (listed q)
  pub published : q.published ≡ p.published
  pub call : gives from (acknowledges state told) to
  pub replied : IfSome told (λ a. (next_acknowledged state ≡ Some a.0) × (reply_of (decided_prefix state) a.0 ≡ Some a.1))

module _ {C : Type 0} (gives : C → Call → C → Type 0) where
  -- the oldest request that waits is told, with the published reply to it if there is one; then it waits no more
  abbrev pub TellsOne : Option Reply → List Command → RequestNo → List RequestNo → List RequestNo → Bool → C → C → Type 0
  TellsOne None published request later waiting has from to = (waiting ≡ request ∷ later) × (has ≡ false) × (to ≡ from)
  TellsOne (Some reply) published request later waiting has from to = (waiting ≡ later) × (has ≡ true) × gives from (tells_clients published request reply) to

  abbrev pub Tells : List Command → List RequestNo → List RequestNo → Bool → C → C → Type 0
  Tells published [] waiting has from to = (waiting ≡ []) × (has ≡ false) × (to ≡ from)
  Tells published (request ∷ later) waiting has from to = TellsOne (reply_of published request) published request later waiting has from to

-- a turn: what is marked is taken on, with the oldest request that is decided; it is published; and then the oldest that waits is told.
-- Whether there was something: whether more was published, or one was told
pub record Publishes {C : Type 0} (gives : C → Call → C → Type 0) (has : Bool)
    (p : Publishing) (waiting : List RequestNo) (from : C) (r : Publishing) (after : List RequestNo) (to : C) : Type 0 where
  pub state : NodeState
  pub told : Option (RequestNo × Reply)
  pub has_told : Bool
  pub q : Publishing
  pub mid : C
  pub follows : Follows gives state told p q from mid
  pub publishes : r ≡ published_then p q
  pub tells : Tells gives r.published (with_acknowledged told waiting) after has_told mid to
  pub answer : has ≡ (nat_lt (length (listed p)) (length (listed q)) || has_told)
