-- Nodes at a run's begin.
use Rattle.std.specs.Prelude.{◌≡◌, ℕ, Bool, true, false, List, []}
use Rattle.rr_types.specs.declared.command.Command.{Command}
use Rattle.rr_model.specs.NodeState.{decided_prefix}
use Rattle.rr_threads.specs.declared.wires.Mail.{Mail}
use Rattle.rr_threads.specs.declared.beginning.Begun.{Begun}
use Rattle.rr_threads.specs.declared.beginning.Begun.TheVariants.{Up, LeftOut}

-- which node it is
abbrev pub node_of : {D : Type 0} → Begun D → ℕ
node_of (Up part) = part.node
node_of (LeftOut left) = left.node

-- its mail
abbrev pub mail_of : {D : Type 0} → Begun D → Mail
mail_of (Up part) = part.mail
mail_of (LeftOut left) = left.mail

-- whether it is left out
abbrev pub is_left_out : {D : Type 0} → Begun D → Bool
is_left_out (Up part) = false
is_left_out (LeftOut left) = true

-- its list of decided commands, if it is up: of one that is left out nothing is known
abbrev pub decided_of : {D : Type 0} → Begun D → List Command
decided_of (Up part) = decided_prefix part.core
decided_of (LeftOut left) = []

-- one of so many nodes is up with its mail, by the start of the run's begin, and its journal is its own
abbrev pub IsOpened : {D : Type 0} → ℕ → ℕ → Mail → Begun D → Type 0
IsOpened nodes node mail (Up part) =
    (part.start.moves ≡ 0) × (part.node ≡ node) × (part.mail ≡ mail) × (part.journal.node ≡ node) × (part.journal.nodes ≡ nodes)
IsOpened nodes node mail (LeftOut left) = ⊥
