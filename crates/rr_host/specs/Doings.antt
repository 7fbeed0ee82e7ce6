-- What a node of a host does.
use Rattle.std.specs.Prelude.{◌≡◌, ℕ, Option, None}
use Rattle.rr_model.specs.NodeStep.{started}
use Rattle.rr_host.specs.Disks.{Asked}
use Rattle.rr_host.specs.declared.flush.Flush.TheVariants.{Resting}
use Rattle.rr_host.specs.declared.doing.Doing.{Doing}
use Rattle.rr_host.specs.declared.doing.Doing.TheVariants as does

-- the write that the host is asked for
abbrev pub written_in : Doing → Option Asked
written_in does.Down = None
written_in (does.Opening o) = o.disk.written
written_in (does.Up u) = u.journal.disk.written

-- node p of n opens, or has just come up, with the promise and the next number of its journal
abbrev pub IsOf : ℕ → ℕ → Doing → Type 0
IsOf n p does.Down = ⊥
IsOf n p (does.Opening o) = (o.nodes ≡ n) × (o.node ≡ p)
IsOf n p (does.Up u) = (u.core ≡ started n p u.core.marked u.journal.next) × (u.flush ≡ Resting)
