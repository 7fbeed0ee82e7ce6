-- The hand-overs of a node: which ends belong together.
use Rattle.std.specs.Prelude.{◌≡◌}
use Rattle.rr_threads.specs.declared.flushing.Flusher.{Flusher}
use Rattle.rr_threads.specs.declared.node_loop.Runner.{Runner}

-- what the loop gives its flusher takes, and what the flusher gives back the loop takes
abbrev pub AreJoined : {D : Type 0} → Flusher D → Runner → Type 0
AreJoined flusher runner = (runner.ends.groups.queue ≡ flusher.groups.queue) × (flusher.backs.queue ≡ runner.ends.backs.queue)
