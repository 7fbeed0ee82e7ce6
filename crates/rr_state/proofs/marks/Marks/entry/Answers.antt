use Rattle.std.proofs.Common.{ap, ◌∙◌}
use Rattle.rr_registry.specs.Places.{filled}
use Rattle.rr_state.proofs.MarkLemmas.{stands, standing_at}
use Rattle.rr_state.proofs.marks.Marks.entry.Goals as goal

pub returns-in-Some : goal.returns-in-Some
returns-in-Some c = standing_at (filled c.args.self.now.entries.entries) c.args.number c.requires.entered ∙ ap stands c.in-Some.ensures

pub returns-in-None : goal.returns-in-None
returns-in-None c = standing_at (filled c.args.self.now.entries.entries) c.args.number c.requires.entered ∙ ap stands c.in-None.ensures
