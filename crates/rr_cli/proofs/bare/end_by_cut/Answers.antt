use Rattle.std.proofs.Common.{◌∙◌, inl, inr, refl, sym}
use Rattle.rr_cli.proofs.bare.end_by_cut.Goals as goal

pub returns-then-shows_nothing-clause-ends : goal.returns-then-shows_nothing-clause-ends
returns-then-shows_nothing-clause-ends g c = inr (sym c.shows_nothing.ensures ∙ c.if-shows_nothing.true, refl, refl)

pub returns-clause-ends : goal.returns-clause-ends
returns-clause-ends g c = inl (sym c.shows_nothing.ensures ∙ c.if-shows_nothing.false, c.end_by_text.ensures.ends)
