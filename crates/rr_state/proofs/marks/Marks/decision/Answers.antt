use Rattle.std.proofs.Common.{Some, ap, sym, ◌∙◌}
use Rattle.rr_types.specs.Facts.{decision_of}
use Rattle.rr_state.proofs.PrefixLemmas.{stands_behind, decided_low}
use Rattle.rr_state.proofs.marks.Marks.decision.Goals as goal

pub returns-in-Some-clause-range : goal.returns-in-Some-clause-range
returns-in-Some-clause-range c = decided_low c.args.rows.now c.args.self.now c.args.number c.in-Some.command.now c.requires.marks c.in-Some.ensures

pub returns-in-Decided-clause-value : goal.returns-in-Decided-clause-value
returns-in-Decided-clause-value c = ap decision_of (sym (stands_behind c.args.rows.now c.args.self.now c.args.number c.in-None.ensures ∙ c.in-Some-entry.ensures ∙ ap Some c.in-Decided.is))

pub returns-in-Open-clause-value : goal.returns-in-Open-clause-value
returns-in-Open-clause-value c = ap decision_of (sym (stands_behind c.args.rows.now c.args.self.now c.args.number c.in-None.ensures ∙ c.in-Some-entry.ensures ∙ ap Some c.in-Open.is))

pub returns-in-None-entry-clause-value : goal.returns-in-None-entry-clause-value
returns-in-None-entry-clause-value c = ap decision_of (sym (stands_behind c.args.rows.now c.args.self.now c.args.number c.in-None.ensures ∙ c.in-None-entry.ensures))
