use Rattle.std.proofs.Common.{sym, ◌∙◌}
use Rattle.rr_state.proofs.OpenLemmas.{open_stays}
use Rattle.rr_state.proofs.rows.Rows.slide_behind.Goals as goal

pub returns-then-is_decision_new : goal.returns-then-is_decision_new
returns-then-is_decision_new c = λ before changes h keeps put decides shown. c.slide.ensures before h keeps shown

pub returns-else-is_decision_new : goal.returns-else-is_decision_new
returns-else-is_decision_new c = λ before changes h keeps put decides shown.
    c.copied.ensures ∙ shown ∙ sym (open_stays before c.args.self.now changes h c.requires keeps put (sym decides ∙ c.if-is_decision_new.false))
