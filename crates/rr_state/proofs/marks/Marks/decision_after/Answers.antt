use Rattle.std.proofs.Common.{sym, ◌∙◌, ap}
use Rattle.rr_state.specs.Marked.{marked_in}
use Rattle.rr_state.proofs.PrefixLemmas.{ascending}
use Rattle.rr_state.proofs.MarkLemmas.{decided_after, decided_in, prefix_open}
use Rattle.rr_state.proofs.marks.Marks.decision_after.Goals.{then-number-self+in_default, else-number-self}
use Rattle.rr_state.proofs.marks.Marks.decision_after.Goals as goal

pub returns-clause-value : goal.returns-clause-value
returns-clause-value c =
    let es = marked_in c.args.rows.now c.args.self.now in
    elim c.if-number-self.branch [
      | then-number-self+in_default w ↦ c.decided_by.ensures.value ∙ sym (decided_after es c.args.facts.now c.args.number (sym w.in_default.ensures.value))
      | else-number-self w ↦
          c.decided_by.ensures.value
          ∙ sym (decided_after es c.args.facts.now c.args.number (ap (decided_in es) w.if-number-self.false ∙ prefix_open es c.args.self.now.prefix (ascending c.args.rows.now c.args.self.now c.requires.marks) c.requires.counted.count))
    ]
