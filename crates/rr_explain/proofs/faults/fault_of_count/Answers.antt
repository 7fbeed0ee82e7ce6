use Rattle.std.proofs.Common.{codes, refl, sym, ◌∙◌}
use Rattle.rr_explain.proofs.FaultLemmas.{on_rest, word_said, number_word}
use Rattle.rr_explain.proofs.faults.fault_of_count.Goals as goal

pub returns-then-is_number : goal.returns-then-is_number
returns-then-is_number c =
    let count = c.args.count.now in
    let word = number_word count (sym c.is_number.ensures ∙ c.if-is_number.true) in
    record { same = refl; on = on_rest c.args.line.now count _ _ c.requires c.column_of-column.ensures (word_said count count (codes "number of nodes") (codes "1 to 7") word refl refl) }
