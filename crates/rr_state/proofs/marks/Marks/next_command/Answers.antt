use Rattle.std.proofs.Common.{ap, sym, ◌∙◌, Some, arith}
use Rattle.rr_state.proofs.PrefixLemmas.{next_is}
use Rattle.rr_state.proofs.marks.Marks.next_command.Goals as goal

pub returns-in-Decided-Some : goal.returns-in-Decided-Some
returns-in-Decided-Some c =
    let found = c.in-Some-default-Some in
    let same = c.if-number-self.false in
    let below = c.if-number-self-2.false in
    next_is c.args.rows.now c.args.self.now found.number.now found.entry c.in-Decided-Some.command c.in-Decided-Some.of_row.now c.requires
    (found.ensures.first ∙ ap (λ o. Some (found.number.now, o)) found.field-0-1-is) (omega (arith, same)) (omega (arith, below))
    c.in-Decided-Some.is-0 c.in-Decided-Some.ensures (sym c.is_same.ensures ∙ c.if-is_same.true)
