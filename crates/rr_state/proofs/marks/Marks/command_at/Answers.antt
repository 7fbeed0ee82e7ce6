use Rattle.std.proofs.Common.{sym, ap, option_map, ◌∙◌, arith}
use Rattle.rr_state.specs.Marked.{marked_in}
use Rattle.rr_state.proofs.PrefixLemmas.{ascending}
use Rattle.rr_state.proofs.MarkLemmas.{command_in}
use Rattle.rr_state.proofs.marks.Marks.command_at.Goals as goal

pub returns-in-Some : goal.returns-in-Some
returns-in-Some c =
    sym (ap (option_map (λ v. v.now)) c.in-Some.is) ∙ c.decision.ensures.value
    ∙ sym (command_in (marked_in c.args.rows.now c.args.self.now) c.args.place (ascending c.args.rows.now c.args.self.now c.requires.marks) (let e = c.requires.counted.count in omega (arith, e, c.if-place-self.false)))

pub returns-in-None : goal.returns-in-None
returns-in-None c =
    sym (ap (option_map (λ v. v.now)) c.in-None.is) ∙ c.decision.ensures.value
    ∙ sym (command_in (marked_in c.args.rows.now c.args.self.now) c.args.place (ascending c.args.rows.now c.args.self.now c.requires.marks) (let e = c.requires.counted.count in omega (arith, e, c.if-place-self.false)))
