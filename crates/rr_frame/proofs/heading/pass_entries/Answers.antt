use Rattle.std.proofs.Common.{◌≡◌, ◌∙◌, sym}
use Rattle.std.proofs.lemmas.Result.{err_from_is_err_and}
use Rattle.rr_frame.proofs.HeadingLaws.{pass_on, pass_stop, pass_end}
use Rattle.rr_frame.proofs.heading.pass_entries.Goals as goal

pub returns-in_err-entry : goal.returns-in_err-entry
returns-in_err-entry c =
    let p = err_from_is_err_and c.from_residual.result c.from_residual.ensures.1 in
    rw (p.1, p.2) (sym c.loop.invariant ∙ pass_stop c.args.version c.args.nodes c.args.node c.loop.low c.args.count c.loop.counter c.loop.reader c.in_err-entry.field-0.0.left c.loop-test.true c.in_err-entry.ensures)

pub loop-preserved : goal.loop-preserved
loop-preserved c =
    rw c.number-low.ensures.value
    (sym (pass_on c.args.version c.args.nodes c.args.node c.loop.low c.args.count c.loop.counter c.loop.reader c.in_ok-entry.entry c.read_entry.new.reader c.loop-test.true c.in_ok-entry.ensures) ∙ c.loop.invariant)

pub returns : goal.returns
returns c = sym c.loop.invariant ∙ pass_end c.args.version c.args.nodes c.args.node c.loop.low c.args.count c.loop.counter c.loop.reader c.loop-test.false
