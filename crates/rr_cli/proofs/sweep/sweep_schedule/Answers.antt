use Rattle.std.proofs.Common.{inr}
use Rattle.rr_cli.specs.Ends.{broken_off}
use Rattle.rr_cli.proofs.SweepLemmas.{swept_ends, refused_ends}
use Rattle.rr_cli.proofs.sweep.sweep_schedule.Goals as goal

pub returns-in-Ok-clause-ends : goal.returns-in-Ok-clause-ends
returns-in-Ok-clause-ends g c bytes lawful text =
    swept_ends c.args.schedule.now bytes c.args.seed c.end_by_text.result (g.O.Sink.printing c.args.out.now) (g.O.Sink.printing c.print_sweep.new.out) (g.O.Sink.printing c.end_by_text.new.out)
    lawful text c.in-Ok.ensures.ok c.end_by_text.ensures.ends

pub returns-in-Err-Refused-clause-ends : goal.returns-in-Err-Refused-clause-ends
returns-in-Err-Refused-clause-ends g c bytes lawful text =
    rw c.tell_progress.ensures (refused_ends c.args.schedule.now bytes c.args.seed c.end_by_refusal.result c.in-Err-Refused.refusal (g.O.Sink.printing c.args.out.now) (g.O.Sink.printing c.print_sweep.new.out)
    lawful text (rw c.in-Err-Refused.field-0-is at c.in-Err-Refused.ensures.err) c.end_by_refusal.ensures)

pub returns-in-Err-Unprinted-clause-ends : goal.returns-in-Err-Unprinted-clause-ends
returns-in-Err-Unprinted-clause-ends g c bytes lawful text =
    let s = rw c.in-Err-Unprinted.field-0-is at c.in-Err-Unprinted.ensures.err in
    rw c.tell_progress-in-Err-Unprinted.ensures (broken_off c.args.schedule.now s.before s.after s.lines lawful text s.split s.swept s.taken (inr (c.end_by_unprinted.ensures.status, s.why)))
