use Rattle.std.proofs.Common.{◌∙◌, refl, sym}
use Rattle.rr_run.specs.Shells.{refused}
use Rattle.rr_run.proofs.ShellLemmas.{ends_so, never_well}
use Rattle.rr_run.proofs.shell_run.shell_in.Goals as goal

pub returns-clause-ends : goal.returns-clause-ends
returns-clause-ends g c =
    ends_so c.args.manner.json c.args.manner.strict c.args.nodes c.args.manner.first (g.I.Source.reading c.args.input.now) (g.I.Source.reading c.talk_beside-talked.new.input) (g.O.Sink.printing c.args.out.now) (g.O.Sink.printing c.talk_beside-talked.new.out) c.talk_beside-talked.result c.failure_by-failure.result
    c.end_by_talk.result c.talk_beside-talked.ensures c.end_by_talk.ensures.ends

pub returns-in-Err-clause-quiet : goal.returns-in-Err-clause-quiet
returns-in-Err-clause-quiet g c = λ ended. absurd (never_well c.in-Err.unreserved.refusal (sym c.end_by_requests.ensures ∙ ended))

pub returns-in-Err-new-clause-quiet : goal.returns-in-Err-new-clause-quiet
returns-in-Err-new-clause-quiet g c = λ ended. absurd (never_well c.in-Err-new.refusal (sym c.end_by_refusal.ensures ∙ ended))

pub returns-in-Err-tellers-clause-quiet : goal.returns-in-Err-tellers-clause-quiet
returns-in-Err-tellers-clause-quiet g c = λ ended. absurd (never_well c.in-Err-tellers.refusal (sym c.end_by_refusal-in-Err-tellers.ensures ∙ ended))

pub returns-in-Err-clause-ends : goal.returns-in-Err-clause-ends
returns-in-Err-clause-ends g c = refused (c.in-Err.unreserved.refusal, c.end_by_requests.ensures) refl refl

pub returns-in-Err-new-clause-ends : goal.returns-in-Err-new-clause-ends
returns-in-Err-new-clause-ends g c = refused (c.in-Err-new.refusal, c.end_by_refusal.ensures) refl refl

pub returns-in-Err-tellers-clause-ends : goal.returns-in-Err-tellers-clause-ends
returns-in-Err-tellers-clause-ends g c = refused (c.in-Err-tellers.refusal, c.end_by_refusal-in-Err-tellers.ensures) refl refl
