use Rattle.std.proofs.Common.{subst}
use Rattle.rr_stream.specs.Streams.{Printing}
use Rattle.rr_cli.specs.Ends.{EndsOnTaped}
use Rattle.rr_cli.proofs.TapedLemmas.{wanting_ends}
use Rattle.rr_cli.proofs.taped.show_tape.Goals as goal

pub show_found-requires : goal.show_found-requires
show_found-requires g c = record { text = c.requires; found = c.in-Ok.ensures.verdict }

pub returns-in-Ok-clause-ends : goal.returns-in-Ok-clause-ends
returns-in-Ok-clause-ends g c =
    subst (λ (old : Printing). EndsOnTaped c.args.what c.args.bytes.now c.show_found.result old (g.O.Sink.printing c.show_found.new.out)) c.watch_tape.ensures.unprinted c.show_found.ensures.ends

pub returns-in-Err-clause-ends : goal.returns-in-Err-clause-ends
returns-in-Err-clause-ends g c =
    wanting_ends c.args.what c.args.bytes.now c.in-Err.refusal c.end_by_refusal.result _ _ c.in-Err.ensures.err c.end_by_refusal.ensures c.watch_tape.ensures.unprinted
