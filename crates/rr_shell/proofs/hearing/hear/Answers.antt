use Rattle.std.proofs.Common.{◌++◌, ◌<◌, length, arith}
use Rattle.std.proofs.lemmas.List.{length-append}
use Rattle.rr_shell.proofs.HearingLemmas.{read_on}
use Rattle.rr_shell.proofs.hearing.hear.Goals as goal

pub returns-clause-heard : goal.returns-clause-heard
returns-clause-heard g c =
    let (text, read) = c.in_ok-skip_line.ensures.skipped in
    let front = c.bytes.line.items in
    let long : 4096 < length (front ++ text) = rw (length-append front text) (omega (arith, c.bytes-test.false, c.len.ensures)) in
    (front ++ text, long, read_on (g.I.Source.reading c.args.input.now) (g.I.Source.reading c.bytes.input) (g.I.Source.reading c.skip_line.new.input) front text c.bytes.invariant.line c.bytes.invariant.read read)
