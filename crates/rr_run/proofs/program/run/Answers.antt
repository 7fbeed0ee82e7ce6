use Rattle.std.proofs.Common.{map, string_bytes, subst}
use Rattle.rr_words.specs.Tasks.{faults_of, task_of}
use Rattle.rr_run.specs.Runs.{EndsWithThreads}
use Rattle.rr_run.specs.Telling.{IsQuiet}
use Rattle.rr_run.proofs.program.run.Goals as goal

pub returns-in-Ok-clause-ends : goal.returns-in-Ok-clause-ends
returns-in-Ok-clause-ends g c =
    let ends = subst (λ words. EndsWithThreads (faults_of (map string_bytes words)) (task_of (map string_bytes words)) (record { input = g.I.Source.reading c.args.input.now; files = g.L.FileReader.held c.args.files.now }) (record { input = g.I.Source.reading c.execute.new.input; files = g.L.FileReader.held c.execute.new.files }) c.execute.result (g.O.Sink.printing c.args.out.now) (g.O.Sink.printing c.execute.new.out))
    c.as_slice.ensures.value c.execute.ensures.ends in
    rw c.in-Ok.is ends

pub returns-in-Ok-clause-quiet : goal.returns-in-Ok-clause-quiet
returns-in-Ok-clause-quiet g c =
    rw c.in-Ok.is (λ ended. subst (λ words. IsQuiet (faults_of (map string_bytes words)) (task_of (map string_bytes words)) (record { input = g.I.Source.reading c.args.input.now; files = g.L.FileReader.held c.args.files.now }) (g.E.Write.contents c.args.err.now) (g.E.Write.contents c.execute.new.err)) c.as_slice.ensures.value (c.execute.ensures.quiet ended))
