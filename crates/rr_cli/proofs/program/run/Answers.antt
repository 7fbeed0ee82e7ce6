use Rattle.std.proofs.Common.{map, string_bytes, subst}
use Rattle.rr_words.specs.Tasks.{faults_of, task_of}
use Rattle.rr_cli.specs.Ends.{EndsBy}
use Rattle.rr_cli.proofs.program.run.Goals as goal

pub returns-in-Ok-clause-ends : goal.returns-in-Ok-clause-ends
returns-in-Ok-clause-ends g c =
    let ends = subst (λ words. EndsBy (faults_of (map string_bytes words)) (task_of (map string_bytes words)) (record { input = g.I.Source.reading c.args.input.now; files = g.F.FileReader.held c.args.files.now }) (record { input = g.I.Source.reading c.execute.new.input; files = g.F.FileReader.held c.execute.new.files }) c.execute.result (g.O.Sink.printing c.args.out.now) (g.O.Sink.printing c.execute.new.out))
    c.as_slice.ensures.value c.execute.ensures.ends in
    rw c.in-Ok.is ends
