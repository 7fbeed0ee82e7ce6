use Rattle.std.proofs.Common.{option_map, subst}
use Rattle.rr_stream.specs.Files.{file_at}
use Rattle.rr_cli.specs.Ends.{read}
use Rattle.rr_cli.proofs.ReadLemmas.{unread_status, unread_ends}
use Rattle.rr_run.specs.Runs.{EndsOnScript}
use Rattle.rr_run.specs.Telling.{TellsOfBytes}
use Rattle.rr_run.proofs.script_run.run_file.Goals as goal

pub returns-in-Err-clause-ends : goal.returns-in-Err-clause-ends
returns-in-Err-clause-ends g c =
    unread_ends _ (file_at (g.L.FileReader.held c.args.files.now) c.args.path.now) (file_at (g.L.FileReader.held c.read_file.new.self) c.args.path.now) c.end_by_stream.result _ (unread_status _ (file_at (g.L.FileReader.held c.args.files.now) c.args.path.now) (file_at (g.L.FileReader.held c.read_file.new.self) c.args.path.now) c.end_by_stream.result c.in-Err.ensures.cause c.end_by_stream.ensures.memory c.end_by_stream.ensures.status)

pub returns-in-Ok-clause-ends : goal.returns-in-Ok-clause-ends
returns-in-Ok-clause-ends g c =
    read c.in-Ok.bytes.items c.in-Ok.ensures.all
    (subst (λ bytes. EndsOnScript c.args.manner.form c.args.nodes (option_map (λ s. s.now) c.args.tape) bytes c.run_bytes.result (g.O.Sink.printing c.args.out.now) (g.O.Sink.printing c.run_bytes.new.out)) c.as_slice.ensures.value c.run_bytes.ensures.ends)

pub returns-in-Ok-clause-quiet : goal.returns-in-Ok-clause-quiet
returns-in-Ok-clause-quiet g c = λ ended.
    (c.in-Ok.bytes.items, c.in-Ok.ensures.all, subst (λ bytes. TellsOfBytes bytes (g.E.Write.contents c.args.err.now) (g.E.Write.contents c.run_bytes.new.err)) c.as_slice.ensures.value (c.run_bytes.ensures.quiet ended))
