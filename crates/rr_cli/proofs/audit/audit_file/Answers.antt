use Rattle.std.proofs.Common.{subst}
use Rattle.rr_stream.specs.Files.{file_at}
use Rattle.rr_cli.specs.Ends.{EndsOnTape, read}
use Rattle.rr_cli.proofs.ReadLemmas.{unread_status, unread_ends}
use Rattle.rr_cli.proofs.audit.audit_file.Goals as goal

pub returns-in-Err-clause-ends : goal.returns-in-Err-clause-ends
returns-in-Err-clause-ends g c =
    unread_ends _ (file_at (g.F.FileReader.held c.args.files.now) c.args.path.now) (file_at (g.F.FileReader.held c.read_file.new.self) c.args.path.now) c.end_by_stream.result _ (unread_status _ (file_at (g.F.FileReader.held c.args.files.now) c.args.path.now) (file_at (g.F.FileReader.held c.read_file.new.self) c.args.path.now) c.end_by_stream.result c.in-Err.ensures.cause c.end_by_stream.ensures.memory c.end_by_stream.ensures.status)

pub returns-in-Ok-clause-ends : goal.returns-in-Ok-clause-ends
returns-in-Ok-clause-ends g c =
    read c.in-Ok.bytes.items c.in-Ok.ensures.all
    (subst (λ bytes. EndsOnTape c.args.form bytes c.audit_bytes.result (g.O.Sink.printing c.args.out.now) (g.O.Sink.printing c.audit_bytes.new.out)) c.as_slice.ensures.value c.audit_bytes.ensures.ends)
