use Rattle.std.proofs.Common.{◌∙◌, option_map, subst}
use Rattle.std.specs.Io.KnownBytes.{Keeps}
use Rattle.rr_cli.specs.Ends.{read}
use Rattle.rr_cli.specs.Views.{EndsOnCompared}
use Rattle.rr_cli.proofs.ReadLemmas.{unread_ends, second_read, second_unread}
use Rattle.rr_cli.proofs.views.compare_files.Goals as goal

pub returns-in-Ok-read_file-clause-ends : goal.returns-in-Ok-read_file-clause-ends
returns-in-Ok-read_file-clause-ends g c =
    let of_text = subst (λ text. EndsOnCompared c.as_slice.result.now text c.compare_bytes.result (g.O.Sink.printing c.args.out.now) (g.O.Sink.printing c.compare_bytes.new.out))
    c.as_slice-in-Ok-read_file.ensures.value c.compare_bytes.ensures.ends in
    let of_both = subst (λ bytes. EndsOnCompared bytes c.in-Ok-read_file.text.items c.compare_bytes.result (g.O.Sink.printing c.args.out.now) (g.O.Sink.printing c.compare_bytes.new.out))
    c.as_slice.ensures.value of_text in
    read c.in-Ok.bytes.items c.in-Ok.ensures.ok
    (read c.in-Ok-read_file.text.items
    (second_read (option_map (λ s. s.now) c.args.file) (option_map (λ s. s.now) c.args.report) (record { input = g.I.Source.reading c.args.input.now; files = g.F.FileReader.held c.args.files.now }) (record { input = g.I.Source.reading c.read_file.new.input; files = g.F.FileReader.held c.read_file.new.files }) c.in-Ok-read_file.text.items c.read_file.ensures.same c.read_file.ensures.untouched c.in-Ok-read_file.ensures.ok)
    of_both)

pub returns-in-Ok-read_file-clause-quiet : goal.returns-in-Ok-read_file-clause-quiet
returns-in-Ok-read_file-clause-quiet g c =
    λ zero. subst (λ old. Keeps old (g.E.Write.contents c.compare_bytes.new.err)) (c.in-Ok-read_file.ensures.quiet ∙ c.in-Ok.ensures.quiet) (c.compare_bytes.ensures.quiet zero)

pub returns-clause-ends : goal.returns-clause-ends
returns-clause-ends g c =
    read c.in-Ok.bytes.items c.in-Ok.ensures.ok
    (unread_ends _ _ _ _ _
    (second_unread (option_map (λ s. s.now) c.args.file) (option_map (λ s. s.now) c.args.report) (record { input = g.I.Source.reading c.args.input.now; files = g.F.FileReader.held c.args.files.now }) (record { input = g.I.Source.reading c.read_file.new.input; files = g.F.FileReader.held c.read_file.new.files }) (record { input = g.I.Source.reading c.read_file-2.new.input; files = g.F.FileReader.held c.read_file-2.new.files }) c.in-Err-read_file.status
    c.read_file.ensures.file_faults c.read_file.ensures.input_faults c.in-Err-read_file.ensures.unread))

pub returns-in-Err-clause-ends : goal.returns-in-Err-clause-ends
returns-in-Err-clause-ends g c = unread_ends _ _ _ _ _ c.in-Err.ensures.unread
