use Rattle.std.proofs.Common.{ap, ◌∙◌}
use Rattle.rr_cli.specs.Areas.{area_words}
use Rattle.rr_text.specs.ReportTexts.{line}
use Rattle.rr_cli.proofs.ShowLemmas.{unformatted_line}
use Rattle.rr_cli.proofs.show.print_area.Goals as goal

pub returns-in-None : goal.returns-in-None
returns-in-None g c =
    let is = ap (λ told. line (area_words c.args.area told)) c.in-None.is ∙ unformatted_line c.args.area in
    rw is c.writeln.ensures.bytes
