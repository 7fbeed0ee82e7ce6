use Rattle.std.proofs.Common.{◌≡◌, ◌∙◌, map, ap}
use Rattle.rr_run.specs.Shells.{lines_text}
use Rattle.rr_run.proofs.ShellLemmas.{spoken_so}
use Rattle.rr_run.proofs.shell_run.shell_by_lines.Goals as goal

pub returns-in-Ok-clause-ends : goal.returns-in-Ok-clause-ends
returns-in-Ok-clause-ends g c =
    let is : c.new-spoken.result.stream.now ≡ lines_text (map (λ s. s.now) c.args.lines.now) = ap (λ s. s.now) c.new-spoken.ensures.stream ∙ c.as_slice.ensures.value ∙ c.in-Ok.ensures.ok in
    spoken_so c.args.manner.json c.args.manner.strict c.args.nodes c.args.manner.first (map (λ s. s.now) c.args.lines.now) c.new-spoken.result.stream.now c.new-spoken.result.faults _ c.shell_over.result _ _ c.new-spoken.ensures.faults is c.shell_over.ensures.ends
