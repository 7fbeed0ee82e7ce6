use Rattle.rr_words.specs.Lines.{rr_line}
use Rattle.rr_words.proofs.lines.command_line.Goals as goal

pub returns : goal.returns
unfolding rr_line
returns c =
    c.with_line-8.ensures _ _ (c.in_ok-line-7.ensures _ _ (c.in_ok-line-6.ensures _ _ (c.in_ok-line-5.ensures _ _ (c.in_ok-line-4.ensures _ _ (c.in_ok-line-3.ensures _ _ (c.in_ok-line-2.ensures _ _ (c.in_ok-line.ensures _ _ c.in_ok-schedule_lines.ensures c.run_line.ensures) c.shell_line.ensures) c.audit_line.ensures) c.show_line.ensures) c.verify_line.ensures) c.export_line.ensures) c.migrate_line.ensures) c.replace_line.ensures
