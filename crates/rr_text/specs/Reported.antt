-- A report: its lines, and what the run has decided.
use Rattle.std.specs.Prelude.{List}
use Rattle.rr_types.specs.declared.command.Command.{Command}
use Rattle.rr_text.specs.declared.report.ReportLine.{ReportLine}

-- a report: its lines, and the commands that the run has decided, from instance 0 on
pub record Reported : Type 0 where
  pub lines : List ReportLine
  pub decided : List Command
