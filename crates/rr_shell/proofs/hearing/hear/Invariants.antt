-- What was read so far is the line, and no count of faults fell.
use Rattle.std.proofs.Common.{◌≤◌, ◌-◌, length}
use Rattle.std.specs.Io.KnownBytes.{Consumes}
use Rattle.rr_shell.specs.Hearings.{IsOneLine}
use Rattle.rr_shell.proofs.hearing.hear.Given as goal

abbrev pub invariant-bytes : goal.invariant-bytes
invariant-bytes g l =
    record {
      short : length l.line.items ≤ 4097;
      line : IsOneLine l.line.items;
      read : Consumes (g.I.Source.reading l.initial.input).remaining (g.I.Source.reading l.input).remaining l.line.items;
      faults : (g.I.Source.reading l.initial.input).faults ≤ (g.I.Source.reading l.input).faults;
    }

abbrev pub decreases-bytes : goal.decreases-bytes
decreases-bytes g l = 4097 - length l.line.items
