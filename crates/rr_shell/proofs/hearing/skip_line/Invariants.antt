-- A line of some text was read so far, and no count of faults fell.
use Rattle.std.proofs.Common.{◌≤◌, ℕ, List}
use Rattle.std.specs.Io.KnownBytes.{Consumes}
use Rattle.rr_shell.specs.Hearings.{IsOneLine}
use Rattle.rr_shell.proofs.hearing.skip_line.Given as goal

abbrev pub invariant-bytes : goal.invariant-bytes
invariant-bytes g l =
    record {
      read : (text : List ℕ) × IsOneLine text × Consumes (g.I.Source.reading l.initial.input).remaining (g.I.Source.reading l.input).remaining text;
      faults : (g.I.Source.reading l.initial.input).faults ≤ (g.I.Source.reading l.input).faults;
    }
