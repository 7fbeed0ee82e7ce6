use Rattle.std.proofs.Common.{◌+◌, ◌≤◌, length}
use Rattle.rr_journal.specs.Image.{content_from}
use Rattle.rr_journal.proofs.ContentLemmas.{GoesOn}
use Rattle.rr_journal.proofs.content.read_groups.Given as goal

abbrev pub invariant-loop-rest : goal.invariant-loop-rest
invariant-loop-rest l = record {
  on : GoesOn l.version l.nodes l.node l.reading l.rest (content_from l.version (length l.bytes) l.nodes l.node l.fn.content l.bytes);
  room : l.reading.gate + length l.rest ≤ l.fn.content.gate + length l.bytes;
}

abbrev pub decreases-loop-rest : goal.decreases-loop-rest
decreases-loop-rest l = length l.rest
