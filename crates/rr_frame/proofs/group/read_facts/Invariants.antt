use Rattle.std.proofs.Common.{◌≡◌, ◌-◌, length}
use Rattle.rr_frame.specs.GroupFormat.{facts_at}
use Rattle.rr_frame.proofs.Loops.{with_front}
use Rattle.rr_frame.proofs.group.read_facts.Given as goal

abbrev pub invariant-loop : goal.invariant-loop
invariant-loop l = record {
  read : with_front l.facts.items (facts_at l.version (l.count - l.counter) l.reader) ≡ facts_at l.version l.count l.fn.reader;
  count : length l.facts.items ≡ l.counter;
}
