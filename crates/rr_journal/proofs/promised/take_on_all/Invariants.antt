use Rattle.std.proofs.Common.{◌≡◌, drop}
use Rattle.rr_types.specs.Promises.{all_fit, take_on_all}
use Rattle.rr_journal.proofs.promised.take_on_all.Given as goal

abbrev pub invariant-loop-fact : goal.invariant-loop-fact
invariant-loop-fact l = record {
  fit : all_fit l.nodes l.node l.fn.entries l.facts ≡ all_fit l.nodes l.node l.entries (drop l.fact-index l.facts);
  taken : take_on_all l.fn.entries l.facts ≡ take_on_all l.entries (drop l.fact-index l.facts);
}
