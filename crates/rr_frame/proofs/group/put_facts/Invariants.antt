use Rattle.std.proofs.Common.{◌≡◌, ◌++◌, take}
use Rattle.std.specs.List.{flat_map, AllByRecursion}
use Rattle.rr_frame.specs.FactFormat.{fact_bytes, IsLawfulFact}
use Rattle.rr_frame.proofs.group.put_facts.Given as goal

abbrev pub invariant-loop-fact : goal.invariant-loop-fact
invariant-loop-fact l = record {
  written : l.out.items ≡ l.fn.out.items ++ flat_map fact_bytes (take l.fact-index l.facts);
  lawful : AllByRecursion IsLawfulFact (take l.fact-index l.facts);
}
