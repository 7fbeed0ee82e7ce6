use Rattle.std.proofs.Common.{◌≡◌, ◌++◌, take}
use Rattle.std.specs.List.{flat_map, AllByRecursion}
use Rattle.rr_frame.specs.SnapshotFormat.{entry_bytes, IsSpellable}
use Rattle.rr_frame.proofs.snapshot.put_entries.Given as goal

abbrev pub invariant-loop-entry : goal.invariant-loop-entry
invariant-loop-entry l = record {
  written : l.out.items ≡ l.fn.out.items ++ flat_map entry_bytes (take l.entry-index l.entries);
  lawful : AllByRecursion IsSpellable (take l.entry-index l.entries);
}
