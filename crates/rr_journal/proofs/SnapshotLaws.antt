-- A snapshot has more bytes than entries.
use Rattle.std.proofs.Common.{◌+◌, ◌^◌, ◌≤◌, List, [], ◌∷◌, ◌++◌, length, arith, length-append}
use Rattle.std.specs.List.{flat_map}
use Rattle.rr_types.specs.declared.promise.Entry.{Entry}
use Rattle.rr_frame.specs.declared.version.Version.TheVariants.{Two}
use Rattle.rr_frame.specs.Numbers.{number_bytes}
use Rattle.rr_frame.specs.Snapshots.{Snapped}
use Rattle.rr_frame.specs.SnapshotFormat.{snapshot_bytes, snapshot_bytes_in, owner_bytes, contents_bytes, entry_bytes, standing_bytes}
use Rattle.rr_frame.proofs.FieldLaws.{length-number_bytes}

one_entry : (e : Entry) → 1 ≤ length (entry_bytes e)
unfolding entry_bytes
one_entry e = omega (arith, length-append (number_bytes 4 e.instance) (standing_bytes e.standing), length-number_bytes 4 e.instance)

entries_long : (es : List Entry) → length es ≤ length (flat_map entry_bytes es)
entries_long [] = omega arith
entries_long (e ∷ es) = omega (arith, entries_long es, one_entry e, length-append (entry_bytes e) (flat_map entry_bytes es))

-- so one whose entries are too many is too long
pub many_entries : (s : Snapped) → 2 ^ 32 ≤ length s.entries → 2 ^ 32 ≤ 6 + length (snapshot_bytes s)
unfolding snapshot_bytes_in contents_bytes
many_entries s many =
    let own = owner_bytes Two s.node s.nodes in
    let entries = flat_map entry_bytes s.entries in
    omega (
      arith,
      entries_long s.entries,
      many,
      length-append (owner_bytes Two s.node s.nodes) (number_bytes 8 s.epoch ++ (number_bytes 8 s.next ++ (number_bytes 4 (length s.entries) ++ flat_map entry_bytes s.entries))),
      length-append (number_bytes 8 s.epoch) (number_bytes 8 s.next ++ (number_bytes 4 (length s.entries) ++ flat_map entry_bytes s.entries)),
      length-append (number_bytes 8 s.next) (number_bytes 4 (length s.entries) ++ flat_map entry_bytes s.entries),
      length-append (number_bytes 4 (length s.entries)) (flat_map entry_bytes s.entries),
    )
