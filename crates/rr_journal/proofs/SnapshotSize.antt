-- The size of a snapshot, and that there is an empty one.
use Rattle.std.proofs.Common.{◌≡◌, ℕ, ◌<◌, List, [], length, arith, ap, length-append}
use Rattle.std.specs.List.{flat_map, list_all}
use Rattle.rr_types.specs.declared.promise.Entry.{Entry}
use Rattle.rr_frame.specs.Snapshots.{Snapped, IsSnapshot, proposes_lawfully}
use Rattle.rr_frame.specs.SnapshotFormat.{snapshot_bytes, snapshot_bytes_in, entry_bytes, owner_bytes, contents_bytes}
use Rattle.rr_frame.proofs.FieldLaws.{length-number_bytes}
use Rattle.rr_journal.specs.Migration.{snapshot_size}

pub snapshot_sized : (s : Snapped) → length (snapshot_bytes s) ≡ snapshot_size s.entries
unfolding snapshot_bytes_in owner_bytes contents_bytes
snapshot_sized s = simp (length-append, length-number_bytes) (omega arith)

pub length-snapshot_bytes : (s : Snapped) → s.entries ≡ [] → length (snapshot_bytes s) ≡ 23
unfolding snapshot_bytes_in owner_bytes contents_bytes
length-snapshot_bytes s e =
    let nothing : length (flat_map entry_bytes s.entries) ≡ 0 = ap (λ (es : List Entry). length (flat_map entry_bytes es)) e in
    simp (length-append, length-number_bytes) (omega (arith, nothing))

-- so it fits the length of a frame
pub snapshot_fits : (s : Snapped) (bytes : List ℕ) → bytes ≡ snapshot_bytes s → s.entries ≡ [] → length bytes < 4294967296
snapshot_fits s bytes b e = let size = length-snapshot_bytes s e in let same = ap length b in omega arith

-- and each node has one
pub is_snapshot : (n p : ℕ) (es : List Entry) → p < n → es ≡ [] → IsSnapshot (record { node = p; nodes = n; epoch = 1; next = 0; entries = es })
is_snapshot n p es exists none = record {
  node = exists;
  epoch = omega arith;
  empty = λ start. none;
  proposals = ap (λ (es : List Entry). list_all (λ (e : Entry). proposes_lawfully n p e.standing) es) none;
}
