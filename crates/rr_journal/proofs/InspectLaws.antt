-- The first frame of an area, read as the node does that it names.
use Rattle.std.proofs.Common.{◌≡◌, ℕ, ◌+◌, ◌-◌, ◌^◌, ◌<◌, ◌≤◌, List, length, drop, get_or, Option, None, Some, Result, Ok, Err, ◌⊎◌, inl, inr, [], refl, ap, subst, ◌∙◌, arith}
use Rattle.std.specs.Prelude.{Vec}
use Rattle.std.specs.declared.alloc.Global.{Global}
use Rattle.rr_types.specs.declared.refusal.Refusal.{Refusal}
use Rattle.rr_types.specs.declared.refusal.Refusal.TheVariants.{OutOfMemory, Device}
use Rattle.rr_disk.specs.declared.area.Area.{Area}
use Rattle.rr_disk.specs.declared.area.Area.TheVariants.{First, Second}
use Rattle.rr_disk.specs.Areas.{Areas, extent_of, bytes_of, read_of}
use Rattle.rr_frame.specs.declared.version.Version.{Version}
use Rattle.rr_frame.specs.Snapshots.{Snapped}
use Rattle.rr_frame.specs.SnapshotFormat.{snapshot_in}
use Rattle.rr_journal.specs.Image.{Content, Begins, frame_behind, front_of}
use Rattle.rr_journal.proofs.ContentLemmas.{front_begins}
use Rattle.rr_journal.proofs.ImageLaws.{read_whole}
use Rattle.rr_journal.specs.declared.inspection.AreaReport.{AreaReport}
use Rattle.rr_journal.specs.Inspect.{Owner, owner_in, owner_of, own_front, inspected, IsTold, IsRefusedRead, Inspects, both_read, first_refused, second_refused}

abbrev nobody : Owner
nobody = record { nodes = 0; node = 0 }

-- behind an open gate stands a snapshot: it names the owner, and its content begins
pub own_begins : (bytes payload rest : List ℕ) (version : Version) (s : Snapped) (c : Content) (n p : ℕ) → n ≡ s.nodes → p ≡ s.node → 2 ≤ length bytes → get_or bytes 0 0 ≡ 165 → frame_behind (drop 1 bytes) ≡ Some (payload, rest)
    → 4 + length payload + length rest ≡ length (drop 1 bytes) → snapshot_in payload ≡ Ok (version, s) → c ≡ record { epoch = s.epoch; promise = s.entries; next = s.next; gate = 5 + length payload }
    → (c.gate ≤ length bytes) × (own_front bytes ≡ Begins version c (drop c.gate bytes)) × (owner_of bytes ≡ record { nodes = n; node = p })
own_begins bytes payload rest version s c n p n_is p_is two open_gate frame parts spelt is =
    let owner : owner_of bytes ≡ record { nodes = s.nodes; node = s.node } =
    ap (λ (o : Option (List ℕ × List ℕ)). elim o [ None ↦ nobody | Some x ↦ owner_in x.0 ]) frame
    ∙ ap (λ (r : Result (Version × Snapped) ℕ). elim r [ Err offset ↦ nobody | Ok t ↦ record { nodes = t.1.nodes; node = t.1.node } ]) spelt in
    let both = front_begins s.nodes s.node bytes payload rest version s c two open_gate frame parts spelt refl refl is in
    (both.0, ap (λ (o : Owner). front_of o.nodes o.node bytes) owner ∙ both.1, rw (n_is, p_is) owner)

-- what was told of the bytes that two reads gave is told of both areas
pub told_of : (result : Result (Option AreaReport × Option AreaReport) Refusal) (first second : List ℕ) (old mid : Areas) → first ≡ read_of 0 (2 ^ 64 - 1) (extent_of old First) → second ≡ read_of 0 (2 ^ 64 - 1) (extent_of mid Second) → mid ≡ old
    → length old.first.cells < 2 ^ 64 → length old.second.cells < 2 ^ 64 → IsTold result (inspected first second) → IsTold result (inspected (bytes_of old.first) (bytes_of old.second))
told_of result first second old mid read_1 read_2 same fits_1 fits_2 is =
    let one : first ≡ bytes_of old.first = read_1 ∙ read_whole (2 ^ 64 - 1) old.first (omega (arith, fits_1)) in
    let two : second ≡ bytes_of old.second = read_2 ∙ ap (λ (both : Areas). read_of 0 (2 ^ 64 - 1) both.second) same ∙ read_whole (2 ^ 64 - 1) old.second (omega (arith, fits_2)) in
    subst (λ (bytes : List ℕ). IsTold result (inspected bytes (bytes_of old.second))) one (subst (λ (bytes : List ℕ). IsTold result (inspected first bytes)) two is)

-- a read is refused for memory or by the device
pub refused_read : (e : Refusal) (grew : Type 0) → (e ≡ OutOfMemory) ⊎ ((e ≡ Device) × grew) → IsRefusedRead e
refused_read e grew (inl memory) = inl memory
refused_read e grew (inr device) = inr device.0

-- what an inspection answers is what some bytes tell, or the device's refusal
pub seen_by : {D : Type 0} (of_read : D → Area → ℕ → ℕ → Result (Vec ℕ Global) Refusal → D → Type 0) (old new : D) (result : Result (Option AreaReport × Option AreaReport) Refusal) → Inspects of_read old result new
    → ((first : List ℕ) × (second : List ℕ) × IsTold result (inspected first second)) ⊎ (result ≡ Err Device)
seen_by of_read old new result (both_read first second mid one two is) = inl (first.items, second.items, is)
seen_by of_read old new result (first_refused e (inl memory) one is) = inl ([], [], rw (is, memory) tt)
seen_by of_read old new result (first_refused e (inr device) one is) = inr (rw (is, device) refl)
seen_by of_read old new result (second_refused first mid e (inl memory) one two is) = inl ([], [], rw (is, memory) tt)
seen_by of_read old new result (second_refused first mid e (inr device) one two is) = inr (rw (is, device) refl)
