-- A frame that was written is read again, and what a formatted area stands for.
use Rattle.std.proofs.Common.{◌≡◌, ℕ, suc, ◌+◌, ◌^◌, ◌<◌, true, false, leb, ltb, List, ◌∷◌, ◌++◌, length, drop, Some, Ok, refl, sym, ap, ◌∙◌, arith}
use Rattle.std.proofs.lemmas.Bool.{lt-ltb, le-leb, le-ltb}
use Rattle.std.proofs.lemmas.List.{take_at, drop_at, length-append}
use Rattle.rr_frame.specs.declared.version.Version.TheVariants.{Two}
use Rattle.rr_frame.specs.Numbers.{number_bytes, number_in}
use Rattle.rr_frame.specs.Reading.{number_at}
use Rattle.rr_frame.specs.Snapshots.{Snapped}
use Rattle.rr_frame.specs.SnapshotFormat.{snapshot_bytes, IsLawfulSnapshot}
use Rattle.rr_frame.proofs.FieldLaws.{length-number_bytes, number_again, ok_is}
use Rattle.rr_frame.proofs.SnapshotLaws.{snapshot_spelt}
use Rattle.rr_journal.specs.Image.{Content, Begins, frame_behind, front_of}
use Rattle.rr_journal.proofs.ContentLemmas.{frame_rest, front_begins}

number_there : (k : ℕ) (rest : List ℕ) → k < 2 ^ 32 → number_in 4 (number_bytes 4 k ++ rest) ≡ k
unfolding number_at
number_there k rest lt =
    let bytes : List ℕ = number_bytes 4 k ++ rest in
    let len = length-number_bytes 4 k in
    let long : ltb (length (number_bytes 4 k ++ rest)) 4 ≡ false = le-ltb _ _ (omega (arith, length-append (number_bytes 4 k) rest)) in
    let read : number_at 4 (number_bytes 4 k ++ rest) ≡ Ok (k, rest) = number_again 4 k rest (omega (arith, lt)) in
    let made : number_at 4 (number_bytes 4 k ++ rest) ≡ Ok (number_in 4 (number_bytes 4 k ++ rest), drop 4 (number_bytes 4 k ++ rest)) = rw long refl in
    ap (λ (x : ℕ × List ℕ). x.0) (ok_is (number_in 4 (number_bytes 4 k ++ rest), drop 4 (number_bytes 4 k ++ rest)) (k, rest) (sym made ∙ read))

-- length, payload and a next gate are a whole frame, whatever stands behind
pub frame_again : (payload rest : List ℕ) → length payload < 2 ^ 32 → 0 < length rest → frame_behind (number_bytes 4 (length payload) ++ (payload ++ rest)) ≡ Some (payload, rest)
frame_again payload rest lt some =
    let bytes : List ℕ = number_bytes 4 (length payload) ++ (payload ++ rest) in
    let len = length-number_bytes 4 (length payload) in
    let count : number_in 4 (number_bytes 4 (length payload) ++ (payload ++ rest)) ≡ length payload = number_there (length payload) (payload ++ rest) lt in
    let behind : drop 4 (number_bytes 4 (length payload) ++ (payload ++ rest)) ≡ payload ++ rest = drop_at (number_bytes 4 (length payload)) (payload ++ rest) 4 len in
    let long : leb 4 (length (number_bytes 4 (length payload) ++ (payload ++ rest))) ≡ true = le-leb _ _ (omega (arith, length-append (number_bytes 4 (length payload)) (payload ++ rest))) in
    let whole : ltb (length payload) (length (payload ++ rest)) ≡ true = lt-ltb _ _ (omega (arith, length-append payload rest)) in
    rw (count, behind, long, whole, take_at payload rest (length payload) refl, drop_at payload rest (length payload) refl) refl

-- an area behind whose open gate stands a snapshot, with a closed gate behind it
pub begun : (s : Snapped) (gate : ℕ) (junk : List ℕ) → IsLawfulSnapshot s → length (snapshot_bytes s) < 2 ^ 32
    → front_of s.nodes s.node (165 ∷ (number_bytes 4 (length (snapshot_bytes s)) ++ (snapshot_bytes s ++ (gate ∷ junk))))
    ≡ Begins Two (record { epoch = s.epoch; promise = s.entries; next = s.next; gate = 5 + length (snapshot_bytes s) }) (gate ∷ junk)
begun s gate junk lawful lt =
    let payload : List ℕ = snapshot_bytes s in
    let tail : List ℕ = number_bytes 4 (length (snapshot_bytes s)) ++ (snapshot_bytes s ++ (gate ∷ junk)) in
    let c : Content = record { epoch = s.epoch; promise = s.entries; next = s.next; gate = 5 + length (snapshot_bytes s) } in
    let frame : frame_behind (number_bytes 4 (length (snapshot_bytes s)) ++ (snapshot_bytes s ++ (gate ∷ junk))) ≡ Some (snapshot_bytes s, gate ∷ junk) = frame_again (snapshot_bytes s) (gate ∷ junk) lt (omega arith) in
    let size : length (number_bytes 4 (length (snapshot_bytes s)) ++ (snapshot_bytes s ++ (gate ∷ junk))) ≡ 4 + (length (snapshot_bytes s) + suc (length junk)) = omega (arith, length-number_bytes 4 (length (snapshot_bytes s)), length-append (number_bytes 4 (length (snapshot_bytes s))) (snapshot_bytes s ++ (gate ∷ junk)), length-append (snapshot_bytes s) (gate ∷ junk)) in
    let both = front_begins s.nodes s.node (165 ∷ tail) (snapshot_bytes s) (gate ∷ junk) Two s c (omega (arith, size)) refl frame (omega (arith, size)) (snapshot_spelt Two s lawful) refl refl refl in
    let behind = frame_rest_is (snapshot_bytes s) (gate ∷ junk) tail frame in
    both.1 ∙ ap (λ (b : List ℕ). Begins Two c b) (sym behind)
  where
    frame_rest_is : (payload rest tail : List ℕ) → frame_behind tail ≡ Some (payload, rest) → rest ≡ drop (5 + length payload) (165 ∷ tail)
    frame_rest_is payload rest tail e =
        let k : 5 + length payload ≡ suc (4 + length payload) = omega arith in
        rw k (frame_rest tail payload rest e)
