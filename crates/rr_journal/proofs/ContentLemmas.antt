-- Reading the groups of an area, one frame after the other.
use Rattle.std.proofs.Common.{◌≡◌, ℕ, zero, suc, ◌+◌, ◌<◌, ◌≤◌, Bool, true, false, cond, eqb, leb, ltb, ◌&&◌, List, [], ◌∷◌, length, take, drop, get_or, Option, None, Some, Result, Ok, Err, refl, sym, ap, ◌∙◌, arith}
use Rattle.std.proofs.lemmas.Bool.{and_parts, and_from, ltb-true, le-leb, eq-eqb}
use Rattle.std.proofs.lemmas.List.{length-take, drop-drop}
use Rattle.rr_types.specs.Groups.{Grouped}
use Rattle.rr_frame.specs.declared.version.Version.{Version}
use Rattle.rr_frame.specs.Numbers.{number_in}
use Rattle.rr_frame.specs.GroupFormat.{group_in}
use Rattle.rr_frame.specs.Snapshots.{Snapped}
use Rattle.rr_frame.specs.SnapshotFormat.{snapshot_in}
use Rattle.rr_journal.specs.Image.{Content, Blank, Faulty, Begins, of_node, front_behind, frame_behind, with_group, after_payload, content_from, front_of}

-- by so many frames at most the content is what it is from here on
pub record GoesOn (version : Version) (n p : ℕ) (c : Content) (rest : List ℕ) (total : Result Content ℕ) : Type 0 where
  pub frames : ℕ
  pub enough : length rest ≤ frames
  pub same : content_from version frames n p c rest ≡ total

pub frame_taken : (version : Version) (n p : ℕ) (c d : Content) (rest payload after : List ℕ) (total : Result Content ℕ) → 0 < length rest → get_or rest 0 0 ≡ 165 → frame_behind (drop 1 rest) ≡ Some (payload, after) → 4 + length payload + length after ≡ length (drop 1 rest)
    → after_payload version n p c payload ≡ Some d → GoesOn version n p c rest total → GoesOn version n p d after total
frame_taken version n p c d [] payload after total some gate frame parts taken on = absurd (omega arith)
frame_taken version n p c d (g ∷ rest) payload after total some gate frame parts taken on = by_frames on.frames on.enough on.same
  where
    by_frames : (k : ℕ) → length (g ∷ rest) ≤ k → content_from version k n p c (g ∷ rest) ≡ total → GoesOn version n p d after total
    by_frames zero le same = absurd (omega arith)
    by_frames (suc k) le same =
        let open_gate : eqb g 165 ≡ true = eq-eqb g 165 gate in
        let one : content_from version (suc k) n p c (g ∷ rest) ≡ content_from version k n p d after = rw (open_gate, frame, taken) refl in
        record { frames = k; enough = omega (arith, le, parts); same = sym one ∙ same }

-- the last gate moves behind the group's frame
pub gate_after : (version : Version) (n p : ℕ) (c d : Content) (payload : List ℕ) → after_payload version n p c payload ≡ Some d → d.gate ≡ c.gate + 5 + length payload
gate_after version n p c d payload e = by_group (group_in version payload) e
  where
    by_test : (t : Bool) (x : Content) → cond t (Some x) None ≡ Some d → x ≡ d
    by_test true x e = cc
    by_test false x e = absurd cc

    by_group : (r : Result Grouped ℕ) → elim r [ Err offset ↦ None | Ok g ↦ with_group n p g (length payload) c ] ≡ Some d → d.gate ≡ c.gate + 5 + length payload
    by_group (Err k) e = absurd cc
    by_group (Ok g) e = ap (λ (x : Content). x.gate) (sym (by_test _ _ e))

abbrev some_pair : List ℕ × List ℕ → Option (List ℕ × List ℕ)
some_pair x = Some x

some_is : (x y : List ℕ × List ℕ) → some_pair x ≡ some_pair y → x ≡ y
some_is x y e = cc

-- what stands behind a whole frame
pub frame_rest : (bytes payload rest : List ℕ) → frame_behind bytes ≡ Some (payload, rest) → rest ≡ drop (4 + length payload) bytes
frame_rest bytes payload rest e = by_test (leb 4 (length bytes) && ltb (number_in 4 bytes) (length (drop 4 bytes))) refl e
  where
    by_test : (t : Bool) → (leb 4 (length bytes) && ltb (number_in 4 bytes) (length (drop 4 bytes))) ≡ t → cond {A = Option (List ℕ × List ℕ)} t (Some (take (number_in 4 bytes) (drop 4 bytes), drop (number_in 4 bytes) (drop 4 bytes))) None ≡ Some (payload, rest) → rest ≡ drop (4 + length payload) bytes
    by_test false t e = absurd cc
    by_test true t e =
        let k = number_in 4 bytes in
        let fits = and_parts (leb 4 (length bytes)) (ltb (number_in 4 bytes) (length (drop 4 bytes))) t in
        let short : number_in 4 bytes < length (drop 4 bytes) = ltb-true _ _ fits.1 in
        let both = some_is (take (number_in 4 bytes) (drop 4 bytes), drop (number_in 4 bytes) (drop 4 bytes)) (payload, rest) e in
        let payload-is : take (number_in 4 bytes) (drop 4 bytes) ≡ payload = ap (λ (x : List ℕ × List ℕ). x.0) both in
        let rest-is : drop (number_in 4 bytes) (drop 4 bytes) ≡ rest = ap (λ (x : List ℕ × List ℕ). x.1) both in
        let size : length payload ≡ number_in 4 bytes = omega (arith, ap (λ (x : List ℕ). length x) payload-is, length-take (number_in 4 bytes) (drop 4 bytes)) in
        rw size (sym rest-is ∙ drop-drop (number_in 4 bytes) 4 bytes)

pub front_begins : (n p : ℕ) (bytes payload rest : List ℕ) (version : Version) (s : Snapped) (c : Content) → 2 ≤ length bytes → get_or bytes 0 0 ≡ 165 → frame_behind (drop 1 bytes) ≡ Some (payload, rest)
    → 4 + length payload + length rest ≡ length (drop 1 bytes) → snapshot_in payload ≡ Ok (version, s) → s.node ≡ p → s.nodes ≡ n
    → c ≡ record { epoch = s.epoch; promise = s.entries; next = s.next; gate = 5 + length payload } → (c.gate ≤ length bytes) × (front_of n p bytes ≡ Begins version c (drop c.gate bytes))
front_begins n p [] payload rest version s c two open_gate frame parts spelt node nodes is = absurd (omega arith)
front_begins n p (g ∷ tail) payload rest version s c two open_gate frame parts spelt node nodes is =
    let behind = frame_rest tail payload rest frame in
    let gate : c.gate ≡ suc (4 + length payload) = omega (arith, ap (λ (x : Content). x.gate) is) in
    let formatted : (eqb g 165 && leb 1 (length tail)) ≡ true = and_from _ _ (eq-eqb g 165 open_gate) (le-leb 1 (length tail) (omega arith)) in
    let own : (eqb s.node p && eqb s.nodes n) ≡ true = and_from _ _ (eq-eqb s.node p node) (eq-eqb s.nodes n nodes) in
    let front : front_of n p (g ∷ tail) ≡ Begins version (record { epoch = s.epoch; promise = s.entries; next = s.next; gate = 5 + length payload }) rest =
    ap (λ (t : Bool). cond t (front_behind n p (frame_behind tail)) Blank) formatted
    ∙ ap (front_behind n p) frame
    ∙ ap (λ (r : Result (Version × Snapped) ℕ). elim r [ Err offset ↦ Faulty | Ok x ↦ of_node n p x.0 x.1 (length payload) rest ]) spelt
    ∙ ap (λ (t : Bool). cond t (Begins version (record { epoch = s.epoch; promise = s.entries; next = s.next; gate = 5 + length payload }) rest) Faulty) own in
    (omega (arith, gate, parts), front ∙ ap (λ (x : Content). Begins version x rest) (sym is) ∙ ap (λ (b : List ℕ). Begins version c b) (behind ∙ ap (λ (k : ℕ). drop k (g ∷ tail)) (sym gate)))

-- a frame leaves as much room behind it as was before
pub room_after : (rest payload after : List ℕ) (gate next total : ℕ) → 0 < length rest → 4 + length payload + length after ≡ length (drop 1 rest) → next ≡ gate + 5 + length payload → gate + length rest ≤ total → next + length after ≤ total
room_after [] payload after gate next total some parts moved room = absurd (omega arith)
room_after (g ∷ rest) payload after gate next total some parts moved room = omega arith
