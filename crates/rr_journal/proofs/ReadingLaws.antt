-- Reading an area up to its last gate, whatever stands behind it.
use Rattle.std.proofs.Common.{◌≡◌, ◌≢◌, ℕ, zero, suc, ◌+◌, ◌-◌, ◌<◌, ◌≤◌, Bool, true, false, cond, eqb, leb, ltb, ◌&&◌, List, [], ◌∷◌, length, take, drop, get_or, Option, None, Some, Result, Ok, Err, refl, sym, ap, ◌∙◌, arith}
use Rattle.std.proofs.lemmas.Bool.{and_parts, ltb-true, lt-ltb, leb-true, le-leb, eq-eqb, eqb-true, eqb-false}
use Rattle.std.proofs.lemmas.List.{length-take, length-drop, drop-drop, take-take, drop-take, get_or-drop}
use Rattle.rr_types.specs.Groups.{Grouped}
use Rattle.rr_frame.specs.declared.version.Version.{Version}
use Rattle.rr_frame.specs.Numbers.{number_in}
use Rattle.rr_frame.specs.GroupFormat.{group_in}
use Rattle.rr_journal.specs.Image.{Content, frame_behind, with_group, after_payload, after_frame, content_from}
use Rattle.rr_journal.proofs.ContentLemmas.{gate_after, frame_rest}

-- bytes that are the same up to a place are the same up to an earlier one
pub same_front : (m n : ℕ) (a b : List ℕ) → m ≤ n → take n a ≡ take n b → take m a ≡ take m b
same_front m n a b le same = sym (take-take m n a le) ∙ ap (take m) same ∙ take-take m n b le

-- and between two places
pub same_part : (n m : ℕ) (a b : List ℕ) → take (n + m) a ≡ take (n + m) b → take m (drop n a) ≡ take m (drop n b)
same_part n m a b same = sym (drop-take n m a) ∙ ap (drop n) same ∙ drop-take n m b

number_taken : (a : List ℕ) → number_in 4 (take 4 a) ≡ number_in 4 a
unfolding number_in
number_taken [] = refl
number_taken (x ∷ []) = refl
number_taken (x ∷ y ∷ []) = refl
number_taken (x ∷ y ∷ z ∷ []) = refl
number_taken (x ∷ y ∷ z ∷ w ∷ a) = refl

number_front : (a b : List ℕ) → take 4 a ≡ take 4 b → number_in 4 a ≡ number_in 4 b
number_front a b same = sym (number_taken a) ∙ ap (number_in 4) same ∙ number_taken b

-- the parts of a whole frame
pub record IsFrame (bytes payload rest : List ℕ) : Type 0 where
  pub size : number_in 4 bytes ≡ length payload
  pub room : 4 + length payload < length bytes
  pub payload_is : take (length payload) (drop 4 bytes) ≡ payload
  pub rest_is : rest ≡ drop (4 + length payload) bytes

abbrev some_pair : List ℕ × List ℕ → Option (List ℕ × List ℕ)
some_pair x = Some x

some_is : (x y : List ℕ × List ℕ) → some_pair x ≡ some_pair y → x ≡ y
some_is x y e = cc

pub frame_parts : (bytes payload rest : List ℕ) → frame_behind bytes ≡ Some (payload, rest) → IsFrame bytes payload rest
frame_parts bytes payload rest e = by_test (leb 4 (length bytes) && ltb (number_in 4 bytes) (length (drop 4 bytes))) refl e
  where
    by_test : (t : Bool) → (leb 4 (length bytes) && ltb (number_in 4 bytes) (length (drop 4 bytes))) ≡ t → cond {A = Option (List ℕ × List ℕ)} t (Some (take (number_in 4 bytes) (drop 4 bytes), drop (number_in 4 bytes) (drop 4 bytes))) None ≡ Some (payload, rest) → IsFrame bytes payload rest
    by_test false t now = absurd cc
    by_test true t now =
        let fits = and_parts (leb 4 (length bytes)) (ltb (number_in 4 bytes) (length (drop 4 bytes))) t in
        let short : number_in 4 bytes < length (drop 4 bytes) = ltb-true _ _ fits.1 in
        let four : 4 ≤ length bytes = leb-true _ _ fits.0 in
        let both = some_is (take (number_in 4 bytes) (drop 4 bytes), drop (number_in 4 bytes) (drop 4 bytes)) (payload, rest) now in
        let payload-is : take (number_in 4 bytes) (drop 4 bytes) ≡ payload = ap (λ (x : List ℕ × List ℕ). x.0) both in
        let size : number_in 4 bytes ≡ length payload = omega (arith, ap (λ (x : List ℕ). length x) payload-is, length-take (number_in 4 bytes) (drop 4 bytes)) in
        record {
          size = size;
          room = omega (arith, size, length-drop 4 bytes);
          payload_is = ap (λ (k : ℕ). take k (drop 4 bytes)) (sym size) ∙ payload-is;
          rest_is = frame_rest bytes payload rest e;
        }

pub frame_whole : (bytes payload rest : List ℕ) → IsFrame bytes payload rest → frame_behind bytes ≡ Some (payload, rest)
frame_whole bytes payload rest is =
    let long : leb 4 (length bytes) ≡ true = le-leb _ _ (omega (arith, is.room)) in
    let whole : ltb (length payload) (length (drop 4 bytes)) ≡ true = lt-ltb _ _ (omega (arith, is.room, length-drop 4 bytes)) in
    rw (is.size, long, whole, is.payload_is) (ap (λ (b : List ℕ). some_pair (payload, b)) (drop-drop (length payload) 4 bytes ∙ sym is.rest_is))

-- the same frame stands in all bytes that begin so, if a next gate stands behind it
pub frame_same : (bytes other payload rest : List ℕ) → frame_behind bytes ≡ Some (payload, rest) → 4 + length payload < length other → take (4 + length payload) other ≡ take (4 + length payload) bytes → frame_behind other ≡ Some (payload, drop (4 + length payload) other)
frame_same bytes other payload rest e room same =
    let is = frame_parts bytes payload rest e in
    frame_whole other payload (drop (4 + length payload) other) (record {
      size = number_front other bytes (same_front 4 (4 + length payload) other bytes (omega arith) same) ∙ is.size;
      room = room;
      payload_is = same_part 4 (length payload) other bytes same ∙ is.payload_is;
      rest_is = refl;
    })

-- a frame that was read on, taken apart
pub after_parts : (version : Version) (n p : ℕ) (c : Content) (bytes : List ℕ) (x : Content × List ℕ) → after_frame version n p c bytes ≡ Some x → (payload : List ℕ) × (frame_behind bytes ≡ Some (payload, x.1)) × (after_payload version n p c payload ≡ Some x.0)
after_parts version n p c bytes x e = by_frame (frame_behind bytes) refl e
  where
    by_frame : (f : Option (List ℕ × List ℕ)) → frame_behind bytes ≡ f → elim f [ None ↦ None | Some y ↦ elim (after_payload version n p c y.0) [ None ↦ None | Some d ↦ Some (d, y.1) ] ] ≡ Some x
        → (payload : List ℕ) × (frame_behind bytes ≡ Some (payload, x.1)) × (after_payload version n p c payload ≡ Some x.0)
    by_frame None f e = absurd cc
    by_frame (Some y) f e = by_group (after_payload version n p c y.0) refl e
      where
        by_group : (o : Option Content) → after_payload version n p c y.0 ≡ o → elim o [ None ↦ None | Some d ↦ Some (d, y.1) ] ≡ Some x
            → (payload : List ℕ) × (frame_behind bytes ≡ Some (payload, x.1)) × (after_payload version n p c payload ≡ Some x.0)
        by_group None o e = absurd cc
        by_group (Some d) o e = let same : (d, y.1) ≡ x = cc in (y.0, f ∙ ap (λ (z : Content × List ℕ). some_pair (y.0, z.1)) same, o ∙ ap (λ (z : Content × List ℕ). Some z.0) same)

-- one frame more
pub one_frame : (version : Version) (k n p g : ℕ) (c d : Content) (bytes payload rest : List ℕ) → g ≡ 165 → frame_behind bytes ≡ Some (payload, rest) → after_payload version n p c payload ≡ Some d → content_from version (suc k) n p c (g ∷ bytes) ≡ content_from version k n p d rest
one_frame version k n p g c d bytes payload rest open_gate frame taken = let is : eqb g 165 ≡ true = eq-eqb g 165 open_gate in rw (is, frame, taken) refl

-- a closed gate ends the content
pub at_closed : (version : Version) (k n p : ℕ) (c : Content) (bytes : List ℕ) → get_or bytes 0 0 ≢ 165 → content_from version k n p c bytes ≡ Ok c
at_closed version k n p c [] shut = refl
at_closed version zero n p c (g ∷ bytes) shut = refl
at_closed version (suc k) n p c (g ∷ bytes) shut = by_gate (eqb g 165) refl
  where
    by_gate : (t : Bool) → eqb g 165 ≡ t → content_from version (suc k) n p c (g ∷ bytes) ≡ Ok c
    by_gate true is = absurd (shut (eqb-true g 165 is))
    by_gate false is = rw is refl

-- what is read behind a frame
abbrev read_on : (version : Version) → ℕ → ℕ → ℕ → Content → Option (Content × List ℕ) → Result Content ℕ
read_on version k n p c r = elim r [ None ↦ Err c.gate | Some d ↦ content_from version k n p d.0 d.1 ]

-- more frames than there are bytes add nothing
pub enough_frames : (version : Version) (k m n p : ℕ) (c : Content) (bytes : List ℕ) → length bytes ≤ k → length bytes ≤ m → content_from version k n p c bytes ≡ content_from version m n p c bytes
enough_frames version k m n p c [] le le_2 = refl
enough_frames version zero m n p c (g ∷ bytes) le le_2 = absurd (omega arith)
enough_frames version (suc k) zero n p c (g ∷ bytes) le le_2 = absurd (omega arith)
enough_frames version (suc k) (suc m) n p c (g ∷ bytes) le le_2 = by_frame (after_frame version n p c bytes) refl (λ d rest. enough_frames version k m n p d rest)
  where
    by_frame : (r : Option (Content × List ℕ)) → after_frame version n p c bytes ≡ r
        → ((d : Content) (rest : List ℕ) → length rest ≤ k → length rest ≤ m → content_from version k n p d rest ≡ content_from version m n p d rest)
        → cond (eqb g 165) (read_on version k n p c r) (Ok c) ≡ cond (eqb g 165) (read_on version m n p c r) (Ok c)
    by_frame None e on = refl
    by_frame (Some x) e on =
        let parts = after_parts version n p c bytes x e in
        let behind = (frame_parts bytes parts.0 x.1 parts.1).rest_is in
        let shorter : length x.1 ≤ length bytes = omega (arith, ap (λ (b : List ℕ). length b) behind, length-drop (4 + length parts.0) bytes) in
        ap (λ (z : Result Content ℕ). cond (eqb g 165) z (Ok c)) (on x.0 x.1 (omega (arith, shorter)) (omega (arith, shorter)))

-- from c on these bytes stand for d, whose gate stands so many bytes further on and is closed; and so do all bytes that begin so, up to that gate
pub record Reaches (version : Version) (n p : ℕ) (c d : Content) (bytes : List ℕ) : Type 0 where
  pub size : ℕ
  pub gate : d.gate ≡ c.gate + size
  pub epoch : d.epoch ≡ c.epoch
  pub there : size < length bytes
  pub closed : get_or bytes size 0 ≢ 165
  pub again : (other : List ℕ) → size < length other → take size other ≡ take size bytes → (k m : ℕ) → length other ≤ k → length other ≤ m → content_from version k n p c other ≡ content_from version m n p d (drop size other)

closed_here : (version : Version) (k n p g : ℕ) (c d : Content) (bytes : List ℕ) → eqb g 165 ≡ false → content_from version (suc k) n p c (g ∷ bytes) ≡ Ok d → Reaches version n p c d (g ∷ bytes)
closed_here version k n p g c d bytes shut e =
    let ends : content_from version (suc k) n p c (g ∷ bytes) ≡ Ok c = rw shut refl in
    let same : c ≡ d = cc in
    record {
      size = 0;
      gate = omega (arith, ap (λ (x : Content). x.gate) same);
      epoch = ap (λ (x : Content). x.epoch) (sym same);
      there = omega arith;
      closed = eqb-false g 165 shut;
      again = λ other there front j m le le_2. enough_frames version j m n p c other le le_2 ∙ ap (λ (x : Content). content_from version m n p x other) same;
    }

-- the epoch stays
pub epoch_after : (version : Version) (n p : ℕ) (c d : Content) (payload : List ℕ) → after_payload version n p c payload ≡ Some d → d.epoch ≡ c.epoch
epoch_after version n p c d payload e = by_group (group_in version payload) e
  where
    by_test : (t : Bool) (x : Content) → cond t (Some x) None ≡ Some d → x ≡ d
    by_test true x e = cc
    by_test false x e = absurd cc

    by_group : (r : Result Grouped ℕ) → elim r [ Err offset ↦ None | Ok g ↦ with_group n p g (length payload) c ] ≡ Some d → d.epoch ≡ c.epoch
    by_group (Err k) e = absurd cc
    by_group (Ok g) e = ap (λ (x : Content). x.epoch) (sym (by_test _ _ e))

-- behind one frame more
frame_then : (version : Version) (n p g : ℕ) (c mid d : Content) (bytes payload rest : List ℕ) → g ≡ 165 → frame_behind bytes ≡ Some (payload, rest) → after_payload version n p c payload ≡ Some mid → Reaches version n p mid d rest → Reaches version n p c d (g ∷ bytes)
frame_then version n p g c mid d bytes payload rest open_gate frame taken on =
    let is = frame_parts bytes payload rest frame in
    let moved = gate_after version n p c mid payload taken in
    let kept = epoch_after version n p c mid payload taken in
    let size : ℕ = on.size in
    let long : ℕ = length payload in
    let behind : length rest ≡ length bytes - (4 + length payload) = ap (λ (b : List ℕ). length b) is.rest_is ∙ length-drop (4 + length payload) bytes in
    let gate_at : get_or bytes (4 + length payload + on.size) 0 ≡ get_or rest on.size 0 = sym (get_or-drop (4 + length payload) bytes on.size 0) ∙ ap (λ (b : List ℕ). get_or b on.size 0) (sym is.rest_is) in
    record {
      size = suc (4 + length payload + on.size);
      gate = omega (arith, moved, on.gate);
      epoch = on.epoch ∙ kept;
      there = omega (arith, on.there, behind, is.room);
      closed = λ e. on.closed (sym gate_at ∙ e);
      again = again_behind is;
    }
  where
    again_behind : IsFrame bytes payload rest → (other : List ℕ) → suc (4 + length payload + on.size) < length other → take (suc (4 + length payload + on.size)) other ≡ take (suc (4 + length payload + on.size)) (g ∷ bytes)
        → (k m : ℕ) → length other ≤ k → length other ≤ m → content_from version k n p c other ≡ content_from version m n p d (drop (suc (4 + length payload + on.size)) other)
    again_behind is [] there front k m le le_2 = absurd (omega arith)
    again_behind is (h ∷ other) there front zero m le le_2 = absurd (omega arith)
    again_behind is (h ∷ other) there front (suc k) m le le_2 =
        let gate : h ≡ g = cc in
        let tails : take (4 + length payload + on.size) other ≡ take (4 + length payload + on.size) bytes = cc in
        let same = frame_same bytes other payload rest frame (omega (arith, there)) (same_front (4 + length payload) (4 + length payload + on.size) other bytes (omega arith) tails) in
        let left : List ℕ = drop (4 + length payload) other in
        let left_long : length (drop (4 + length payload) other) ≡ length other - (4 + length payload) = length-drop (4 + length payload) other in
        let left_front : take on.size (drop (4 + length payload) other) ≡ take on.size rest = same_part (4 + length payload) on.size other bytes tails ∙ ap (take on.size) (sym is.rest_is) in
        one_frame version k n p h c mid other payload (drop (4 + length payload) other) (gate ∙ open_gate) same taken
        ∙ on.again (drop (4 + length payload) other) (omega (arith, there, left_long)) left_front k m (omega (arith, le, left_long)) (omega (arith, le_2, left_long))
        ∙ ap (content_from version m n p d) (drop-drop on.size (4 + length payload) other)

-- reading that comes to a content goes over its bytes up to the last gate, which is closed
pub reaches : (version : Version) (k n p : ℕ) (c d : Content) (bytes : List ℕ) → length bytes ≤ k → 0 < length bytes → content_from version k n p c bytes ≡ Ok d → Reaches version n p c d bytes
reaches version k n p c d [] le some e = absurd (omega arith)
reaches version zero n p c d (g ∷ bytes) le some e = absurd (omega arith)
reaches version (suc k) n p c d (g ∷ bytes) le some e = by_gate (eqb g 165) refl (λ mid rest. reaches version k n p mid d rest)
  where
    by_frame : eqb g 165 ≡ true → (r : Option (Content × List ℕ)) → after_frame version n p c bytes ≡ r
        → ((mid : Content) (rest : List ℕ) → length rest ≤ k → 0 < length rest → content_from version k n p mid rest ≡ Ok d → Reaches version n p mid d rest)
        → read_on version k n p c r ≡ Ok d → Reaches version n p c d (g ∷ bytes)
    by_frame open_gate None is on now = absurd cc
    by_frame open_gate (Some x) is on now =
        let parts = after_parts version n p c bytes x is in
        let whole = frame_parts bytes parts.0 x.1 parts.1 in
        let behind : length x.1 ≡ length bytes - (4 + length parts.0) = ap (λ (b : List ℕ). length b) whole.rest_is ∙ length-drop (4 + length parts.0) bytes in
        frame_then version n p g c x.0 d bytes parts.0 x.1 (eqb-true g 165 open_gate) parts.1 parts.2 (on x.0 x.1 (omega (arith, behind, le)) (omega (arith, behind, whole.room)) now)

    by_gate : (t : Bool) → eqb g 165 ≡ t
        → ((mid : Content) (rest : List ℕ) → length rest ≤ k → 0 < length rest → content_from version k n p mid rest ≡ Ok d → Reaches version n p mid d rest)
        → Reaches version n p c d (g ∷ bytes)
    by_gate false shut on = closed_here version k n p g c d bytes shut e
    by_gate true open_gate on = by_frame open_gate (after_frame version n p c bytes) refl on (rw open_gate at e)
