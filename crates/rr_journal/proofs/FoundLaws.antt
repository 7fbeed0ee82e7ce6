-- What both areas stand for, whatever stands behind the last gate of the active one.
use Rattle.std.proofs.Common.{◌≡◌, ◌≢◌, ℕ, suc, ◌+◌, ◌-◌, ◌<◌, ◌≤◌, Bool, true, false, cond, eqb, leb, ltb, ◌&&◌, List, [], ◌∷◌, length, take, drop, get_or, Option, None, Some, Result, Ok, Err, refl, sym, ap, subst, ◌∙◌, arith}
use Rattle.std.proofs.lemmas.Bool.{and_parts, eqb-true}
use Rattle.std.proofs.lemmas.List.{length-drop, drop-drop, get_or-drop}
use Rattle.rr_disk.specs.declared.area.Area.{Area}
use Rattle.rr_disk.specs.declared.area.Area.TheVariants.{First, Second}
use Rattle.rr_disk.specs.Crash.{Images}
use Rattle.rr_frame.specs.declared.version.Version.{Version}
use Rattle.rr_frame.specs.declared.version.Version.TheVariants.{One, Two}
use Rattle.rr_frame.specs.Snapshots.{Snapped}
use Rattle.rr_frame.specs.SnapshotFormat.{snapshot_in}
use Rattle.rr_journal.specs.Moments.{image_of, with_image}
use Rattle.rr_journal.specs.Image.{Content, Unformatted, Broken, Active, Front, Blank, Faulty, Begins, frame_behind, content_from, of_node, front_behind, front_of, content_behind, active_in, active, found_by, found}
use Rattle.rr_journal.proofs.ContentLemmas.{front_begins}
use Rattle.rr_journal.proofs.ReadingLaws.{frame_parts, frame_same, same_front, same_part, reaches}

-- an area's first frame, and so it is of all bytes that begin so, up to the next gate
pub record Fronts (version : Version) (n p : ℕ) (c : Content) (bytes rest : List ℕ) : Type 0 where
  pub there : c.gate < length bytes
  pub rest_is : rest ≡ drop c.gate bytes
  pub again : (other : List ℕ) → c.gate < length other → take c.gate other ≡ take c.gate bytes → front_of n p other ≡ Begins version c (drop c.gate other)

front_made : (version : Version) (n p g : ℕ) (bytes payload rest : List ℕ) (s : Snapped) (c : Content) → g ≡ 165 → frame_behind bytes ≡ Some (payload, rest) → snapshot_in payload ≡ Ok (version, s) → s.node ≡ p → s.nodes ≡ n
    → c ≡ record { epoch = s.epoch; promise = s.entries; next = s.next; gate = 5 + length payload } → Fronts version n p c (g ∷ bytes) rest
front_made version n p g bytes payload rest s c open_gate frame spelt node nodes is =
    let parts = frame_parts bytes payload rest frame in
    let gate : c.gate ≡ suc (4 + length payload) = omega (arith, ap (λ (x : Content). x.gate) is) in
    record {
      there = omega (arith, gate, parts.room);
      rest_is = parts.rest_is ∙ ap (λ (k : ℕ). drop k (g ∷ bytes)) (sym gate);
      again = again_front gate;
    }
  where
    again_front : c.gate ≡ suc (4 + length payload) → (other : List ℕ) → c.gate < length other → take c.gate other ≡ take c.gate (g ∷ bytes) → front_of n p other ≡ Begins version c (drop c.gate other)
    again_front gate [] there same = absurd (omega arith)
    again_front gate (h ∷ other) there same =
        let fronts : take (suc (4 + length payload)) (h ∷ other) ≡ take (suc (4 + length payload)) (g ∷ bytes) = subst (λ (k : ℕ). take k (h ∷ other) ≡ take k (g ∷ bytes)) gate same in
        let head : h ≡ g = cc in
        let tails : take (4 + length payload) other ≡ take (4 + length payload) bytes = cc in
        let left : length (drop (4 + length payload) other) ≡ length other - (4 + length payload) = length-drop (4 + length payload) other in
        let whole = frame_same bytes other payload rest frame (omega (arith, gate, there)) tails in
        (front_begins n p (h ∷ other) payload (drop (4 + length payload) other) version s c (omega (arith, gate, there)) (head ∙ open_gate) whole (omega (arith, gate, there, left)) spelt node nodes is).1

pub fronts : (version : Version) (n p : ℕ) (c : Content) (bytes rest : List ℕ) → front_of n p bytes ≡ Begins version c rest → Fronts version n p c bytes rest
fronts version n p c [] rest e = absurd cc
fronts version n p c (g ∷ bytes) rest e = by_test (eqb g 165 && leb 1 (length bytes)) refl e
  where
    by_own : g ≡ 165 → (payload behind : List ℕ) (other : Version) (s : Snapped) (t : Bool) → (eqb s.node p && eqb s.nodes n) ≡ t → frame_behind bytes ≡ Some (payload, behind) → snapshot_in payload ≡ Ok (other, s)
        → cond t (Begins other (record { epoch = s.epoch; promise = s.entries; next = s.next; gate = 5 + length payload }) behind) Faulty ≡ Begins version c rest → Fronts version n p c (g ∷ bytes) rest
    by_own open_gate payload behind other s false own frame spelt now = absurd cc
    by_own open_gate payload behind other s true own frame spelt now =
        let both = and_parts (eqb s.node p) (eqb s.nodes n) own in
        let made : c ≡ record { epoch = s.epoch; promise = s.entries; next = s.next; gate = 5 + length payload } = cc in
        let same : behind ≡ rest = cc in
        let one : other ≡ version = cc in
        front_made version n p g bytes payload rest s c open_gate (subst (λ (b : List ℕ). frame_behind bytes ≡ Some (payload, b)) same frame) (subst (λ (v : Version). snapshot_in payload ≡ Ok (v, s)) one spelt) (eqb-true _ _ both.0) (eqb-true _ _ both.1) made

    by_snapshot : g ≡ 165 → (payload behind : List ℕ) (r : Result (Version × Snapped) ℕ) → snapshot_in payload ≡ r → frame_behind bytes ≡ Some (payload, behind)
        → elim r [ Err offset ↦ Faulty | Ok x ↦ of_node n p x.0 x.1 (length payload) behind ] ≡ Begins version c rest → Fronts version n p c (g ∷ bytes) rest
    by_snapshot open_gate payload behind (Err offset) spelt frame now = absurd cc
    by_snapshot open_gate payload behind (Ok (other, s)) spelt frame now = by_own open_gate payload behind other s (eqb s.node p && eqb s.nodes n) refl frame spelt now

    by_frame : g ≡ 165 → (f : Option (List ℕ × List ℕ)) → frame_behind bytes ≡ f → front_behind n p f ≡ Begins version c rest → Fronts version n p c (g ∷ bytes) rest
    by_frame open_gate None frame now = absurd cc
    by_frame open_gate (Some x) frame now = by_snapshot open_gate x.0 x.1 (snapshot_in x.0) refl frame now

    by_test : (t : Bool) → (eqb g 165 && leb 1 (length bytes)) ≡ t → cond t (front_behind n p (frame_behind bytes)) Blank ≡ Begins version c rest → Fronts version n p c (g ∷ bytes) rest
    by_test false t now = absurd cc
    by_test true t now = by_frame (eqb-true g 165 (and_parts (eqb g 165) (leb 1 (length bytes)) t).0) (frame_behind bytes) refl now

-- an area that begins with c stands for d, whose gate is closed; and so does one that begins so, up to that gate, if what stands behind adds nothing
pub record IsRead (version : Version) (n p : ℕ) (c d : Content) (bytes : List ℕ) : Type 0 where
  pub there : d.gate < length bytes
  pub closed : get_or bytes d.gate 0 ≢ 165
  pub again : (other : List ℕ) → d.gate < length other → take d.gate other ≡ take d.gate bytes → (m : ℕ) → length other ≤ m
      → (front_of n p other ≡ Begins version c (drop c.gate other)) × (content_behind version n p c (drop c.gate other) ≡ content_from version m n p d (drop d.gate other))

pub area_read : (version : Version) (n p : ℕ) (c d : Content) (bytes rest : List ℕ) → front_of n p bytes ≡ Begins version c rest → content_behind version n p c rest ≡ Ok d → IsRead version n p c d bytes
unfolding content_behind
area_read version n p c d bytes rest front content =
    let begins = fronts version n p c bytes rest front in
    let behind : length rest ≡ length bytes - c.gate = ap (λ (b : List ℕ). length b) begins.rest_is ∙ length-drop c.gate bytes in
    let on = reaches version (length rest) n p c d rest (omega arith) (omega (arith, behind, begins.there)) content in
    let gate_at : get_or bytes (c.gate + on.size) 0 ≡ get_or rest on.size 0 = sym (get_or-drop c.gate bytes on.size 0) ∙ ap (λ (b : List ℕ). get_or b on.size 0) (sym begins.rest_is) in
    record {
      there = omega (arith, on.gate, on.there, behind);
      closed = λ e. on.closed (sym gate_at ∙ ap (λ (k : ℕ). get_or bytes k 0) (sym on.gate) ∙ e);
      again = λ other there same m le.
          let fronts_same : take (c.gate + on.size) other ≡ take (c.gate + on.size) bytes = subst (λ (k : ℕ). take k other ≡ take k bytes) on.gate same in
          let left : length (drop c.gate other) ≡ length other - c.gate = length-drop c.gate other in
          let tail_same : take on.size (drop c.gate other) ≡ take on.size rest = same_part c.gate on.size other bytes fronts_same ∙ ap (take on.size) (sym begins.rest_is) in (
            begins.again other (omega (arith, on.gate, there)) (same_front c.gate (c.gate + on.size) other bytes (omega arith) fronts_same),
            on.again (drop c.gate other) (omega (arith, on.gate, there, left)) tail_same (length (drop c.gate other)) m (omega arith) (omega (arith, left, le))
                ∙ ap (content_from version m n p d) (drop-drop on.size c.gate other ∙ ap (λ (k : ℕ). drop k other) (sym on.gate)),
          );
    }

no_break : (v : Version) (a b : Area) (k : ℕ) (c : Content) → Broken a k ≡ active_in v b c → ⊥
no_break One a b k c e = absurd cc
no_break Two a b k c e = absurd cc

no_blank : (v : Version) (a : Area) (c : Content) → Unformatted ≡ active_in v a c → ⊥
no_blank One a c e = absurd cc
no_blank Two a c e = absurd cc

pub active_is : (v w : Version) (a b : Area) (r : Result Content ℕ) (c : Content) → active v a r ≡ active_in w b c → (v ≡ w) × (a ≡ b) × (r ≡ Ok c)
active_is One One a b (Ok d) c e = let same : a ≡ b = cc in let content : d ≡ c = cc in (refl, same, ap (λ (x : Content). Ok x) content)
active_is One Two a b (Ok d) c e = absurd cc
active_is Two One a b (Ok d) c e = absurd cc
active_is Two Two a b (Ok d) c e = let same : a ≡ b = cc in let content : d ≡ c = cc in (refl, same, ap (λ (x : Content). Ok x) content)
active_is One w a b (Err k) c e = absurd (no_break w a b k c e)
active_is Two w a b (Err k) c e = absurd (no_break w a b k c e)

-- how the active area begins, of this version, and that it stays active if it still begins so
pub record IsActive (version : Version) (n p : ℕ) (images : Images) (area : Area) (d : Content) : Type 0 where
  pub begin : Content
  pub rest : List ℕ
  pub front : front_of n p (image_of images area) ≡ Begins version begin rest
  pub content : content_behind version n p begin rest ≡ Ok d
  pub again : (other more : List ℕ) → front_of n p other ≡ Begins version begin more → found n p (with_image images area other).of_first (with_image images area other).of_second ≡ active version area (content_behind version n p begin more)

first_active : (version : Version) (n p : ℕ) (first second : List ℕ) (d : Content) → found n p first second ≡ active_in version First d → IsActive version n p (record { of_first = first; of_second = second }) First d
unfolding found
first_active version n p first second d e = by_fronts (front_of n p first) (front_of n p second) refl refl e
  where
    of_version : (v : Version) (r : Result Content ℕ) → active v First r ≡ active_in version First d → IsActive v n p (record { of_first = first; of_second = second }) First d → IsActive version n p (record { of_first = first; of_second = second }) First d
    of_version v r now is = subst (λ (u : Version). IsActive u n p (record { of_first = first; of_second = second }) First d) (active_is v version First First r d now).0 is

    not_second : (w : Version) (r : Result Content ℕ) → active w Second r ≡ active_in version First d → ⊥
    not_second w r now = let other : Second ≡ First = (active_is w version Second First r d now).1 in absurd cc

    by_epoch : (v w : Version) (b x : Content) (rest_1 rest_2 : List ℕ) (same older : Bool) → eqb b.epoch x.epoch ≡ same → ltb x.epoch b.epoch ≡ older → front_of n p first ≡ Begins v b rest_1 → front_of n p second ≡ Begins w x rest_2
        → cond same (Broken Second 0) (cond older (active v First (content_behind v n p b rest_1)) (active w Second (content_behind w n p x rest_2))) ≡ active_in version First d → IsActive version n p (record { of_first = first; of_second = second }) First d
    by_epoch v w b x rest_1 rest_2 true older same is one two now = absurd (no_break version Second First 0 d now)
    by_epoch v w b x rest_1 rest_2 false false same is one two now = absurd (not_second w _ now)
    by_epoch v w b x rest_1 rest_2 false true same is one two now = of_version v (content_behind v n p b rest_1) now (record {
      begin = b;
      rest = rest_1;
      front = one;
      content = (active_is v version First First _ d now).2;
      again = λ other more begins. ap (λ (f : Front). found_by n p f (front_of n p second)) begins ∙ ap (λ (f : Front). found_by n p (Begins v b more) f) two ∙ rw (same, is) refl;
    })

    by_fronts : (one two : Front) → front_of n p first ≡ one → front_of n p second ≡ two → found_by n p one two ≡ active_in version First d → IsActive version n p (record { of_first = first; of_second = second }) First d
    by_fronts Faulty two is_1 is_2 now = absurd (no_break version First First 0 d now)
    by_fronts Blank Faulty is_1 is_2 now = absurd (no_break version Second First 0 d now)
    by_fronts Blank Blank is_1 is_2 now = absurd (no_blank version First d now)
    by_fronts Blank (Begins w x rest_2) is_1 is_2 now = absurd (not_second w _ now)
    by_fronts (Begins v b rest_1) Faulty is_1 is_2 now = absurd (no_break version Second First 0 d now)
    by_fronts (Begins v b rest_1) Blank is_1 is_2 now = of_version v (content_behind v n p b rest_1) now (record {
      begin = b;
      rest = rest_1;
      front = is_1;
      content = (active_is v version First First _ d now).2;
      again = λ other more begins. ap (λ (f : Front). found_by n p f (front_of n p second)) begins ∙ ap (λ (f : Front). found_by n p (Begins v b more) f) is_2;
    })
    by_fronts (Begins v b rest_1) (Begins w x rest_2) is_1 is_2 now = by_epoch v w b x rest_1 rest_2 (eqb b.epoch x.epoch) (ltb x.epoch b.epoch) refl refl is_1 is_2 now

second_active : (version : Version) (n p : ℕ) (first second : List ℕ) (d : Content) → found n p first second ≡ active_in version Second d → IsActive version n p (record { of_first = first; of_second = second }) Second d
unfolding found
second_active version n p first second d e = by_fronts (front_of n p first) (front_of n p second) refl refl e
  where
    of_version : (v : Version) (r : Result Content ℕ) → active v Second r ≡ active_in version Second d → IsActive v n p (record { of_first = first; of_second = second }) Second d → IsActive version n p (record { of_first = first; of_second = second }) Second d
    of_version v r now is = subst (λ (u : Version). IsActive u n p (record { of_first = first; of_second = second }) Second d) (active_is v version Second Second r d now).0 is

    not_first : (v : Version) (r : Result Content ℕ) → active v First r ≡ active_in version Second d → ⊥
    not_first v r now = let other : First ≡ Second = (active_is v version First Second r d now).1 in absurd cc

    by_epoch : (v w : Version) (b x : Content) (rest_1 rest_2 : List ℕ) (same older : Bool) → eqb b.epoch x.epoch ≡ same → ltb x.epoch b.epoch ≡ older → front_of n p first ≡ Begins v b rest_1 → front_of n p second ≡ Begins w x rest_2
        → cond same (Broken Second 0) (cond older (active v First (content_behind v n p b rest_1)) (active w Second (content_behind w n p x rest_2))) ≡ active_in version Second d → IsActive version n p (record { of_first = first; of_second = second }) Second d
    by_epoch v w b x rest_1 rest_2 true older same is one two now = absurd (no_break version Second Second 0 d now)
    by_epoch v w b x rest_1 rest_2 false true same is one two now = absurd (not_first v _ now)
    by_epoch v w b x rest_1 rest_2 false false same is one two now = of_version w (content_behind w n p x rest_2) now (record {
      begin = x;
      rest = rest_2;
      front = two;
      content = (active_is w version Second Second _ d now).2;
      again = λ other more begins. ap (λ (f : Front). found_by n p (front_of n p first) f) begins ∙ ap (λ (f : Front). found_by n p f (Begins w x more)) one ∙ rw (same, is) refl;
    })

    by_fronts : (one two : Front) → front_of n p first ≡ one → front_of n p second ≡ two → found_by n p one two ≡ active_in version Second d → IsActive version n p (record { of_first = first; of_second = second }) Second d
    by_fronts Faulty two is_1 is_2 now = absurd (no_break version First Second 0 d now)
    by_fronts Blank Faulty is_1 is_2 now = absurd (no_break version Second Second 0 d now)
    by_fronts Blank Blank is_1 is_2 now = absurd (no_blank version Second d now)
    by_fronts Blank (Begins w x rest_2) is_1 is_2 now = of_version w (content_behind w n p x rest_2) now (record {
      begin = x;
      rest = rest_2;
      front = is_2;
      content = (active_is w version Second Second _ d now).2;
      again = λ other more begins. ap (λ (f : Front). found_by n p (front_of n p first) f) begins ∙ ap (λ (f : Front). found_by n p f (Begins w x more)) is_1;
    })
    by_fronts (Begins v b rest_1) Faulty is_1 is_2 now = absurd (no_break version Second Second 0 d now)
    by_fronts (Begins v b rest_1) Blank is_1 is_2 now = absurd (not_first v _ now)
    by_fronts (Begins v b rest_1) (Begins w x rest_2) is_1 is_2 now = by_epoch v w b x rest_1 rest_2 (eqb b.epoch x.epoch) (ltb x.epoch b.epoch) refl refl is_1 is_2 now

pub is_active : (version : Version) (n p : ℕ) (images : Images) (area : Area) (d : Content) → found n p images.of_first images.of_second ≡ active_in version area d → IsActive version n p images area d
is_active version n p images First d e = first_active version n p images.of_first images.of_second d e
is_active version n p images Second d e = second_active version n p images.of_first images.of_second d e

-- the active area's last gate is within it and closed, and with other bytes that begin so both areas stand for its content and what stands behind the gate
pub record IsFound (n p : ℕ) (images : Images) (area : Area) (d : Content) : Type 0 where
  pub there : d.gate < length (image_of images area)
  pub closed : get_or (image_of images area) d.gate 0 ≢ 165
  pub again : (other : List ℕ) → d.gate < length other → take d.gate other ≡ take d.gate (image_of images area) → (m : ℕ) → length other ≤ m
      → found n p (with_image images area other).of_first (with_image images area other).of_second ≡ active Two area (content_from Two m n p d (drop d.gate other))

pub is_found : (n p : ℕ) (images : Images) (area : Area) (d : Content) → found n p images.of_first images.of_second ≡ Active area d → IsFound n p images area d
is_found n p images area d e =
    let is = is_active Two n p images area d e in
    let read = area_read Two n p is.begin d (image_of images area) is.rest is.front is.content in
    record {
      there = read.there;
      closed = read.closed;
      again = λ other there same m le.
          let both = read.again other there same m le in
          is.again other (drop is.begin.gate other) both.0 ∙ ap (active Two area) both.1;
    }
