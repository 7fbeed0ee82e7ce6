-- What an opening finds is a promise that a snapshot of the node can hold.
use Rattle.std.proofs.Common.{◌≡◌, ℕ, zero, suc, ◌+◌, ◌<◌, Bool, true, false, cond, eqb, leb, ltb, ◌&&◌, List, [], ◌∷◌, length, drop, Option, None, Some, Result, Ok, Err, refl, ap, subst, ◌∙◌, arith}
use Rattle.std.specs.List.{list_all}
use Rattle.std.proofs.lemmas.Bool.{and_parts, and_from, eqb-true}
use Rattle.rr_types.specs.declared.fact.Fact.{Fact}
use Rattle.rr_types.specs.declared.fact.Fact.TheVariants.{Enter, Propose, Adopt, Decide}
use Rattle.rr_types.specs.declared.promise.Standing.{Standing}
use Rattle.rr_types.specs.declared.promise.Standing.TheVariants.{Decided, Open}
use Rattle.rr_types.specs.declared.promise.Entry.{Entry}
use Rattle.rr_types.specs.Facts.{instance_of, after_fact}
use Rattle.rr_types.specs.Rounds.{coordinator_of}
use Rattle.rr_types.specs.Promises.{standing_in, set_entry, set_standing, take_on, take_on_all, all_fit}
use Rattle.rr_types.specs.Standings.{fits}
use Rattle.rr_types.specs.Groups.{Grouped}
use Rattle.rr_disk.specs.declared.area.Area.{Area}
use Rattle.rr_frame.specs.declared.version.Version.{Version}
use Rattle.rr_frame.specs.Reading.{if_lawful, number_at}
use Rattle.rr_frame.specs.GroupFormat.{group_in}
use Rattle.rr_frame.specs.Snapshots.{Snapped, IsSnapshot, IsContents, proposes_lawfully}
use Rattle.rr_frame.specs.SnapshotFormat.{owner_at, contents_at, snapshot_at, snapshot_in}
use Rattle.rr_frame.proofs.FactLaws.{at_end_ok}
use Rattle.rr_frame.proofs.FieldLaws.{bind_ok, ok_is}
use Rattle.rr_frame.proofs.SnapshotShapes.{contents_stand}
use Rattle.rr_journal.specs.Moments.{image_of}
use Rattle.rr_journal.specs.Image.{Content, Blank, Faulty, Begins, frame_behind, with_group, after_payload, after_frame, content_from, is_formatted, of_node, front_behind, front_of, content_behind, active_in, found}
use Rattle.rr_journal.proofs.FoundLaws.{is_active}
use Rattle.rr_journal.proofs.ReadingLaws.{after_parts}

-- a standing of node p of n, if there is one, in which the node proposes lawfully
abbrev may_stand : ℕ → ℕ → Option Standing → Bool
may_stand n p None = true
may_stand n p (Some s) = proposes_lawfully n p s

abbrev pub all_stand : ℕ → ℕ → List Entry → Bool
all_stand n p es = list_all (λ (e : Entry). proposes_lawfully n p e.standing) es

stands_in : (n p i : ℕ) (es : List Entry) → all_stand n p es ≡ true → may_stand n p (standing_in es i) ≡ true
stands_in n p i [] h = refl
stands_in n p i (e ∷ es) h = let both = and_parts (proposes_lawfully n p e.standing) (all_stand n p es) h in by both.0 (stands_in n p i es both.1) (eqb e.instance i)
  where
    by : proposes_lawfully n p e.standing ≡ true → may_stand n p (standing_in es i) ≡ true → (same : Bool) → may_stand n p (cond same (Some e.standing) (standing_in es i)) ≡ true
    by own others true = own
    by own others false = others

-- a fact that fits leaves such a standing
fact_stands : (n p : ℕ) (s : Option Standing) (f : Fact) → fits n p s f ≡ true → may_stand n p s ≡ true → may_stand n p (after_fact s f) ≡ true
fact_stands n p s (Enter i e) fit h = refl
fact_stands n p None (Propose i r v) fit h = refl
fact_stands n p (Some (Decided w)) (Propose i r v) fit h = refl
fact_stands n p (Some (Open o)) (Propose i r v) fit h =
    let first = and_parts (eqb o.round r && eqb (coordinator_of r n) p) _ fit in
    let second = and_parts (eqb o.round r) (eqb (coordinator_of r n) p) first.0 in
    ap (λ (k : ℕ). eqb (coordinator_of k n) p) (eqb-true _ _ second.0) ∙ second.1
fact_stands n p None (Adopt i r v) fit h = refl
fact_stands n p (Some (Decided w)) (Adopt i r v) fit h = refl
fact_stands n p (Some (Open o)) (Adopt i r v) fit h = h
fact_stands n p s (Decide i v) fit h = refl

set_stands : (n p i : ℕ) (s : Standing) (es : List Entry) → proposes_lawfully n p s ≡ true → all_stand n p es ≡ true → all_stand n p (set_entry i s es) ≡ true
set_stands n p i s [] own h = and_from _ _ own refl
set_stands n p i s (e ∷ es) own h =
    let both = and_parts (proposes_lawfully n p e.standing) (all_stand n p es) h in
    by both.0 both.1 (set_stands n p i s es own both.1) (ltb i e.instance) (eqb i e.instance)
  where
    by : proposes_lawfully n p e.standing ≡ true → all_stand n p es ≡ true → all_stand n p (set_entry i s es) ≡ true → (below same : Bool)
        → all_stand n p (cond below (record { instance = i; standing = s } ∷ e ∷ es) (cond same (record { instance = i; standing = s } ∷ es) (e ∷ set_entry i s es))) ≡ true
    by first others set true same = and_from _ _ own h
    by first others set false true = and_from _ _ own others
    by first others set false false = and_from _ _ first set

standing_set : (n p i : ℕ) (s : Option Standing) (es : List Entry) → may_stand n p s ≡ true → all_stand n p es ≡ true → all_stand n p (set_standing i s es) ≡ true
standing_set n p i None es own h = h
standing_set n p i (Some s) es own h = set_stands n p i s es own h

-- and so do facts that fit one after another
pub facts_stand : (n p : ℕ) (es : List Entry) (fs : List Fact) → all_fit n p es fs ≡ true → all_stand n p es ≡ true → all_stand n p (take_on_all es fs) ≡ true
facts_stand n p es [] fit h = h
facts_stand n p es (f ∷ fs) fit h =
    let both = and_parts (fits n p (standing_in es (instance_of f)) f) (all_fit n p (take_on es f) fs) fit in
    facts_stand n p (take_on es f) fs both.1
    (standing_set n p (instance_of f) (after_fact (standing_in es (instance_of f)) f) es (fact_stands n p (standing_in es (instance_of f)) f both.0 (stands_in n p (instance_of f) es h)) h)

-- the promise of a content of node p of n, in which the node proposes lawfully, and which is empty before the first fact
pub record IsPromised (n p : ℕ) (c : Content) : Type 0 where
  pub empty : c.next ≡ 0 → c.promise ≡ []
  pub stands : all_stand n p c.promise ≡ true

pub none_taken : (next : ℕ) (es : List Entry) (fs : List Fact) → (next ≡ 0 → es ≡ []) → next + length fs ≡ 0 → take_on_all es fs ≡ []
none_taken next es [] empty start = empty (omega (arith, start))
none_taken next es (f ∷ fs) empty start = absurd (omega (arith, start))

group_promised : (version : Version) (n p : ℕ) (c d : Content) (payload : List ℕ) → IsPromised n p c → after_payload version n p c payload ≡ Some d → IsPromised n p d
group_promised version n p c d payload h e = by_group (group_in version payload) e
  where
    by_test : (g : Grouped) (t : Bool) → (eqb g.serial c.next && all_fit n p c.promise g.facts) ≡ t
        → cond t (Some (record c { promise = take_on_all c.promise g.facts; next = c.next + length g.facts; gate = c.gate + 5 + length payload })) None ≡ Some d → IsPromised n p d
    by_test g true t e =
        let same : record c { promise = take_on_all c.promise g.facts; next = c.next + length g.facts; gate = c.gate + 5 + length payload } ≡ d = cc in
        subst (IsPromised n p) same (record {
          empty = λ start. none_taken c.next c.promise g.facts h.empty start;
          stands = facts_stand n p c.promise g.facts (and_parts (eqb g.serial c.next) (all_fit n p c.promise g.facts) t).1 h.stands;
        })
    by_test g false t e = absurd cc

    by_group : (r : Result Grouped ℕ) → elim r [ Err offset ↦ None | Ok g ↦ with_group n p g (length payload) c ] ≡ Some d → IsPromised n p d
    by_group (Err k) e = absurd cc
    by_group (Ok g) e = by_test g (eqb g.serial c.next && all_fit n p c.promise g.facts) refl e

-- what is read behind a frame
abbrev read_on : (version : Version) → ℕ → ℕ → ℕ → Content → Option (Content × List ℕ) → Result Content ℕ
read_on version k n p c r = elim r [ None ↦ Err c.gate | Some d ↦ content_from version k n p d.0 d.1 ]

content_promised : (version : Version) (k n p : ℕ) (c d : Content) (bytes : List ℕ) → IsPromised n p c → content_from version k n p c bytes ≡ Ok d → IsPromised n p d
content_promised version k n p c d [] h e = let same : c ≡ d = cc in subst (IsPromised n p) same h
content_promised version zero n p c d (g ∷ bytes) h e = let same : c ≡ d = cc in subst (IsPromised n p) same h
content_promised version (suc k) n p c d (g ∷ bytes) h e = by_gate (eqb g 165) refl (λ mid rest. content_promised version k n p mid d rest)
  where
    by_frame : (r : Option (Content × List ℕ)) → after_frame version n p c bytes ≡ r → ((mid : Content) (rest : List ℕ) → IsPromised n p mid → content_from version k n p mid rest ≡ Ok d → IsPromised n p d)
        → read_on version k n p c r ≡ Ok d → IsPromised n p d
    by_frame None is on now = absurd cc
    by_frame (Some x) is on now = let parts = after_parts version n p c bytes x is in on x.0 x.1 (group_promised version n p c x.0 parts.0 h parts.2) now

    by_gate : (t : Bool) → eqb g 165 ≡ t → ((mid : Content) (rest : List ℕ) → IsPromised n p mid → content_from version k n p mid rest ≡ Ok d → IsPromised n p d) → IsPromised n p d
    by_gate false shut on =
        let ends : content_from version (suc k) n p c (g ∷ bytes) ≡ Ok c = rw shut refl in
        let same : c ≡ d = cc in
        subst (IsPromised n p) same h
    by_gate true open_gate on = by_frame (after_frame version n p c bytes) refl on (rw open_gate at e)

-- a snapshot that is read keeps it
read_promised : (bytes : List ℕ) (version : Version) (s : Snapped) → snapshot_in bytes ≡ Ok (version, s) → IsContents s.nodes s.node s.next s.entries
unfolding snapshot_in snapshot_at
read_promised bytes version s e =
    let whole = at_end_ok (length bytes) (snapshot_at bytes) (version, s) e in
    let o = bind_ok (owner_at bytes) _ ((version, s), []) whole in
    let a = bind_ok (number_at 8 o.0.1) _ ((version, s), []) o.2 in
    let b = bind_ok (if_lawful (leb 1 a.0.0) o.0.1 a.0) _ ((version, s), []) a.2 in
    let d = bind_ok (contents_at o.0.0.0 o.0.0.2 o.0.0.1 b.0.1) _ ((version, s), []) b.2 in
    let made : (Version × Snapped) × List ℕ = ((o.0.0.0, record { node = o.0.0.1; nodes = o.0.0.2; epoch = b.0.0; next = d.0.0.0; entries = d.0.0.1 }), d.0.1) in
    subst (λ (z : (Version × Snapped) × List ℕ). IsContents z.0.1.nodes z.0.1.node z.0.1.next z.0.1.entries) {x = made} (ok_is made ((version, s), []) d.2) (contents_stand o.0.0.0 o.0.0.2 o.0.0.1 b.0.1 d.0 d.1)

-- and so does the content that it begins
begins_promised : (version : Version) (n p : ℕ) (c : Content) (bytes rest : List ℕ) → front_of n p bytes ≡ Begins version c rest → IsPromised n p c
begins_promised version n p c bytes rest e = by_test (is_formatted bytes) e
  where
    by_own : (payload behind : List ℕ) (other : Version) (s : Snapped) (t : Bool) → (eqb s.node p && eqb s.nodes n) ≡ t → snapshot_in payload ≡ Ok (other, s)
        → cond t (Begins other (record { epoch = s.epoch; promise = s.entries; next = s.next; gate = 5 + length payload }) behind) Faulty ≡ Begins version c rest → IsPromised n p c
    by_own payload behind other s false own spelt now = absurd cc
    by_own payload behind other s true own spelt now =
        let both = and_parts (eqb s.node p) (eqb s.nodes n) own in
        let read = read_promised payload other s spelt in
        let made : record { epoch = s.epoch; promise = s.entries; next = s.next; gate = 5 + length payload } ≡ c = cc in
        let stands : all_stand n p s.entries ≡ true = subst (λ (k : ℕ). all_stand k p s.entries ≡ true) (eqb-true _ _ both.1) (subst (λ (k : ℕ). all_stand s.nodes k s.entries ≡ true) (eqb-true _ _ both.0) read.proposals) in
        subst (IsPromised n p) made (record { empty = read.empty; stands = stands })

    by_snapshot : (payload behind : List ℕ) (r : Result (Version × Snapped) ℕ) → snapshot_in payload ≡ r → elim r [ Err offset ↦ Faulty | Ok x ↦ of_node n p x.0 x.1 (length payload) behind ] ≡ Begins version c rest → IsPromised n p c
    by_snapshot payload behind (Err offset) spelt now = absurd cc
    by_snapshot payload behind (Ok (other, s)) spelt now = by_own payload behind other s (eqb s.node p && eqb s.nodes n) refl spelt now

    by_frame : (f : Option (List ℕ × List ℕ)) → front_behind n p f ≡ Begins version c rest → IsPromised n p c
    by_frame None now = absurd cc
    by_frame (Some x) now = by_snapshot x.0 x.1 (snapshot_in x.0) refl now

    by_test : (t : Bool) → cond t (front_behind n p (frame_behind (drop 1 bytes))) Blank ≡ Begins version c rest → IsPromised n p c
    by_test false now = absurd cc
    by_test true now = by_frame (frame_behind (drop 1 bytes)) now

-- so the content of an active area is such
pub found_promised : (version : Version) (n p : ℕ) (first second : List ℕ) (area : Area) (c : Content) → found n p first second ≡ active_in version area c → IsPromised n p c
unfolding content_behind
found_promised version n p first second area c is =
    let a = is_active version n p (record { of_first = first; of_second = second }) area c is in
    content_promised version (length a.rest) n p a.begin c a.rest (begins_promised version n p a.begin (image_of (record { of_first = first; of_second = second }) area) a.rest a.front) a.content

-- of one of the nodes: a snapshot can hold it
pub promised_snapshot : (n p epoch : ℕ) (c : Content) → p < n → IsPromised n p c → IsSnapshot (record { node = p; nodes = n; epoch = epoch + 1; next = c.next; entries = c.promise })
promised_snapshot n p epoch c exists h = record { node = exists; epoch = omega arith; empty = h.empty; proposals = h.stands }
