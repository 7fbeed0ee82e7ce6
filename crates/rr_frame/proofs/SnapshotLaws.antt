-- A snapshot that is read is the snapshot that was written, and what was written is read again.
use Rattle.std.proofs.Common.{◌≡◌, ℕ, zero, suc, ◌+◌, ◌-◌, ◌^◌, ◌<◌, ◌≤◌, Bool, true, eqb, leb, ltb, ◌&&◌, ◌||◌, List, [], ◌∷◌, ◌++◌, length, Option, None, Some, Result, Ok, Err, refl, sym, ap, subst, ◌∙◌, append_assoc, arith, inl, inr}
use Rattle.std.specs.Prelude.{IfSome, IfOk}
use Rattle.std.specs.List.{flat_map, AllByRecursion}
use Rattle.std.proofs.lemmas.List.{append-nil, nil_from_length}
use Rattle.std.proofs.lemmas.List.Concat.{flat_map-cons}
use Rattle.std.proofs.lemmas.Bool.{and_parts, and_from, or_cases, or_left, or_right, leb-true, le-leb, ltb-true, lt-ltb, eqb-true, eq-eqb, eqb-false}
use Rattle.rr_types.specs.declared.command.Command.{Command}
use Rattle.rr_types.specs.declared.promise.Standing.{Standing}
use Rattle.rr_types.specs.declared.promise.Standing.TheVariants.{Decided, Open}
use Rattle.rr_types.specs.declared.promise.Entry.{Entry}
use Rattle.rr_types.specs.declared.refusal.Refusal.{Refusal}
use Rattle.rr_types.specs.Promises.{AscendsFrom}
use Rattle.rr_types.specs.Rounds.{OpenAt, coordinator_of}
use Rattle.rr_frame.specs.declared.stop.Stop.{Stop}
use Rattle.rr_frame.specs.declared.stop.Stop.TheVariants as stops
use Rattle.rr_frame.specs.Numbers.{number_bytes}
use Rattle.rr_frame.specs.declared.version.Version.{Version}
use Rattle.rr_frame.specs.Versions.{version_number, instances, version_at}
use Rattle.rr_frame.specs.Reading.{Reading, ◌>>=◌, StopsAs, Decodes}
use Rattle.rr_frame.specs.CommandFormat.{command_bytes, IsLawfulCommandIn, command_at}
use Rattle.rr_frame.specs.FactFormat.{round_at}
use Rattle.rr_frame.specs.Snapshots.{Snapped}
use Rattle.rr_frame.specs.SnapshotFormat.{proposal_bytes, open_bytes, standing_bytes, entry_bytes, owner_bytes, contents_bytes, snapshot_bytes_in, IsLawfulOpenIn, IsLawfulStandingIn, IsLawfulEntryIn, IsLawfulSnapshotIn, proposal_at, open_at, standing_at, entry_at, entries_at, owner_at, contents_at, snapshot_at, snapshot_in}
use Rattle.rr_frame.proofs.VersionLaws.{instances_at_most, version_takes, version_again}
use Rattle.rr_frame.proofs.FieldLaws.{IsBytes, bind_ok, ok_is, Takes, Takes-then, plain_takes, plain_again, checked_takes, checked_again}
use Rattle.rr_frame.proofs.Loops.{with_front, with_front-push}
use Rattle.rr_frame.proofs.CommandLaws.{chosen, command_takes, command_again}
use Rattle.rr_frame.proofs.FactLaws.{round_takes, round_again, at_end_ok}

-- a proposal that may stand behind its flag
abbrev pub MayStand : (version : Version) → Bool → Option Command → Type 0
MayStand version coordinates p = IfSome p (λ v. (coordinates ≡ true) × IsLawfulCommandIn version v)

abbrev pub flag_passes : Bool → ℕ → Bool
flag_passes coordinates f = eqb f 0 || (eqb f 1 && coordinates)

pub proposal_takes : (version : Version) (coordinates : Bool) (bytes : List ℕ) (y : Option Command × List ℕ) → IsBytes bytes → proposal_at version coordinates bytes ≡ Ok y → Takes bytes (proposal_bytes y.0) y.1 × MayStand version coordinates y.0
unfolding proposal_at
proposal_takes version coordinates bytes y fits e =
    let a = checked_takes 1 (flag_passes coordinates) bytes _ y fits e in
    elim (chosen (eqb a.0.0 0) _ _ _ a.4) [
      | inl c ↦
          let flag : a.0.0 ≡ 0 = eqb-true _ _ c.0 in
          let made : Option Command × List ℕ = (None, a.0.1) in
          let first : Takes bytes (number_bytes 1 0) a.0.1 = subst (λ (k : ℕ). Takes bytes (number_bytes 1 k) a.0.1) flag a.1 in
          subst (λ (z : Option Command × List ℕ). Takes bytes (proposal_bytes z.0) z.1 × MayStand version coordinates z.0) (ok_is made y c.1) (first, tt)
      | inr c ↦
          elim (or_cases (eqb a.0.0 0) (eqb a.0.0 1 && coordinates) a.3) [
            | inl z ↦ absurd (eqb-false _ _ c.0 (eqb-true _ _ z))
            | inr z ↦
                let both = and_parts (eqb a.0.0 1) coordinates z in
                let flag : a.0.0 ≡ 1 = eqb-true _ _ both.0 in
                let first : Takes bytes (number_bytes 1 1) a.0.1 = subst (λ (k : ℕ). Takes bytes (number_bytes 1 k) a.0.1) flag a.1 in
                let d = bind_ok (command_at version a.0.1) (λ (v : Command × List ℕ). Ok (Some v.0, v.1)) y c.1 in
                let v = command_takes version a.0.1 d.0 a.1.rest_fits d.1 in
                let made : Option Command × List ℕ = (Some d.0.0, d.0.1) in
                subst (λ (z : Option Command × List ℕ). Takes bytes (proposal_bytes z.0) z.1 × MayStand version coordinates z.0) (ok_is made y d.2)
                (Takes-then bytes (number_bytes 1 1) a.0.1 (command_bytes d.0.0) d.0.1 first v.0, (both.1, v.1))
          ]
    ]

pub proposal_again : (version : Version) (coordinates : Bool) (p : Option Command) (rest : List ℕ) → MayStand version coordinates p → proposal_at version coordinates (proposal_bytes p ++ rest) ≡ Ok (p, rest)
unfolding proposal_at
proposal_again version coordinates None rest h = checked_again 1 (flag_passes coordinates) 0 rest _ (omega arith) refl
proposal_again version coordinates (Some v) rest h =
    let passes : flag_passes coordinates 1 ≡ true = h.0 in
    ap (proposal_at version coordinates) (append_assoc (number_bytes 1 1) (command_bytes v) rest)
    ∙ checked_again 1 (flag_passes coordinates) 1 (command_bytes v ++ rest) _ (omega arith) passes
    ∙ rw (command_again version v rest h.1) refl

-- the coordinator alone has a proposal, by a test and as a fact
stands_at : (version : Version) (n p : ℕ) (o : OpenAt) → MayStand version (eqb (coordinator_of o.round n) p) o.proposal → IfSome o.proposal (λ v. (coordinator_of o.round n ≡ p) × IsLawfulCommandIn version v)
stands_at version n p o h = stands (o.proposal) (coordinator_of o.round n) p h
  where
    stands : (q : Option Command) (c p : ℕ) → MayStand version (eqb c p) q → IfSome q (λ v. (c ≡ p) × IsLawfulCommandIn version v)
    stands None c p h = tt
    stands (Some v) c p h = (eqb-true _ _ h.0, h.1)

may_stand_at : (version : Version) (q : Option Command) (c p : ℕ) → IfSome q (λ v. (c ≡ p) × IsLawfulCommandIn version v) → MayStand version (eqb c p) q
may_stand_at version None c p h = tt
may_stand_at version (Some v) c p h = (eq-eqb _ _ h.0, h.1)

pub open_takes : (version : Version) (n p : ℕ) (bytes : List ℕ) (y : OpenAt × List ℕ) → IsBytes bytes → open_at version n p bytes ≡ Ok y → Takes bytes (open_bytes y.0) y.1 × IsLawfulOpenIn version n p y.0
unfolding open_at open_bytes
open_takes version n p bytes y fits e =
    let a = bind_ok (round_at bytes) _ y e in
    let r = round_takes bytes a.0 fits a.1 in
    let b = checked_takes 4 (λ t. leb t a.0.0) a.0.1 _ y r.0.rest_fits a.2 in
    let d = bind_ok (command_at version b.0.1) _ y b.4 in
    let v = command_takes version b.0.1 d.0 b.1.rest_fits d.1 in
    let q = bind_ok (proposal_at version (eqb (coordinator_of a.0.0 n) p) d.0.1) _ y d.2 in
    let w = proposal_takes version (eqb (coordinator_of a.0.0 n) p) d.0.1 q.0 v.0.rest_fits q.1 in
    let o : OpenAt = record { round = a.0.0; stamp = b.0.0; estimate = d.0.0; proposal = q.0.0 } in
    let made : OpenAt × List ℕ = (record { round = a.0.0; stamp = b.0.0; estimate = d.0.0; proposal = q.0.0 }, q.0.1) in
    let t3 = Takes-then b.0.1 (command_bytes d.0.0) d.0.1 (proposal_bytes q.0.0) q.0.1 v.0 w.0 in
    let t2 = Takes-then a.0.1 (number_bytes 4 b.0.0) b.0.1 (command_bytes d.0.0 ++ proposal_bytes q.0.0) q.0.1 b.1 t3 in
    let t1 = Takes-then bytes (number_bytes 4 a.0.0) a.0.1 (number_bytes 4 b.0.0 ++ (command_bytes d.0.0 ++ proposal_bytes q.0.0)) q.0.1 r.0 t2 in
    subst (λ (z : OpenAt × List ℕ). Takes bytes (number_bytes 4 z.0.round ++ (number_bytes 4 z.0.stamp ++ (command_bytes z.0.estimate ++ proposal_bytes z.0.proposal))) z.1 × IsLawfulOpenIn version n p z.0) (ok_is made y q.2)
    (t1, record { round = r.1; stamp = leb-true _ _ b.3; estimate = v.1; proposal = stands_at version n p o w.1 })

pub open_again : (version : Version) (n p : ℕ) (o : OpenAt) (rest : List ℕ) → IsLawfulOpenIn version n p o → open_at version n p (open_bytes o ++ rest) ≡ Ok (o, rest)
unfolding open_at open_bytes
open_again version n p o rest h =
    let c : Bool = eqb (coordinator_of o.round n) p in
    let b3 : List ℕ = proposal_bytes o.proposal ++ rest in
    let b2 : List ℕ = command_bytes o.estimate ++ b3 in
    let b1 : List ℕ = number_bytes 4 o.stamp ++ b2 in
    let e3 : (command_bytes o.estimate ++ proposal_bytes o.proposal) ++ rest ≡ b2 = append_assoc (command_bytes o.estimate) (proposal_bytes o.proposal) rest in
    let e2 : (number_bytes 4 o.stamp ++ (command_bytes o.estimate ++ proposal_bytes o.proposal)) ++ rest ≡ b1 = append_assoc (number_bytes 4 o.stamp) (command_bytes o.estimate ++ proposal_bytes o.proposal) rest ∙ ap (λ (t : List ℕ). number_bytes 4 o.stamp ++ t) e3 in
    let e1 : (number_bytes 4 o.round ++ (number_bytes 4 o.stamp ++ (command_bytes o.estimate ++ proposal_bytes o.proposal))) ++ rest ≡ number_bytes 4 o.round ++ b1 = append_assoc (number_bytes 4 o.round) (number_bytes 4 o.stamp ++ (command_bytes o.estimate ++ proposal_bytes o.proposal)) rest ∙ ap (λ (t : List ℕ). number_bytes 4 o.round ++ t) e2 in
    let high = h.round.1 in
    let below = h.stamp in
    ap (open_at version n p) e1
    ∙ rw (round_again o.round b1 h.round) (checked_again 4 (λ t. leb t o.round) o.stamp b2 _ (omega arith) (le-leb _ _ h.stamp) ∙ rw (command_again version o.estimate b3 h.estimate, proposal_again version c o.proposal rest (may_stand_at version o.proposal (coordinator_of o.round n) p h.proposal)) refl)

abbrev pub kind_passes : ℕ → Bool
kind_passes k = eqb k 1 || eqb k 2

pub standing_takes : (version : Version) (n p : ℕ) (bytes : List ℕ) (y : Standing × List ℕ) → IsBytes bytes → standing_at version n p bytes ≡ Ok y → Takes bytes (standing_bytes y.0) y.1 × IsLawfulStandingIn version n p y.0
unfolding standing_at standing_bytes
standing_takes version n p bytes y fits e =
    let a = checked_takes 1 kind_passes bytes _ y fits e in
    elim (chosen (eqb a.0.0 1) _ _ _ a.4) [
      | inl c ↦
          let kind : a.0.0 ≡ 1 = eqb-true _ _ c.0 in
          let first : Takes bytes (number_bytes 1 1) a.0.1 = subst (λ (k : ℕ). Takes bytes (number_bytes 1 k) a.0.1) kind a.1 in
          let d = bind_ok (command_at version a.0.1) (λ (v : Command × List ℕ). Ok (Decided v.0, v.1)) y c.1 in
          let v = command_takes version a.0.1 d.0 a.1.rest_fits d.1 in
          let made : Standing × List ℕ = (Decided d.0.0, d.0.1) in
          subst (λ (z : Standing × List ℕ). Takes bytes (standing_bytes z.0) z.1 × IsLawfulStandingIn version n p z.0) (ok_is made y d.2)
          (Takes-then bytes (number_bytes 1 1) a.0.1 (command_bytes d.0.0) d.0.1 first v.0, v.1)
      | inr c ↦
          elim (or_cases (eqb a.0.0 1) (eqb a.0.0 2) a.3) [
            | inl z ↦ absurd (eqb-false _ _ c.0 (eqb-true _ _ z))
            | inr z ↦
                let kind : a.0.0 ≡ 2 = eqb-true _ _ z in
                let first : Takes bytes (number_bytes 1 2) a.0.1 = subst (λ (k : ℕ). Takes bytes (number_bytes 1 k) a.0.1) kind a.1 in
                let d = bind_ok (open_at version n p a.0.1) (λ (o : OpenAt × List ℕ). Ok (Open o.0, o.1)) y c.1 in
                let o = open_takes version n p a.0.1 d.0 a.1.rest_fits d.1 in
                let made : Standing × List ℕ = (Open d.0.0, d.0.1) in
                subst (λ (z : Standing × List ℕ). Takes bytes (standing_bytes z.0) z.1 × IsLawfulStandingIn version n p z.0) (ok_is made y d.2)
                (Takes-then bytes (number_bytes 1 2) a.0.1 (open_bytes d.0.0) d.0.1 first o.0, o.1)
          ]
    ]

pub standing_again : (version : Version) (n p : ℕ) (s : Standing) (rest : List ℕ) → IsLawfulStandingIn version n p s → standing_at version n p (standing_bytes s ++ rest) ≡ Ok (s, rest)
unfolding standing_at standing_bytes
standing_again version n p (Decided v) rest h =
    ap (standing_at version n p) (append_assoc (number_bytes 1 1) (command_bytes v) rest)
    ∙ checked_again 1 kind_passes 1 (command_bytes v ++ rest) _ (omega arith) refl
    ∙ rw (command_again version v rest h) refl
standing_again version n p (Open o) rest h =
    ap (standing_at version n p) (append_assoc (number_bytes 1 2) (open_bytes o) rest)
    ∙ checked_again 1 kind_passes 2 (open_bytes o ++ rest) _ (omega arith) refl
    ∙ rw (open_again version n p o rest h) refl

abbrev pub instance_passes : (version : Version) → ℕ → ℕ → Bool
instance_passes version low i = leb low i && ltb i (instances version)

pub entry_takes : (version : Version) (n p low : ℕ) (bytes : List ℕ) (y : Entry × List ℕ) → IsBytes bytes → entry_at version n p low bytes ≡ Ok y → Takes bytes (entry_bytes y.0) y.1 × IsLawfulEntryIn version n p y.0 × (low ≤ y.0.instance)
unfolding entry_at entry_bytes
entry_takes version n p low bytes y fits e =
    let a = checked_takes 4 (instance_passes version low) bytes _ y fits e in
    let d = bind_ok (standing_at version n p a.0.1) _ y a.4 in
    let s = standing_takes version n p a.0.1 d.0 a.1.rest_fits d.1 in
    let range = and_parts (leb low a.0.0) (ltb a.0.0 (instances version)) a.3 in
    let made : Entry × List ℕ = (record { instance = a.0.0; standing = d.0.0 }, d.0.1) in
    subst (λ (z : Entry × List ℕ). Takes bytes (number_bytes 4 z.0.instance ++ standing_bytes z.0.standing) z.1 × IsLawfulEntryIn version n p z.0 × (low ≤ z.0.instance)) (ok_is made y d.2)
    (Takes-then bytes (number_bytes 4 a.0.0) a.0.1 (standing_bytes d.0.0) d.0.1 a.1 s.0, record { instance = ltb-true _ _ range.1; standing = s.1 }, leb-true _ _ range.0)

pub entry_again : (version : Version) (n p low : ℕ) (x : Entry) (rest : List ℕ) → IsLawfulEntryIn version n p x → low ≤ x.instance → entry_at version n p low (entry_bytes x ++ rest) ≡ Ok (x, rest)
unfolding entry_at entry_bytes
entry_again version n p low x rest h le =
    let below = h.instance in
    let passes : instance_passes version low x.instance ≡ true = and_from _ _ (le-leb _ _ le) (lt-ltb _ _ h.instance) in
    ap (entry_at version n p low) (append_assoc (number_bytes 4 x.instance) (standing_bytes x.standing) rest)
    ∙ checked_again 4 (instance_passes version low) x.instance (standing_bytes x.standing ++ rest) _ (omega (arith, below, instances_at_most version)) passes
    ∙ rw (standing_again version n p x.standing rest h.standing) refl

-- what a reader of entries took
pub record TakesEntries (version : Version) (n p low k : ℕ) (bytes : List ℕ) (es : List Entry) (rest : List ℕ) : Type 0 where
  pub taken : Takes bytes (flat_map entry_bytes es) rest
  pub count : length es ≡ k
  pub lawful : AllByRecursion (IsLawfulEntryIn version n p) es
  pub ascending : AscendsFrom low es

pub entries_take : (version : Version) (n p low k : ℕ) (bytes : List ℕ) (x : List Entry × List ℕ) → IsBytes bytes → entries_at version n p low k bytes ≡ Ok x → TakesEntries version n p low k bytes x.0 x.1
unfolding entries_at
entries_take version n p low zero bytes x fits e =
    subst (λ (y : List Entry × List ℕ). TakesEntries version n p low 0 bytes y.0 y.1) (ok_is ([], bytes) x e) (record { taken = record { parts = refl; rest_fits = fits }; count = refl; lawful = tt; ascending = tt })
entries_take version n p low (suc k) bytes x fits e =
    let a = bind_ok (entry_at version n p low bytes) (λ first. entries_at version n p (first.0.instance + 1) k first.1 >>= λ others. Ok (first.0 ∷ others.0, others.1)) x e in
    let b = bind_ok (entries_at version n p (a.0.0.instance + 1) k a.0.1) (λ others. Ok (a.0.0 ∷ others.0, others.1)) x a.2 in
    let first = entry_takes version n p low bytes a.0 fits a.1 in
    let second = entries_take version n p (a.0.0.instance + 1) k a.0.1 b.0 first.0.rest_fits b.1 in
    let both = Takes-then bytes (entry_bytes a.0.0) a.0.1 (flat_map entry_bytes b.0.0) b.0.1 first.0 second.taken in
    let made : List Entry × List ℕ = (a.0.0 ∷ b.0.0, b.0.1) in
    subst (λ (y : List Entry × List ℕ). TakesEntries version n p low (suc k) bytes y.0 y.1) (ok_is made x b.2) (record { taken = rw flat_map-cons both; count = ap suc second.count; lawful = (first.1, second.lawful); ascending = (omega (arith, first.2), second.ascending) })

pub entries_again : (version : Version) (n p low : ℕ) (es : List Entry) (rest : List ℕ) → AllByRecursion (IsLawfulEntryIn version n p) es → AscendsFrom low es → entries_at version n p low (length es) (flat_map entry_bytes es ++ rest) ≡ Ok (es, rest)
unfolding entries_at
entries_again version n p low [] rest fits up = refl
entries_again version n p low (x ∷ xs) rest fits up =
    let regrouped : flat_map entry_bytes (x ∷ xs) ++ rest ≡ entry_bytes x ++ (flat_map entry_bytes xs ++ rest) = ap (λ (t : List ℕ). t ++ rest) (flat_map-cons entry_bytes x xs) ∙ append_assoc (entry_bytes x) (flat_map entry_bytes xs) rest in
    ap (entries_at version n p low (suc (length xs))) regrouped ∙ rw (entry_again version n p low x (flat_map entry_bytes xs ++ rest) fits.0 (omega (arith, up.0)), entries_again version n p (x.instance + 1) xs rest fits.1 up.1) refl

-- ---- the snapshot

abbrev pub nodes_pass : ℕ → ℕ → Bool
nodes_pass node n = ltb node n && leb n 7

abbrev pub count_passes : ℕ → ℕ → Bool
count_passes next k = eqb k 0 || leb 1 next

-- where no facts are numbered there are no entries
pub none_at_start : (next k : ℕ) (es : List Entry) → count_passes next k ≡ true → length es ≡ k → next ≡ 0 → es ≡ []
none_at_start next k es passes count zero_next = elim (or_cases (eqb k 0) (leb 1 next) passes) [
  | inl z ↦ nil_from_length es (count ∙ eqb-true _ _ z)
  | inr z ↦ let low : 1 ≤ next = leb-true _ _ z in absurd (omega arith)
]

count_may : (next : ℕ) (es : List Entry) → (next ≡ 0 → es ≡ []) → count_passes next (length es) ≡ true
count_may zero es none = or_left _ _ (eq-eqb _ _ (ap length (none refl)))
count_may (suc next) es none = or_right _ _ (le-leb 1 (suc next) (omega arith))

pub ascending_length : (version : Version) (low : ℕ) (n p : ℕ) (es : List Entry) → low ≤ 1048576 → AscendsFrom low es → AllByRecursion (IsLawfulEntryIn version n p) es → low + length es ≤ 1048576
ascending_length version low n p [] le up lawful = omega arith
ascending_length version low n p (x ∷ xs) le up lawful =
    let below : x.instance < 1048576 = omega (arith, lawful.0.instance, instances_at_most version) in
    let step = up.0 in
    let rest = ascending_length version (x.instance + 1) n p xs (omega arith) up.1 lawful.1 in
    omega arith

-- eight bytes
wide : (k : ℕ) → k < 256 ^ 8 → k < 2 ^ 64
wide k h = omega arith

pub owner_takes : (bytes : List ℕ) (y : (Version × ℕ × ℕ) × List ℕ) → IsBytes bytes → owner_at bytes ≡ Ok y → Takes bytes (owner_bytes y.0.0 y.0.1 y.0.2) y.1 × (y.0.1 < y.0.2) × (y.0.2 ≤ 7)
unfolding owner_at owner_bytes
owner_takes bytes y fits e =
    let v = bind_ok (version_at bytes) _ y e in
    let first = version_takes bytes v.0 fits v.1 in
    let p = checked_takes 1 (λ k. ltb k 7) v.0.1 _ y first.rest_fits v.2 in
    let n = checked_takes 1 (nodes_pass p.0.0) p.0.1 _ y p.1.rest_fits p.4 in
    let nodes = and_parts (ltb p.0.0 n.0.0) (leb n.0.0 7) n.3 in
    let made : (Version × ℕ × ℕ) × List ℕ = ((v.0.0, p.0.0, n.0.0), n.0.1) in
    let t1 = Takes-then v.0.1 (number_bytes 1 p.0.0) p.0.1 (number_bytes 1 n.0.0) n.0.1 p.1 n.1 in
    let t0 = Takes-then bytes (number_bytes 1 (version_number v.0.0)) v.0.1 (number_bytes 1 p.0.0 ++ number_bytes 1 n.0.0) n.0.1 first t1 in
    subst (λ (z : (Version × ℕ × ℕ) × List ℕ). Takes bytes (number_bytes 1 (version_number z.0.0) ++ (number_bytes 1 z.0.1 ++ number_bytes 1 z.0.2)) z.1 × (z.0.1 < z.0.2) × (z.0.2 ≤ 7)) {x = made} (ok_is made y n.4) (t0, ltb-true _ _ nodes.0, leb-true _ _ nodes.1)

pub owner_again : (version : Version) (node nodes : ℕ) (rest : List ℕ) → node < nodes → nodes ≤ 7 → owner_at (owner_bytes version node nodes ++ rest) ≡ Ok ((version, node, nodes), rest)
unfolding owner_at owner_bytes
owner_again version node nodes rest below seven =
    let front : List ℕ = number_bytes 1 (version_number version) in
    let b1 : List ℕ = number_bytes 1 nodes ++ rest in
    let b0 : List ℕ = number_bytes 1 node ++ b1 in
    let e0 : (number_bytes 1 node ++ number_bytes 1 nodes) ++ rest ≡ b0 = append_assoc (number_bytes 1 node) (number_bytes 1 nodes) rest in
    let e : (front ++ (number_bytes 1 node ++ number_bytes 1 nodes)) ++ rest ≡ front ++ b0 = append_assoc front (number_bytes 1 node ++ number_bytes 1 nodes) rest ∙ ap (λ (t : List ℕ). front ++ t) e0 in
    let nodes_are : nodes_pass node nodes ≡ true = and_from _ _ (lt-ltb _ _ below) (le-leb _ _ seven) in
    ap owner_at e
    ∙ rw (version_again version b0) (
    checked_again 1 (λ k. ltb k 7) node b1 _ (omega arith) (lt-ltb _ _ (omega arith))
    ∙ checked_again 1 (nodes_pass node) nodes rest _ (omega arith) nodes_are
    )

-- what a reader of next fact number and entries took
pub record TakesContents (version : Version) (n p : ℕ) (bytes : List ℕ) (next : ℕ) (es : List Entry) (rest : List ℕ) : Type 0 where
  pub taken : Takes bytes (contents_bytes next es) rest
  pub small : next < 2 ^ 64
  pub empty : next ≡ 0 → es ≡ []
  pub lawful : AllByRecursion (IsLawfulEntryIn version n p) es
  pub ascending : AscendsFrom 0 es

pub contents_take : (version : Version) (n p : ℕ) (bytes : List ℕ) (y : (ℕ × List Entry) × List ℕ) → IsBytes bytes → contents_at version n p bytes ≡ Ok y → TakesContents version n p bytes y.0.0 y.0.1 y.1
unfolding contents_at contents_bytes
contents_take version n p bytes y fits e =
    let x = plain_takes 8 bytes _ y fits e in
    let k = checked_takes 4 (count_passes x.0.0) x.0.1 _ y x.1.rest_fits x.3 in
    let d = bind_ok (entries_at version n p 0 k.0.0 k.0.1) _ y k.4 in
    let es = entries_take version n p 0 k.0.0 k.0.1 d.0 k.1.rest_fits d.1 in
    let made : (ℕ × List Entry) × List ℕ = ((x.0.0, d.0.0), d.0.1) in
    let counted : Takes x.0.1 (number_bytes 4 (length d.0.0)) k.0.1 = rw es.count k.1 in
    let t1 = Takes-then x.0.1 (number_bytes 4 (length d.0.0)) k.0.1 (flat_map entry_bytes d.0.0) d.0.1 counted es.taken in
    let t0 = Takes-then bytes (number_bytes 8 x.0.0) x.0.1 (number_bytes 4 (length d.0.0) ++ flat_map entry_bytes d.0.0) d.0.1 x.1 t1 in
    subst (λ (z : (ℕ × List Entry) × List ℕ). TakesContents version n p bytes z.0.0 z.0.1 z.1) (ok_is made y d.2)
    (record { taken = t0; small = wide x.0.0 x.2; empty = none_at_start x.0.0 k.0.0 d.0.0 k.3 es.count; lawful = es.lawful; ascending = es.ascending })

pub contents_again : (version : Version) (n p next : ℕ) (es : List Entry) (rest : List ℕ) → next < 2 ^ 64 → (next ≡ 0 → es ≡ []) → AllByRecursion (IsLawfulEntryIn version n p) es → AscendsFrom 0 es → contents_at version n p (contents_bytes next es ++ rest) ≡ Ok ((next, es), rest)
unfolding contents_at contents_bytes
contents_again version n p next es rest lt none lawful up =
    let b1 : List ℕ = flat_map entry_bytes es ++ rest in
    let b0 : List ℕ = number_bytes 4 (length es) ++ b1 in
    let e0 : (number_bytes 4 (length es) ++ flat_map entry_bytes es) ++ rest ≡ b0 = append_assoc (number_bytes 4 (length es)) (flat_map entry_bytes es) rest in
    let e : (number_bytes 8 next ++ (number_bytes 4 (length es) ++ flat_map entry_bytes es)) ++ rest ≡ number_bytes 8 next ++ b0 = append_assoc (number_bytes 8 next) (number_bytes 4 (length es) ++ flat_map entry_bytes es) rest ∙ ap (λ (t : List ℕ). number_bytes 8 next ++ t) e0 in
    let small = ascending_length version 0 n p es (omega arith) up lawful in
    ap (contents_at version n p) e
    ∙ plain_again 8 next b0 _ (omega arith)
    ∙ checked_again 4 (count_passes next) (length es) b1 _ (omega arith) (count_may next es none)
    ∙ rw (entries_again version n p 0 es rest lawful up) refl

pub snapshot_takes : (bytes : List ℕ) (y : (Version × Snapped) × List ℕ) → IsBytes bytes → snapshot_at bytes ≡ Ok y → Takes bytes (snapshot_bytes_in y.0.0 y.0.1) y.1 × IsLawfulSnapshotIn y.0.0 y.0.1
unfolding snapshot_at snapshot_bytes_in
snapshot_takes bytes y fits e =
    let o = bind_ok (owner_at bytes) _ y e in
    let t0 = owner_takes bytes o.0 fits o.1 in
    let c = checked_takes 8 (λ k. leb 1 k) o.0.1 _ y t0.0.rest_fits o.2 in
    let d = bind_ok (contents_at o.0.0.0 o.0.0.2 o.0.0.1 c.0.1) _ y c.4 in
    let t2 = contents_take o.0.0.0 o.0.0.2 o.0.0.1 c.0.1 d.0 c.1.rest_fits d.1 in
    let made : (Version × Snapped) × List ℕ = ((o.0.0.0, record { node = o.0.0.1; nodes = o.0.0.2; epoch = c.0.0; next = d.0.0.0; entries = d.0.0.1 }), d.0.1) in
    let u1 = Takes-then o.0.1 (number_bytes 8 c.0.0) c.0.1 (contents_bytes d.0.0.0 d.0.0.1) d.0.1 c.1 t2.taken in
    let u0 = Takes-then bytes (owner_bytes o.0.0.0 o.0.0.1 o.0.0.2) o.0.1 (number_bytes 8 c.0.0 ++ contents_bytes d.0.0.0 d.0.0.1) d.0.1 t0.0 u1 in
    subst (λ (z : (Version × Snapped) × List ℕ). Takes bytes (owner_bytes z.0.0 z.0.1.node z.0.1.nodes ++ (number_bytes 8 z.0.1.epoch ++ contents_bytes z.0.1.next z.0.1.entries)) z.1 × IsLawfulSnapshotIn z.0.0 z.0.1) {x = made} (ok_is made y d.2)
    (u0, record { node = t0.1; nodes = t0.2; epoch = (leb-true _ _ c.3, wide c.0.0 c.2); next = t2.small; empty = t2.empty; ascending = t2.ascending; entries = t2.lawful })

pub snapshot_again : (version : Version) (s : Snapped) (rest : List ℕ) → IsLawfulSnapshotIn version s → snapshot_at (snapshot_bytes_in version s ++ rest) ≡ Ok ((version, s), rest)
unfolding snapshot_at snapshot_bytes_in
snapshot_again version s rest h =
    let b1 : List ℕ = contents_bytes s.next s.entries ++ rest in
    let b0 : List ℕ = number_bytes 8 s.epoch ++ b1 in
    let e0 : (number_bytes 8 s.epoch ++ contents_bytes s.next s.entries) ++ rest ≡ b0 = append_assoc (number_bytes 8 s.epoch) (contents_bytes s.next s.entries) rest in
    let e : (owner_bytes version s.node s.nodes ++ (number_bytes 8 s.epoch ++ contents_bytes s.next s.entries)) ++ rest ≡ owner_bytes version s.node s.nodes ++ b0 = append_assoc (owner_bytes version s.node s.nodes) (number_bytes 8 s.epoch ++ contents_bytes s.next s.entries) rest ∙ ap (λ (t : List ℕ). owner_bytes version s.node s.nodes ++ t) e0 in
    let epoch = h.epoch.1 in
    ap snapshot_at e
    ∙ rw (owner_again version s.node s.nodes b0 h.node h.nodes) (checked_again 8 (λ k. leb 1 k) s.epoch b1 _ (omega arith) (le-leb _ _ h.epoch.0) ∙ rw (contents_again version s.nodes s.node s.next s.entries rest h.next h.empty h.entries h.ascending) refl)

pub snapshot_found : (bytes : List ℕ) (x : Version × Snapped) → IsBytes bytes → snapshot_in bytes ≡ Ok x → IsLawfulSnapshotIn x.0 x.1 × (bytes ≡ snapshot_bytes_in x.0 x.1)
unfolding snapshot_in
snapshot_found bytes x fits e =
    let t = snapshot_takes bytes (x, []) fits (at_end_ok (length bytes) (snapshot_at bytes) x e) in
    (t.1, t.0.parts ∙ append-nil (snapshot_bytes_in x.0 x.1))

pub snapshot_spelt : (version : Version) (s : Snapped) → IsLawfulSnapshotIn version s → snapshot_in (snapshot_bytes_in version s) ≡ Ok (version, s)
unfolding snapshot_in
snapshot_spelt version s h =
    let read : snapshot_at (snapshot_bytes_in version s) ≡ Ok ((version, s), []) = ap snapshot_at (sym (append-nil (snapshot_bytes_in version s))) ∙ snapshot_again version s [] h in
    rw read refl

pub snapshot_answer_found : (bytes : List ℕ) (r : Result (Version × Snapped) Refusal) → IsBytes bytes → Decodes r (snapshot_in bytes) → IfOk r (λ x. IsLawfulSnapshotIn x.0 x.1 × (bytes ≡ snapshot_bytes_in x.0 x.1))
snapshot_answer_found bytes (Ok x) fits e = snapshot_found bytes x fits e
snapshot_answer_found bytes (Err e) fits is = tt

-- ---- entries, and the loops over them

pub entries_go_on : (version : Version) (n p low : ℕ) (front : List Entry) (count i : ℕ) (bytes : List ℕ) (x : Entry) (after : List ℕ) (total : Reading (List Entry)) → i < count → entry_at version n p low bytes ≡ Ok (x, after)
    → with_front front (entries_at version n p low (count - i) bytes) ≡ total → with_front (front ++ x ∷ []) (entries_at version n p (x.instance + 1) (count - (i + 1)) after) ≡ total
unfolding entries_at
entries_go_on version n p low front count i bytes x after total lt h so_far =
    let k : count - i ≡ suc (count - (i + 1)) = omega arith in
    let one : with_front front (entries_at version n p low (count - i) bytes) ≡ with_front (front ++ x ∷ []) (entries_at version n p (x.instance + 1) (count - (i + 1)) after) = rw (k, h) (with_front-push front x (entries_at version n p (x.instance + 1) (count - (i + 1)) after)) in
    sym one ∙ so_far

pub entries_stop : (version : Version) (n p low : ℕ) (e : Stop) (front : List Entry) (count i : ℕ) (bytes : List ℕ) (total : Reading (List Entry)) → i < count → StopsAs e (entry_at version n p low bytes)
    → with_front front (entries_at version n p low (count - i) bytes) ≡ total → StopsAs e total
unfolding entries_at
entries_stop version n p low stops.OutOfMemory front count i bytes total lt h so_far = tt
entries_stop version n p low (stops.Malformed f) front count i bytes total lt h so_far =
    let k : count - i ≡ suc (count - (i + 1)) = omega arith in
    let one : with_front front (entries_at version n p low (count - i) bytes) ≡ Err f.left = rw (k, h) refl in
    sym so_far ∙ one

pub entries_end : (version : Version) (n p low : ℕ) (front : List Entry) (count i : ℕ) (bytes : List ℕ) (total : Reading (List Entry)) → count ≤ i → with_front front (entries_at version n p low (count - i) bytes) ≡ total → total ≡ Ok (front, bytes)
unfolding entries_at
entries_end version n p low front count i bytes total le so_far =
    let k : count - i ≡ 0 = omega arith in
    let one : with_front front (entries_at version n p low (count - i) bytes) ≡ Ok (front, bytes) = rw k (ap (λ (es : List Entry). Ok (es, bytes)) (append-nil front)) in
    sym so_far ∙ one
