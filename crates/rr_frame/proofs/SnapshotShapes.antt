-- What is known of a snapshot that was read, whatever the bytes are; and of one that is written.
use Rattle.std.proofs.Common.{◌≡◌, ℕ, zero, suc, ◌+◌, ◌≤◌, Bool, true, eqb, leb, ltb, ◌&&◌, ◌||◌, List, [], ◌∷◌, length, Option, None, Some, Result, Ok, Err, refl, ap, subst, ◌∙◌, arith, inl, inr}
use Rattle.std.specs.Prelude.{IfOk}
use Rattle.std.specs.Global.{Vec}
use Rattle.std.specs.List.{list_all, AllByRecursion}
use Rattle.std.proofs.lemmas.Bool.{and_parts, and_from, or_cases, leb-true, eqb-true, eqb-false}
use Rattle.rr_types.specs.declared.command.Command.{Command}
use Rattle.rr_types.specs.declared.promise.Standing.{Standing}
use Rattle.rr_types.specs.declared.promise.Standing.TheVariants.{Decided, Open}
use Rattle.rr_types.specs.declared.promise.Entry.{Entry}
use Rattle.rr_types.specs.Promises.{AscendsFrom}
use Rattle.rr_types.specs.Rounds.{OpenAt, coordinator_of}
use Rattle.rr_frame.specs.declared.stop.Stop.{Stop}
use Rattle.rr_frame.specs.declared.version.Version.{Version}
use Rattle.rr_frame.specs.declared.version.Version.TheVariants.{Two}
use Rattle.rr_frame.specs.Versions.{instances}
use Rattle.rr_frame.specs.Reading.{◌>>=◌, if_lawful, number_at, Reads}
use Rattle.rr_frame.specs.CommandFormat.{command_at}
use Rattle.rr_frame.specs.FactFormat.{round_at}
use Rattle.rr_frame.specs.Snapshots.{is_by_coordinator, proposes_lawfully, IsContents}
use Rattle.rr_frame.specs.SnapshotFormat.{IsLawfulEntryIn, IsSpellable, proposal_at, open_at, standing_at, entry_at, entries_at, contents_at}
use Rattle.rr_frame.proofs.FieldLaws.{bind_ok, if_lawful_ok, ok_is}
use Rattle.rr_frame.proofs.CommandLaws.{chosen}
use Rattle.rr_frame.proofs.SnapshotLaws.{flag_passes, instance_passes, count_passes, none_at_start}

checked : {B : Type 0} (n : ℕ) (test : ℕ → Bool) (bytes : List ℕ) (f : ℕ × List ℕ → Result B ℕ) (y : B)
    → (number_at n bytes >>= λ k. if_lawful (test k.0) bytes k >>= f) ≡ Ok y → (k : ℕ × List ℕ) × (test k.0 ≡ true) × (f k ≡ Ok y)
checked n test bytes f y e =
    let a = bind_ok (number_at n bytes) (λ k. if_lawful (test k.0) bytes k >>= f) y e in
    let b = bind_ok (if_lawful (test a.0.0) bytes a.0) f y a.2 in
    let g = if_lawful_ok (test a.0.0) bytes a.0 b.0 b.1 in
    (a.0, g.0, ap f g.1 ∙ b.2)

proposal_stands : (version : Version) (coordinates : Bool) (bytes : List ℕ) (y : Option Command × List ℕ) → proposal_at version coordinates bytes ≡ Ok y → is_by_coordinator coordinates y.0 ≡ true
unfolding proposal_at
proposal_stands version coordinates bytes y e =
    let a = checked 1 (flag_passes coordinates) bytes _ y e in
    elim (chosen (eqb a.0.0 0) _ _ _ a.2) [
      | inl c ↦ subst (λ (z : Option Command × List ℕ). is_by_coordinator coordinates z.0 ≡ true) (ok_is (None, a.0.1) y c.1) refl
      | inr c ↦ elim (or_cases (eqb a.0.0 0) (eqb a.0.0 1 && coordinates) a.1) [
        | inl z ↦ absurd (eqb-false _ _ c.0 (eqb-true _ _ z))
        | inr z ↦
            let both = and_parts (eqb a.0.0 1) coordinates z in
            let d = bind_ok (command_at version a.0.1) (λ (v : Command × List ℕ). Ok (Some v.0, v.1)) y c.1 in
            subst (λ (z : Option Command × List ℕ). is_by_coordinator coordinates z.0 ≡ true) (ok_is (Some d.0.0, d.0.1) y d.2) both.1
      ]
    ]

open_stands : (version : Version) (n p : ℕ) (bytes : List ℕ) (y : OpenAt × List ℕ) → open_at version n p bytes ≡ Ok y → proposes_lawfully n p (Open y.0) ≡ true
unfolding open_at
open_stands version n p bytes y e =
    let a = bind_ok (round_at bytes) _ y e in
    let b = checked 4 (λ t. leb t a.0.0) a.0.1 _ y a.2 in
    let d = bind_ok (command_at version b.0.1) _ y b.2 in
    let q = bind_ok (proposal_at version (eqb (coordinator_of a.0.0 n) p) d.0.1) _ y d.2 in
    let w = proposal_stands version (eqb (coordinator_of a.0.0 n) p) d.0.1 q.0 q.1 in
    let made : OpenAt × List ℕ = (record { round = a.0.0; stamp = b.0.0; estimate = d.0.0; proposal = q.0.0 }, q.0.1) in
    subst (λ (z : OpenAt × List ℕ). proposes_lawfully n p (Open z.0) ≡ true) (ok_is made y q.2) w

standing_stands : (version : Version) (n p : ℕ) (bytes : List ℕ) (y : Standing × List ℕ) → standing_at version n p bytes ≡ Ok y → proposes_lawfully n p y.0 ≡ true
unfolding standing_at
standing_stands version n p bytes y e =
    let a = checked 1 (λ k. eqb k 1 || eqb k 2) bytes _ y e in
    elim (chosen (eqb a.0.0 1) _ _ _ a.2) [
      | inl c ↦
          let d = bind_ok (command_at version a.0.1) (λ (v : Command × List ℕ). Ok (Decided v.0, v.1)) y c.1 in
          subst (λ (z : Standing × List ℕ). proposes_lawfully n p z.0 ≡ true) (ok_is (Decided d.0.0, d.0.1) y d.2) refl
      | inr c ↦
          let d = bind_ok (open_at version n p a.0.1) (λ (o : OpenAt × List ℕ). Ok (Open o.0, o.1)) y c.1 in
          subst (λ (z : Standing × List ℕ). proposes_lawfully n p z.0 ≡ true) (ok_is (Open d.0.0, d.0.1) y d.2) (open_stands version n p a.0.1 d.0 d.1)
    ]

entry_stands : (version : Version) (n p low : ℕ) (bytes : List ℕ) (y : Entry × List ℕ) → entry_at version n p low bytes ≡ Ok y → (low ≤ y.0.instance) × (proposes_lawfully n p y.0.standing ≡ true)
unfolding entry_at
entry_stands version n p low bytes y e =
    let a = checked 4 (instance_passes version low) bytes _ y e in
    let d = bind_ok (standing_at version n p a.0.1) _ y a.2 in
    let range = and_parts (leb low a.0.0) (ltb a.0.0 (instances version)) a.1 in
    let made : Entry × List ℕ = (record { instance = a.0.0; standing = d.0.0 }, d.0.1) in
    subst (λ (z : Entry × List ℕ). (low ≤ z.0.instance) × (proposes_lawfully n p z.0.standing ≡ true)) (ok_is made y d.2) (leb-true _ _ range.0, standing_stands version n p a.0.1 d.0 d.1)

record Stand (n p low k : ℕ) (es : List Entry) : Type 0 where
  count : length es ≡ k
  ascending : AscendsFrom low es
  proposals : list_all (λ (e : Entry). proposes_lawfully n p e.standing) es ≡ true

entries_stand : (version : Version) (n p low k : ℕ) (bytes : List ℕ) (x : List Entry × List ℕ) → entries_at version n p low k bytes ≡ Ok x → Stand n p low k x.0
unfolding entries_at
entries_stand version n p low zero bytes x e = subst (λ (y : List Entry × List ℕ). Stand n p low 0 y.0) (ok_is ([], bytes) x e) (record { count = refl; ascending = tt; proposals = refl })
entries_stand version n p low (suc k) bytes x e =
    let a = bind_ok (entry_at version n p low bytes) (λ first. entries_at version n p (first.0.instance + 1) k first.1 >>= λ others. Ok (first.0 ∷ others.0, others.1)) x e in
    let b = bind_ok (entries_at version n p (a.0.0.instance + 1) k a.0.1) (λ others. Ok (a.0.0 ∷ others.0, others.1)) x a.2 in
    let first = entry_stands version n p low bytes a.0 a.1 in
    let second = entries_stand version n p (a.0.0.instance + 1) k a.0.1 b.0 b.1 in
    let made : List Entry × List ℕ = (a.0.0 ∷ b.0.0, b.0.1) in
    subst (λ (y : List Entry × List ℕ). Stand n p low (suc k) y.0) (ok_is made x b.2) (record { count = ap suc second.count; ascending = (omega (arith, first.0), second.ascending); proposals = and_from _ _ first.1 second.proposals })

pub contents_stand : (version : Version) (n p : ℕ) (bytes : List ℕ) (y : (ℕ × List Entry) × List ℕ) → contents_at version n p bytes ≡ Ok y → IsContents n p y.0.0 y.0.1
unfolding contents_at
contents_stand version n p bytes y e =
    let x = bind_ok (number_at 8 bytes) _ y e in
    let k = checked 4 (count_passes x.0.0) x.0.1 _ y x.2 in
    let d = bind_ok (entries_at version n p 0 k.0.0 k.0.1) _ y k.2 in
    let es = entries_stand version n p 0 k.0.0 k.0.1 d.0 d.1 in
    let made : (ℕ × List Entry) × List ℕ = ((x.0.0, d.0.0), d.0.1) in
    subst (λ (z : (ℕ × List Entry) × List ℕ). IsContents n p z.0.0 z.0.1) (ok_is made y d.2)
    (record { empty = none_at_start x.0.0 k.0.0 d.0.0 k.1 es.count; ascending = record { ascends = es.ascending }; proposals = es.proposals })

pub contents_read : (version : Version) (n p : ℕ) (bytes rest : List ℕ) (r : Result (ℕ × Vec Entry) Stop) → Reads (λ x. (x.0, x.1.items)) r rest (contents_at version n p bytes) → IfOk r (λ x. IsContents n p x.0 x.1.items)
contents_read version n p bytes rest (Ok x) e = contents_stand version n p bytes ((x.0, x.1.items), rest) e
contents_read version n p bytes rest (Err s) e = tt

-- entries that have a spelling where their proposals may stand, and that stand there
pub all_spellable : (n p : ℕ) (es : List Entry) → AllByRecursion IsSpellable es → list_all (λ (e : Entry). proposes_lawfully n p e.standing) es ≡ true → AllByRecursion (IsLawfulEntryIn Two n p) es
all_spellable n p [] h s = tt
all_spellable n p (e ∷ es) h s =
    let both = and_parts _ _ s in
    (h.0 n p both.0, all_spellable n p es h.1 both.1)
