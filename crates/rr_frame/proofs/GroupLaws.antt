-- A group that is read is the group that was written, and what was written is read again.
use Rattle.std.proofs.Common.{◌≡◌, ℕ, zero, suc, ◌+◌, ◌^◌, ◌<◌, ◌≤◌, Bool, true, leb, ltb, ◌&&◌, List, [], ◌∷◌, ◌++◌, length, Result, Ok, Err, refl, sym, ap, subst, ◌∙◌, append_assoc, arith}
use Rattle.std.specs.Prelude.{IfOk}
use Rattle.std.specs.List.{flat_map, AllByRecursion}
use Rattle.std.proofs.lemmas.List.{append-nil}
use Rattle.std.proofs.lemmas.List.Concat.{flat_map-cons}
use Rattle.std.proofs.lemmas.Bool.{and_parts, and_from, leb-true, le-leb, ltb-true, lt-ltb}
use Rattle.rr_types.specs.declared.fact.Fact.{Fact}
use Rattle.rr_types.specs.declared.refusal.Refusal.{Refusal}
use Rattle.rr_types.specs.Groups.{Grouped}
use Rattle.rr_frame.specs.Numbers.{number_bytes}
use Rattle.rr_frame.specs.declared.version.Version.{Version}
use Rattle.rr_frame.specs.Reading.{◌>>=◌, Decodes}
use Rattle.rr_frame.specs.FactFormat.{fact_bytes, IsLawfulFactIn, fact_at}
use Rattle.rr_frame.specs.GroupFormat.{group_bytes, IsLawfulGroupIn, facts_at, group_at, group_in}
use Rattle.rr_frame.proofs.FieldLaws.{IsBytes, bind_ok, ok_is, Takes, Takes-then, plain_takes, plain_again, checked_takes, checked_again}
use Rattle.rr_frame.proofs.FactLaws.{fact_takes, fact_again, at_end_ok}

pub facts_take : (version : Version) (n : ℕ) (bytes : List ℕ) (x : List Fact × List ℕ) → IsBytes bytes → facts_at version n bytes ≡ Ok x → Takes bytes (flat_map fact_bytes x.0) x.1 × (length x.0 ≡ n) × AllByRecursion (IsLawfulFactIn version) x.0
unfolding facts_at
facts_take version zero bytes x fits e =
    subst (λ (y : List Fact × List ℕ). Takes bytes (flat_map fact_bytes y.0) y.1 × (length y.0 ≡ 0) × AllByRecursion (IsLawfulFactIn version) y.0) (ok_is ([], bytes) x e) (record { parts = refl; rest_fits = fits }, refl, tt)
facts_take version (suc n) bytes x fits e =
    let a = bind_ok (fact_at version bytes) (λ first. facts_at version n first.1 >>= λ others. Ok (first.0 ∷ others.0, others.1)) x e in
    let b = bind_ok (facts_at version n a.0.1) (λ others. Ok (a.0.0 ∷ others.0, others.1)) x a.2 in
    let first = fact_takes version bytes a.0 fits a.1 in
    let second = facts_take version n a.0.1 b.0 first.0.rest_fits b.1 in
    let both = Takes-then bytes (fact_bytes a.0.0) a.0.1 (flat_map fact_bytes b.0.0) b.0.1 first.0 second.0 in
    let made : List Fact × List ℕ = (a.0.0 ∷ b.0.0, b.0.1) in
    subst (λ (y : List Fact × List ℕ). Takes bytes (flat_map fact_bytes y.0) y.1 × (length y.0 ≡ suc n) × AllByRecursion (IsLawfulFactIn version) y.0) (ok_is made x b.2) (rw flat_map-cons both, ap suc second.1, (first.1, second.2))

pub facts_again : (version : Version) (fs : List Fact) (rest : List ℕ) → AllByRecursion (IsLawfulFactIn version) fs → facts_at version (length fs) (flat_map fact_bytes fs ++ rest) ≡ Ok (fs, rest)
unfolding facts_at
facts_again version [] rest fits = refl
facts_again version (f ∷ fs) rest fits =
    let regrouped : flat_map fact_bytes (f ∷ fs) ++ rest ≡ fact_bytes f ++ (flat_map fact_bytes fs ++ rest) = ap (λ (x : List ℕ). x ++ rest) (flat_map-cons fact_bytes f fs) ∙ append_assoc (fact_bytes f) (flat_map fact_bytes fs) rest in
    ap (facts_at version (suc (length fs))) regrouped ∙ rw (fact_again version f (flat_map fact_bytes fs ++ rest) fits.0, facts_again version fs rest fits.1) refl

-- whether a group may have so many facts from this number on
abbrev may_have : ℕ → ℕ → Bool
may_have serial k = leb 1 k && leb k 64 && ltb (serial + k) (2 ^ 64)

pub group_takes : (version : Version) (bytes : List ℕ) (y : Grouped × List ℕ) → IsBytes bytes → group_at version bytes ≡ Ok y → Takes bytes (group_bytes y.0) y.1 × IsLawfulGroupIn version y.0
unfolding group_at group_bytes
group_takes version bytes y fits e =
    let a = plain_takes 8 bytes _ y fits e in
    let b = checked_takes 2 (may_have a.0.0) a.0.1 _ y a.1.rest_fits a.3 in
    let d = bind_ok (facts_at version b.0.0 b.0.1) _ y b.4 in
    let fs = facts_take version b.0.0 b.0.1 d.0 b.1.rest_fits d.1 in
    let p = and_parts (leb 1 b.0.0 && leb b.0.0 64) (ltb (a.0.0 + b.0.0) (2 ^ 64)) b.3 in
    let q = and_parts (leb 1 b.0.0) (leb b.0.0 64) p.0 in
    let low : 1 ≤ b.0.0 = leb-true _ _ q.0 in
    let high : b.0.0 ≤ 64 = leb-true _ _ q.1 in
    let room : a.0.0 + b.0.0 < 2 ^ 64 = ltb-true _ _ p.1 in
    let made : Grouped × List ℕ = (record { serial = a.0.0; facts = d.0.0 }, d.0.1) in
    let count : Takes a.0.1 (number_bytes 2 (length d.0.0)) b.0.1 = rw fs.1 b.1 in
    let tail = Takes-then a.0.1 (number_bytes 2 (length d.0.0)) b.0.1 (flat_map fact_bytes d.0.0) d.0.1 count fs.0 in
    let whole = Takes-then bytes (number_bytes 8 a.0.0) a.0.1 (number_bytes 2 (length d.0.0) ++ flat_map fact_bytes d.0.0) d.0.1 a.1 tail in
    subst (λ (z : Grouped × List ℕ). Takes bytes (number_bytes 8 z.0.serial ++ (number_bytes 2 (length z.0.facts) ++ flat_map fact_bytes z.0.facts)) z.1 × IsLawfulGroupIn version z.0) (ok_is made y d.2)
    (whole, record { some = omega (arith, fs.1, low); few = omega (arith, fs.1, high); room = omega (arith, fs.1, room); facts = fs.2 })

pub group_again : (version : Version) (g : Grouped) (rest : List ℕ) → IsLawfulGroupIn version g → group_at version (group_bytes g ++ rest) ≡ Ok (g, rest)
unfolding group_at group_bytes
group_again version g rest h =
    let k : ℕ = length g.facts in
    let tail : List ℕ = number_bytes 2 (length g.facts) ++ (flat_map fact_bytes g.facts ++ rest) in
    let regrouped : (number_bytes 8 g.serial ++ (number_bytes 2 (length g.facts) ++ flat_map fact_bytes g.facts)) ++ rest ≡ number_bytes 8 g.serial ++ tail =
    append_assoc (number_bytes 8 g.serial) (number_bytes 2 (length g.facts) ++ flat_map fact_bytes g.facts) rest ∙ ap (λ (t : List ℕ). number_bytes 8 g.serial ++ t) (append_assoc (number_bytes 2 (length g.facts)) (flat_map fact_bytes g.facts) rest) in
    let few = h.few in
    let room = h.room in
    let passes : may_have g.serial (length g.facts) ≡ true = and_from _ _ (and_from _ _ (le-leb _ _ h.some) (le-leb _ _ h.few)) (lt-ltb _ _ h.room) in
    ap (group_at version) regrouped
    ∙ plain_again 8 g.serial tail _ (omega arith)
    ∙ checked_again 2 (may_have g.serial) (length g.facts) (flat_map fact_bytes g.facts ++ rest) _ (omega arith) passes
    ∙ rw (facts_again version g.facts rest h.facts) refl

pub group_found : (version : Version) (bytes : List ℕ) (g : Grouped) → IsBytes bytes → group_in version bytes ≡ Ok g → IsLawfulGroupIn version g × (bytes ≡ group_bytes g)
unfolding group_in
group_found version bytes g fits e =
    let t = group_takes version bytes (g, []) fits (at_end_ok (length bytes) (group_at version bytes) g e) in
    (t.1, t.0.parts ∙ append-nil (group_bytes g))

pub group_spelt : (version : Version) (g : Grouped) → IsLawfulGroupIn version g → group_in version (group_bytes g) ≡ Ok g
unfolding group_in
group_spelt version g h =
    let read : group_at version (group_bytes g) ≡ Ok (g, []) = ap (group_at version) (sym (append-nil (group_bytes g))) ∙ group_again version g [] h in
    rw read refl

pub group_answer_found : (version : Version) (bytes : List ℕ) (r : Result Grouped Refusal) → IsBytes bytes → Decodes r (group_in version bytes) → IfOk r (λ g. IsLawfulGroupIn version g × (bytes ≡ group_bytes g))
group_answer_found version bytes (Ok g) fits e = group_found version bytes g fits e
group_answer_found version bytes (Err x) fits e = tt
