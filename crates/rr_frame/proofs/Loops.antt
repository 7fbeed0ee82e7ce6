-- Reading one value after the other, as a loop does.
use Rattle.std.proofs.Common.{◌≡◌, ℕ, suc, ◌-◌, ◌+◌, ◌≤◌, ◌<◌, List, [], ◌∷◌, ◌++◌, Ok, Err, refl, sym, ap, ◌∙◌, append_assoc, arith}
use Rattle.std.proofs.lemmas.List.{append-nil}
use Rattle.rr_types.specs.declared.fact.Fact.{Fact}
use Rattle.rr_frame.specs.declared.stop.Stop.{Stop}
use Rattle.rr_frame.specs.declared.stop.Stop.TheVariants as stops
use Rattle.rr_frame.specs.declared.version.Version.{Version}
use Rattle.rr_frame.specs.Reading.{Reading, ◌>>=◌, StopsAs}
use Rattle.rr_frame.specs.FactFormat.{fact_at}
use Rattle.rr_frame.specs.GroupFormat.{facts_at}

-- what was read before, and what is still read
abbrev pub with_front : {A : Type 0} → List A → Reading (List A) → Reading (List A)
with_front front read = read >>= λ x. Ok (front ++ x.0, x.1)

-- one more value in front
pub with_front-push : {A : Type 0} (front : List A) (a : A) (read : Reading (List A)) → with_front front (read >>= λ x. Ok (a ∷ x.0, x.1)) ≡ with_front (front ++ a ∷ []) read
with_front-push {A} front a (Ok x) = ap (λ (vs : List A). Ok (vs, x.1)) (simp append_assoc)
with_front-push front a (Err left) = refl

pub facts_go_on : (version : Version) (front : List Fact) (count i : ℕ) (bytes : List ℕ) (f : Fact) (after : List ℕ) (total : Reading (List Fact)) → i < count → fact_at version bytes ≡ Ok (f, after)
    → with_front front (facts_at version (count - i) bytes) ≡ total → with_front (front ++ f ∷ []) (facts_at version (count - (i + 1)) after) ≡ total
unfolding facts_at
facts_go_on version front count i bytes f after total lt h so_far =
    let k : count - i ≡ suc (count - (i + 1)) = omega arith in
    let one : with_front front (facts_at version (count - i) bytes) ≡ with_front (front ++ f ∷ []) (facts_at version (count - (i + 1)) after) = rw (k, h) (with_front-push front f (facts_at version (count - (i + 1)) after)) in
    sym one ∙ so_far

pub facts_stop : (version : Version) (e : Stop) (front : List Fact) (count i : ℕ) (bytes : List ℕ) (total : Reading (List Fact)) → i < count → StopsAs e (fact_at version bytes)
    → with_front front (facts_at version (count - i) bytes) ≡ total → StopsAs e total
unfolding facts_at
facts_stop version stops.OutOfMemory front count i bytes total lt h so_far = tt
facts_stop version (stops.Malformed f) front count i bytes total lt h so_far =
    let k : count - i ≡ suc (count - (i + 1)) = omega arith in
    let one : with_front front (facts_at version (count - i) bytes) ≡ Err f.left = rw (k, h) refl in
    sym so_far ∙ one

pub facts_end : (version : Version) (front : List Fact) (count i : ℕ) (bytes : List ℕ) (total : Reading (List Fact)) → count ≤ i → with_front front (facts_at version (count - i) bytes) ≡ total → total ≡ Ok (front, bytes)
unfolding facts_at
facts_end version front count i bytes total le so_far =
    let k : count - i ≡ 0 = omega arith in
    let one : with_front front (facts_at version (count - i) bytes) ≡ Ok (front, bytes) = rw k (ap (λ (fs : List Fact). Ok (fs, bytes)) (append-nil front)) in
    sym so_far ∙ one
