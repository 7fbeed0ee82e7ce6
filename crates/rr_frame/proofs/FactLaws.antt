-- A fact that is read is the fact that was written, and what was written is read again.
use Rattle.std.proofs.Common.{◌≡◌, ℕ, ◌<◌, ◌≤◌, true, eqb, leb, ltb, ◌&&◌, List, [], ◌∷◌, ◌++◌, length, Result, Ok, Err, refl, sym, ap, subst, ◌∙◌, append_assoc, arith, inl, inr}
use Rattle.std.proofs.lemmas.List.{append-nil}
use Rattle.std.proofs.lemmas.Bool.{and_parts, and_from, leb-true, le-leb, ltb-true, lt-ltb, eqb-true, eqb-false}
use Rattle.std.specs.Prelude.{IfOk}
use Rattle.rr_types.specs.declared.refusal.Refusal.{Refusal}
use Rattle.rr_frame.specs.Refused.{answer_of}
use Rattle.rr_types.specs.declared.command.Command.{Command}
use Rattle.rr_types.specs.declared.fact.Fact.{Fact}
use Rattle.rr_types.specs.declared.fact.Fact.TheVariants.{Enter, Propose, Adopt, Decide}
use Rattle.rr_types.specs.Rounds.{Estimated}
use Rattle.rr_frame.specs.Numbers.{number_bytes}
use Rattle.rr_frame.specs.declared.version.Version.{Version}
use Rattle.rr_frame.specs.Versions.{instances}
use Rattle.rr_frame.specs.Reading.{Reading, ◌>>=◌, at_end}
use Rattle.rr_frame.specs.CommandFormat.{command_bytes, IsLawfulCommandIn, command_at}
use Rattle.rr_frame.specs.FactFormat.{round_bytes, estimate_bytes, fact_bytes, IsRound, IsLawfulEstimateIn, IsLawfulFactIn, instance_at, round_at, estimate_at, fact_with, fact_at, fact_in}
use Rattle.rr_frame.proofs.VersionLaws.{instances_at_most}
use Rattle.rr_frame.proofs.FieldLaws.{IsBytes, bind_ok, if_lawful_ok, ok_is, Takes, Takes-then, plain_takes, checked_takes, checked_again, number_again}
use Rattle.rr_frame.proofs.CommandLaws.{chosen, command_takes, command_again}

pub instance_takes : (version : Version) (bytes : List ℕ) (y : ℕ × List ℕ) → IsBytes bytes → instance_at version bytes ≡ Ok y → Takes bytes (number_bytes 4 y.0) y.1 × (y.0 < instances version)
unfolding instance_at
instance_takes version bytes y fits e =
    let a = plain_takes 4 bytes _ y fits e in
    let g = if_lawful_ok (ltb a.0.0 (instances version)) bytes a.0 y a.3 in
    subst (λ (z : ℕ × List ℕ). Takes bytes (number_bytes 4 z.0) z.1 × (z.0 < instances version)) g.1 (a.1, ltb-true _ _ g.0)

pub instance_again : (version : Version) (i : ℕ) (rest : List ℕ) → i < instances version → instance_at version (number_bytes 4 i ++ rest) ≡ Ok (i, rest)
unfolding instance_at
instance_again version i rest h =
    let passes : ltb i (instances version) ≡ true = lt-ltb _ _ h in
    rw (number_again 4 i rest (omega (arith, h, instances_at_most version)), passes) refl

pub round_takes : (bytes : List ℕ) (y : ℕ × List ℕ) → IsBytes bytes → round_at bytes ≡ Ok y → Takes bytes (number_bytes 4 y.0) y.1 × IsRound y.0
unfolding round_at
round_takes bytes y fits e =
    let a = plain_takes 4 bytes _ y fits e in
    let g = if_lawful_ok (leb 1 a.0.0 && leb a.0.0 2147483647) bytes a.0 y a.3 in
    let range = and_parts (leb 1 a.0.0) (leb a.0.0 2147483647) g.0 in
    subst (λ (z : ℕ × List ℕ). Takes bytes (number_bytes 4 z.0) z.1 × IsRound z.0) g.1 (a.1, (leb-true _ _ range.0, leb-true _ _ range.1))

pub round_again : (r : ℕ) (rest : List ℕ) → IsRound r → round_at (number_bytes 4 r ++ rest) ≡ Ok (r, rest)
unfolding round_at
round_again r rest h =
    let passes : (leb 1 r && leb r 2147483647) ≡ true = and_from _ _ (le-leb _ _ h.0) (le-leb _ _ h.1) in
    let high = h.1 in
    rw (number_again 4 r rest (omega arith), passes) refl

pub estimate_takes : (version : Version) (bytes : List ℕ) (y : Estimated × List ℕ) → IsBytes bytes → estimate_at version bytes ≡ Ok y → Takes bytes (estimate_bytes y.0) y.1 × IsLawfulEstimateIn version y.0
unfolding estimate_at estimate_bytes
estimate_takes version bytes y fits e =
    let a = bind_ok (round_at bytes) _ y e in
    let r = round_takes bytes a.0 fits a.1 in
    let b = checked_takes 4 (λ t. ltb t a.0.0) a.0.1 _ y r.0.rest_fits a.2 in
    let d = bind_ok (command_at version b.0.1) _ y b.4 in
    let v = command_takes version b.0.1 d.0 b.1.rest_fits d.1 in
    let made : Estimated × List ℕ = (record { round = a.0.0; stamp = b.0.0; command = d.0.0 }, d.0.1) in
    let tail = Takes-then a.0.1 (number_bytes 4 b.0.0) b.0.1 (command_bytes d.0.0) d.0.1 b.1 v.0 in
    let whole = Takes-then bytes (number_bytes 4 a.0.0) a.0.1 (number_bytes 4 b.0.0 ++ command_bytes d.0.0) d.0.1 r.0 tail in
    subst (λ (z : Estimated × List ℕ). Takes bytes (number_bytes 4 z.0.round ++ (number_bytes 4 z.0.stamp ++ command_bytes z.0.command)) z.1 × IsLawfulEstimateIn version z.0) (ok_is made y d.2) (whole, record { round = r.1; stamp = ltb-true _ _ b.3; command = v.1 })

pub estimate_again : (version : Version) (x : Estimated) (rest : List ℕ) → IsLawfulEstimateIn version x → estimate_at version (estimate_bytes x ++ rest) ≡ Ok (x, rest)
unfolding estimate_at estimate_bytes
estimate_again version x rest h =
    let behind : List ℕ = number_bytes 4 x.stamp ++ (command_bytes x.command ++ rest) in
    let regrouped : (number_bytes 4 x.round ++ (number_bytes 4 x.stamp ++ command_bytes x.command)) ++ rest ≡ number_bytes 4 x.round ++ behind =
    append_assoc (number_bytes 4 x.round) (number_bytes 4 x.stamp ++ command_bytes x.command) rest ∙ ap (λ (t : List ℕ). number_bytes 4 x.round ++ t) (append_assoc (number_bytes 4 x.stamp) (command_bytes x.command) rest) in
    let high = h.round.1 in
    let below = h.stamp in
    ap (estimate_at version) regrouped
    ∙ rw (round_again x.round behind h.round) (checked_again 4 (λ t. ltb t x.round) x.stamp (command_bytes x.command ++ rest) _ (omega arith) (lt-ltb _ _ h.stamp) ∙ rw (command_again version x.command rest h.command) refl)

-- ---- what stands behind the instance

abbrev pub fact_kind : Fact → ℕ
fact_kind (Enter i e) = 1
fact_kind (Propose i r v) = 2
fact_kind (Adopt i r v) = 3
fact_kind (Decide i v) = 4

abbrev pub fact_instance : Fact → ℕ
fact_instance (Enter i e) = i
fact_instance (Propose i r v) = i
fact_instance (Adopt i r v) = i
fact_instance (Decide i v) = i

abbrev pub behind_instance : Fact → List ℕ
behind_instance (Enter i e) = estimate_bytes e
behind_instance (Propose i r v) = round_bytes r v
behind_instance (Adopt i r v) = round_bytes r v
behind_instance (Decide i v) = command_bytes v

abbrev pub IsLawfulBehind : (version : Version) → Fact → Type 0
IsLawfulBehind version (Enter i e) = IsLawfulEstimateIn version e
IsLawfulBehind version (Propose i r v) = IsRound r × IsLawfulCommandIn version v
IsLawfulBehind version (Adopt i r v) = IsRound r × IsLawfulCommandIn version v
IsLawfulBehind version (Decide i v) = IsLawfulCommandIn version v

fact_bytes-parts : (f : Fact) → fact_bytes f ≡ number_bytes 1 (fact_kind f) ++ (number_bytes 4 (fact_instance f) ++ behind_instance f)
unfolding fact_bytes
fact_bytes-parts (Enter i e) = refl
fact_bytes-parts (Propose i r v) = refl
fact_bytes-parts (Adopt i r v) = refl
fact_bytes-parts (Decide i v) = refl

record Behind (version : Version) (kind i : ℕ) (bytes : List ℕ) (f : Fact) (rest : List ℕ) : Type 0 where
  kinds : fact_kind f ≡ kind
  instance : fact_instance f ≡ i
  taken : Takes bytes (behind_instance f) rest
  lawful : IsLawfulBehind version f

record RoundAndCommand (version : Version) (bytes : List ℕ) (r : ℕ) (v : Command) (rest : List ℕ) : Type 0 where
  taken : Takes bytes (round_bytes r v) rest
  round : IsRound r
  command : IsLawfulCommandIn version v

round_and_command : {B : Type 0} (version : Version) (bytes : List ℕ) (f : ℕ → Command → List ℕ → B) (y : B) → IsBytes bytes → (round_at bytes >>= λ (r : ℕ × List ℕ). command_at version r.1 >>= λ (v : Command × List ℕ). Ok (f r.0 v.0 v.1)) ≡ Ok y
    → (r : ℕ) × (v : Command) × (rest : List ℕ) × RoundAndCommand version bytes r v rest × (f r v rest ≡ y)
round_and_command version bytes f y fits e =
    let a = bind_ok (round_at bytes) _ y e in
    let r = round_takes bytes a.0 fits a.1 in
    let d = bind_ok (command_at version a.0.1) _ y a.2 in
    let v = command_takes version a.0.1 d.0 r.0.rest_fits d.1 in
    (a.0.0, d.0.0, d.0.1, record { taken = Takes-then bytes (number_bytes 4 a.0.0) a.0.1 (command_bytes d.0.0) d.0.1 r.0 v.0; round = r.1; command = v.1 }, ok_is (f a.0.0 d.0.0 d.0.1) y d.2)

fact_with_takes : (version : Version) (kind i : ℕ) (bytes : List ℕ) (y : Fact × List ℕ) → 1 ≤ kind → kind ≤ 4 → IsBytes bytes → fact_with version kind i bytes ≡ Ok y → Behind version kind i bytes y.0 y.1
unfolding fact_with
fact_with_takes version kind i bytes y low high fits e = elim (chosen (eqb kind 1) _ _ _ e) [
  | inl c ↦
      let k : kind ≡ 1 = eqb-true _ _ c.0 in
      let a = bind_ok (estimate_at version bytes) (λ (e : Estimated × List ℕ). Ok (Enter i e.0, e.1)) y c.1 in
      let t = estimate_takes version bytes a.0 fits a.1 in
      let made : Fact × List ℕ = (Enter i a.0.0, a.0.1) in
      rw k (subst (λ (z : Fact × List ℕ). Behind version 1 i bytes z.0 z.1) (ok_is made y a.2) (record { kinds = refl; instance = refl; taken = t.0; lawful = t.1 }))
  | inr c ↦ elim (chosen (eqb kind 2) _ _ _ c.1) [
    | inl d ↦
        let k : kind ≡ 2 = eqb-true _ _ d.0 in
        let a = round_and_command version bytes (λ r v rest. (Propose i r v, rest)) y fits d.1 in
        rw k (subst (λ (z : Fact × List ℕ). Behind version 2 i bytes z.0 z.1) a.4 (record { kinds = refl; instance = refl; taken = a.3.taken; lawful = (a.3.round, a.3.command) }))
    | inr d ↦ elim (chosen (eqb kind 3) _ _ _ d.1) [
      | inl f ↦
          let k : kind ≡ 3 = eqb-true _ _ f.0 in
          let a = round_and_command version bytes (λ r v rest. (Adopt i r v, rest)) y fits f.1 in
          rw k (subst (λ (z : Fact × List ℕ). Behind version 3 i bytes z.0 z.1) a.4 (record { kinds = refl; instance = refl; taken = a.3.taken; lawful = (a.3.round, a.3.command) }))
      | inr f ↦
          let ne1 = eqb-false _ _ c.0 in
          let ne2 = eqb-false _ _ d.0 in
          let ne3 = eqb-false _ _ f.0 in
          let k : kind ≡ 4 = omega arith in
          let a = bind_ok (command_at version bytes) (λ (v : Command × List ℕ). Ok (Decide i v.0, v.1)) y f.1 in
          let t = command_takes version bytes a.0 fits a.1 in
          let made : Fact × List ℕ = (Decide i a.0.0, a.0.1) in
          rw k (subst (λ (z : Fact × List ℕ). Behind version 4 i bytes z.0 z.1) (ok_is made y a.2) (record { kinds = refl; instance = refl; taken = t.0; lawful = t.1 }))
    ]
  ]
]

fact_with_again : (version : Version) (f : Fact) (rest : List ℕ) → IsLawfulBehind version f → fact_with version (fact_kind f) (fact_instance f) (behind_instance f ++ rest) ≡ Ok (f, rest)
unfolding fact_with
fact_with_again version (Enter i e) rest h = rw (estimate_again version e rest h) refl
fact_with_again version (Propose i r v) rest h = rw (append_assoc (number_bytes 4 r) (command_bytes v) rest, round_again r (command_bytes v ++ rest) h.0, command_again version v rest h.1) refl
fact_with_again version (Adopt i r v) rest h = rw (append_assoc (number_bytes 4 r) (command_bytes v) rest, round_again r (command_bytes v ++ rest) h.0, command_again version v rest h.1) refl
fact_with_again version (Decide i v) rest h = rw (command_again version v rest h) refl

lawful_fact : (version : Version) (f : Fact) → fact_instance f < instances version → IsLawfulBehind version f → IsLawfulFactIn version f
lawful_fact version (Enter i e) n b = (n, b)
lawful_fact version (Propose i r v) n b = (n, b.0, b.1)
lawful_fact version (Adopt i r v) n b = (n, b.0, b.1)
lawful_fact version (Decide i v) n b = (n, b)

lawful_instance : (version : Version) (f : Fact) → IsLawfulFactIn version f → fact_instance f < instances version
lawful_instance version (Enter i e) h = h.0
lawful_instance version (Propose i r v) h = h.0
lawful_instance version (Adopt i r v) h = h.0
lawful_instance version (Decide i v) h = h.0

lawful_behind : (version : Version) (f : Fact) → IsLawfulFactIn version f → IsLawfulBehind version f
lawful_behind version (Enter i e) h = h.1
lawful_behind version (Propose i r v) h = (h.1, h.2)
lawful_behind version (Adopt i r v) h = (h.1, h.2)
lawful_behind version (Decide i v) h = h.1

kind_low : (f : Fact) → 1 ≤ fact_kind f
kind_low (Enter i e) = omega arith
kind_low (Propose i r v) = omega arith
kind_low (Adopt i r v) = omega arith
kind_low (Decide i v) = omega arith

kind_high : (f : Fact) → fact_kind f ≤ 4
kind_high (Enter i e) = omega arith
kind_high (Propose i r v) = omega arith
kind_high (Adopt i r v) = omega arith
kind_high (Decide i v) = omega arith

pub fact_takes : (version : Version) (bytes : List ℕ) (y : Fact × List ℕ) → IsBytes bytes → fact_at version bytes ≡ Ok y → Takes bytes (fact_bytes y.0) y.1 × IsLawfulFactIn version y.0
unfolding fact_at
fact_takes version bytes y fits e =
    let a = checked_takes 1 (λ k. leb 1 k && leb k 4) bytes _ y fits e in
    let b = bind_ok (instance_at version a.0.1) _ y a.4 in
    let n = instance_takes version a.0.1 b.0 a.1.rest_fits b.1 in
    let range = and_parts (leb 1 a.0.0) (leb a.0.0 4) a.3 in
    let w = fact_with_takes version a.0.0 b.0.0 b.0.1 y (leb-true _ _ range.0) (leb-true _ _ range.1) n.0.rest_fits b.2 in
    let tail = Takes-then a.0.1 (number_bytes 4 b.0.0) b.0.1 (behind_instance y.0) y.1 n.0 w.taken in
    let whole = Takes-then bytes (number_bytes 1 a.0.0) a.0.1 (number_bytes 4 b.0.0 ++ behind_instance y.0) y.1 a.1 tail in
    (rw (fact_bytes-parts y.0, w.kinds, w.instance) whole, lawful_fact version y.0 (rw w.instance n.1) w.lawful)

pub fact_again : (version : Version) (f : Fact) (rest : List ℕ) → IsLawfulFactIn version f → fact_at version (fact_bytes f ++ rest) ≡ Ok (f, rest)
unfolding fact_at
fact_again version f rest h =
    let tail : List ℕ = number_bytes 4 (fact_instance f) ++ (behind_instance f ++ rest) in
    let regrouped : fact_bytes f ++ rest ≡ number_bytes 1 (fact_kind f) ++ tail =
    ap (λ (t : List ℕ). t ++ rest) (fact_bytes-parts f) ∙ append_assoc (number_bytes 1 (fact_kind f)) (number_bytes 4 (fact_instance f) ++ behind_instance f) rest ∙ ap (λ (t : List ℕ). number_bytes 1 (fact_kind f) ++ t) (append_assoc (number_bytes 4 (fact_instance f)) (behind_instance f) rest) in
    let low = kind_low f in
    let high = kind_high f in
    let passes : (leb 1 (fact_kind f) && leb (fact_kind f) 4) ≡ true = and_from _ _ (le-leb _ _ low) (le-leb _ _ high) in
    ap (fact_at version) regrouped
    ∙ checked_again 1 (λ k. leb 1 k && leb k 4) (fact_kind f) tail (λ kind. instance_at version kind.1 >>= λ instance. fact_with version kind.0 instance.0 instance.1) (omega arith) passes
    ∙ rw (instance_again version (fact_instance f) (behind_instance f ++ rest) (lawful_instance version f h)) (fact_with_again version f rest (lawful_behind version f h))

-- ---- all the bytes

pub at_end_ok : {A : Type 0} (all : ℕ) (read : Reading A) (x : A) → at_end all read ≡ Ok x → read ≡ Ok (x, [])
at_end_ok all (Ok (v, [])) x e = cc
at_end_ok all (Ok (v, b ∷ rest)) x e = absurd cc
at_end_ok all (Err left) x e = absurd cc

pub fact_found : (version : Version) (bytes : List ℕ) (f : Fact) → IsBytes bytes → fact_in version bytes ≡ Ok f → IsLawfulFactIn version f × (bytes ≡ fact_bytes f)
unfolding fact_in
fact_found version bytes f fits e =
    let t = fact_takes version bytes (f, []) fits (at_end_ok (length bytes) (fact_at version bytes) f e) in
    (t.1, t.0.parts ∙ append-nil (fact_bytes f))

pub fact_spelt : (version : Version) (f : Fact) → IsLawfulFactIn version f → fact_in version (fact_bytes f) ≡ Ok f
unfolding fact_in
fact_spelt version f h =
    let read : fact_at version (fact_bytes f) ≡ Ok (f, []) = ap (fact_at version) (sym (append-nil (fact_bytes f))) ∙ fact_again version f [] h in
    rw read refl

pub fact_answer_found : (version : Version) (bytes : List ℕ) (r : Result Fact Refusal) → IsBytes bytes → r ≡ answer_of (fact_in version bytes) → IfOk r (λ f. IsLawfulFactIn version f × (bytes ≡ fact_bytes f))
fact_answer_found version bytes (Ok f) fits e = fact_found version bytes f fits (answered (fact_in version bytes) f e)
  where
    answered : (read : Result Fact ℕ) (f : Fact) → Ok f ≡ answer_of read → read ≡ Ok f
    answered (Ok x) f e = cc
    answered (Err k) f e = absurd cc
fact_answer_found version bytes (Err x) fits e = tt
