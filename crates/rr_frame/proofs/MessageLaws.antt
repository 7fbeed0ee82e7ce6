-- A message that is read is the message that was written, and what was written is read again.
use Rattle.std.proofs.Common.{◌≡◌, ℕ, ◌^◌, ◌<◌, ◌≤◌, true, cond, eqb, leb, ltb, ◌&&◌, List, [], ◌++◌, length, Result, Ok, Err, refl, sym, ap, subst, ◌∙◌, append_assoc, arith, inl, inr}
use Rattle.std.proofs.lemmas.List.{append-nil}
use Rattle.std.proofs.Math.Pow.{pow_mono}
use Rattle.std.proofs.lemmas.Bool.{and_parts, and_from, leb-true, leb-false, le-leb, ltb-true, lt-ltb, eqb-true, eqb-false}
use Rattle.std.specs.Prelude.{IfOk}
use Rattle.rr_types.specs.declared.refusal.Refusal.{Refusal}
use Rattle.rr_types.specs.declared.command.Command.{Command}
use Rattle.rr_types.specs.declared.message.Body.{Body}
use Rattle.rr_types.specs.declared.message.Body.TheVariants.{Estimate, Proposal, Ack, Decision, Request, Nack, Beat, Suspects, Ask}
use Rattle.rr_types.specs.declared.message.Message.{Message}
use Rattle.rr_types.specs.Rounds.{Estimated}
use Rattle.rr_frame.specs.Refused.{answer_of}
use Rattle.rr_frame.specs.Numbers.{number_bytes}
use Rattle.rr_frame.specs.declared.version.Version.{Version}
use Rattle.rr_frame.specs.Versions.{version_number, instances, version_at}
use Rattle.rr_frame.specs.Reading.{Reading}
use Rattle.rr_frame.specs.CommandFormat.{command_bytes, command_at}
use Rattle.rr_frame.specs.FactFormat.{round_bytes, estimate_bytes, IsRound, instance_at, round_at, estimate_at}
use Rattle.rr_frame.proofs.FieldLaws.{IsBytes, bind_ok, if_lawful_ok, ok_is, Takes, Takes-then, plain_takes, checked_takes, checked_again, number_again}
use Rattle.rr_frame.proofs.VersionLaws.{version_takes, version_again}
use Rattle.rr_frame.proofs.CommandLaws.{chosen, command_takes, command_again}
use Rattle.rr_frame.proofs.FactLaws.{instance_takes, instance_again, round_takes, round_again, estimate_takes, estimate_again, at_end_ok}
use Rattle.rr_frame.specs.MessageFormat.{body_bytes, message_bytes_in, IsLawfulBodyIn, IsLawfulMessageIn, node_at, set_at, backed_at, free_at, body_at, message_at, message_in}

-- ---- a node and a set

node_takes : (n : ℕ) (bytes : List ℕ) (y : ℕ × List ℕ) → IsBytes bytes → node_at n bytes ≡ Ok y → Takes bytes (number_bytes 1 y.0) y.1 × (y.0 < n)
unfolding node_at
node_takes n bytes y fits e =
    let a = plain_takes 1 bytes _ y fits e in
    let g = if_lawful_ok (ltb a.0.0 n) bytes a.0 y a.3 in
    subst (λ (z : ℕ × List ℕ). Takes bytes (number_bytes 1 z.0) z.1 × (z.0 < n)) g.1 (a.1, ltb-true _ _ g.0)

node_again : (n p : ℕ) (rest : List ℕ) → n ≤ 7 → p < n → node_at n (number_bytes 1 p ++ rest) ≡ Ok (p, rest)
unfolding node_at
node_again n p rest few h =
    let passes : ltb p n ≡ true = lt-ltb _ _ h in
    rw (number_again 1 p rest (omega arith), passes) refl

set_takes : (n : ℕ) (bytes : List ℕ) (y : ℕ × List ℕ) → IsBytes bytes → set_at n bytes ≡ Ok y → Takes bytes (number_bytes 1 y.0) y.1 × (y.0 < 2 ^ n)
unfolding set_at
set_takes n bytes y fits e =
    let a = plain_takes 1 bytes _ y fits e in
    let g = if_lawful_ok (ltb a.0.0 (2 ^ n)) bytes a.0 y a.3 in
    subst (λ (z : ℕ × List ℕ). Takes bytes (number_bytes 1 z.0) z.1 × (z.0 < 2 ^ n)) g.1 (a.1, ltb-true _ _ g.0)

set_again : (n set : ℕ) (rest : List ℕ) → 2 ^ n ≤ 128 → set < 2 ^ n → set_at n (number_bytes 1 set ++ rest) ≡ Ok (set, rest)
unfolding set_at
set_again n set rest few h =
    let passes : ltb set (2 ^ n) ≡ true = lt-ltb _ _ h in
    rw (number_again 1 set rest (omega arith), passes) refl

-- ---- what stands behind the kind

abbrev kind_of : Body → ℕ
kind_of (Estimate i e) = 1
kind_of (Proposal i r v) = 2
kind_of (Ack i r) = 3
kind_of (Decision i v) = 4
kind_of (Request v) = 5
kind_of (Nack i r) = 6
kind_of Beat = 7
kind_of (Suspects set) = 8
kind_of (Ask i) = 9

abbrev behind_kind : Body → List ℕ
behind_kind (Estimate i e) = number_bytes 4 i ++ estimate_bytes e
behind_kind (Proposal i r v) = number_bytes 4 i ++ round_bytes r v
behind_kind (Ack i r) = number_bytes 4 i ++ number_bytes 4 r
behind_kind (Decision i v) = number_bytes 4 i ++ command_bytes v
behind_kind (Request v) = command_bytes v
behind_kind (Nack i r) = number_bytes 4 i ++ number_bytes 4 r
behind_kind Beat = []
behind_kind (Suspects set) = number_bytes 1 set
behind_kind (Ask i) = number_bytes 4 i

body_bytes-parts : (b : Body) → body_bytes b ≡ number_bytes 1 (kind_of b) ++ behind_kind b
unfolding body_bytes
body_bytes-parts (Estimate i e) = refl
body_bytes-parts (Proposal i r v) = refl
body_bytes-parts (Ack i r) = refl
body_bytes-parts (Decision i v) = refl
body_bytes-parts (Request v) = refl
body_bytes-parts (Nack i r) = refl
body_bytes-parts Beat = sym (append-nil (number_bytes 1 7))
body_bytes-parts (Suspects set) = refl
body_bytes-parts (Ask i) = refl

record Behind (version : Version) (n kind : ℕ) (bytes : List ℕ) (b : Body) (rest : List ℕ) : Type 0 where
  kinds : kind_of b ≡ kind
  taken : Takes bytes (behind_kind b) rest
  lawful : IsLawfulBodyIn version n b

-- instance and round
record InstanceAndRound (version : Version) (bytes : List ℕ) (i r : ℕ) (rest : List ℕ) : Type 0 where
  taken : Takes bytes (number_bytes 4 i ++ number_bytes 4 r) rest
  instance : i < instances version
  round : IsRound r

backed_takes : (version : Version) (n kind : ℕ) (bytes : List ℕ) (y : Body × List ℕ) → 1 ≤ kind → kind ≤ 4 → IsBytes bytes → backed_at version kind bytes ≡ Ok y → Behind version n kind bytes y.0 y.1
unfolding backed_at
backed_takes version n kind bytes y low high fits e =
    let at = bind_ok (instance_at version bytes) _ y e in
    let i = instance_takes version bytes at.0 fits at.1 in
    let behind : List ℕ = at.0.1 in
    let then : (text rest : List ℕ) → Takes behind text rest → Takes bytes (number_bytes 4 at.0.0 ++ text) rest = λ text rest t. Takes-then bytes (number_bytes 4 at.0.0) behind text rest i.0 t in
    elim (chosen (eqb kind 1) _ _ _ at.2) [
      | inl c ↦
          let k : kind ≡ 1 = eqb-true _ _ c.0 in
          let a = bind_ok (estimate_at version behind) (λ (e : Estimated × List ℕ). Ok (Estimate at.0.0 e.0, e.1)) y c.1 in
          let t = estimate_takes version behind a.0 i.0.rest_fits a.1 in
          let made : Body × List ℕ = (Estimate at.0.0 a.0.0, a.0.1) in
          rw k (subst (λ (z : Body × List ℕ). Behind version n 1 bytes z.0 z.1) {x = made} (ok_is made y a.2) (record { kinds = refl; taken = then (estimate_bytes a.0.0) a.0.1 t.0; lawful = (i.1, t.1) }))
      | inr c ↦ elim (chosen (eqb kind 2) _ _ _ c.1) [
        | inl d ↦
            let k : kind ≡ 2 = eqb-true _ _ d.0 in
            let a = bind_ok (round_at behind) _ y d.1 in
            let r = round_takes behind a.0 i.0.rest_fits a.1 in
            let b = bind_ok (command_at version a.0.1) (λ (v : Command × List ℕ). Ok (Proposal at.0.0 a.0.0 v.0, v.1)) y a.2 in
            let v = command_takes version a.0.1 b.0 r.0.rest_fits b.1 in
            let made : Body × List ℕ = (Proposal at.0.0 a.0.0 b.0.0, b.0.1) in
            let tail = Takes-then behind (number_bytes 4 a.0.0) a.0.1 (command_bytes b.0.0) b.0.1 r.0 v.0 in
            rw k (subst (λ (z : Body × List ℕ). Behind version n 2 bytes z.0 z.1) {x = made} (ok_is made y b.2) (record { kinds = refl; taken = then (round_bytes a.0.0 b.0.0) b.0.1 tail; lawful = (i.1, r.1, v.1) }))
        | inr d ↦ elim (chosen (eqb kind 3) _ _ _ d.1) [
          | inl f ↦
              let k : kind ≡ 3 = eqb-true _ _ f.0 in
              let a = bind_ok (round_at behind) (λ (r : ℕ × List ℕ). Ok (Ack at.0.0 r.0, r.1)) y f.1 in
              let r = round_takes behind a.0 i.0.rest_fits a.1 in
              let made : Body × List ℕ = (Ack at.0.0 a.0.0, a.0.1) in
              rw k (subst (λ (z : Body × List ℕ). Behind version n 3 bytes z.0 z.1) {x = made} (ok_is made y a.2) (record { kinds = refl; taken = then (number_bytes 4 a.0.0) a.0.1 r.0; lawful = (i.1, r.1) }))
          | inr f ↦
              let ne1 = eqb-false _ _ c.0 in
              let ne2 = eqb-false _ _ d.0 in
              let ne3 = eqb-false _ _ f.0 in
              let k : kind ≡ 4 = omega arith in
              let a = bind_ok (command_at version behind) (λ (v : Command × List ℕ). Ok (Decision at.0.0 v.0, v.1)) y f.1 in
              let v = command_takes version behind a.0 i.0.rest_fits a.1 in
              let made : Body × List ℕ = (Decision at.0.0 a.0.0, a.0.1) in
              rw k (subst (λ (z : Body × List ℕ). Behind version n 4 bytes z.0 z.1) {x = made} (ok_is made y a.2) (record { kinds = refl; taken = then (command_bytes a.0.0) a.0.1 v.0; lawful = (i.1, v.1) }))
        ]
      ]
    ]

free_takes : (version : Version) (n kind : ℕ) (bytes : List ℕ) (y : Body × List ℕ) → 5 ≤ kind → kind ≤ 9 → IsBytes bytes → free_at version n kind bytes ≡ Ok y → Behind version n kind bytes y.0 y.1
unfolding free_at
free_takes version n kind bytes y low high fits e = elim (chosen (eqb kind 5) _ _ _ e) [
  | inl c ↦
      let k : kind ≡ 5 = eqb-true _ _ c.0 in
      let a = bind_ok (command_at version bytes) (λ (v : Command × List ℕ). Ok (Request v.0, v.1)) y c.1 in
      let v = command_takes version bytes a.0 fits a.1 in
      let made : Body × List ℕ = (Request a.0.0, a.0.1) in
      rw k (subst (λ (z : Body × List ℕ). Behind version n 5 bytes z.0 z.1) {x = made} (ok_is made y a.2) (record { kinds = refl; taken = v.0; lawful = v.1 }))
  | inr c ↦ elim (chosen (eqb kind 6) _ _ _ c.1) [
    | inl d ↦
        let k : kind ≡ 6 = eqb-true _ _ d.0 in
        let a = bind_ok (instance_at version bytes) _ y d.1 in
        let i = instance_takes version bytes a.0 fits a.1 in
        let b = bind_ok (round_at a.0.1) (λ (r : ℕ × List ℕ). Ok (Nack a.0.0 r.0, r.1)) y a.2 in
        let r = round_takes a.0.1 b.0 i.0.rest_fits b.1 in
        let made : Body × List ℕ = (Nack a.0.0 b.0.0, b.0.1) in
        let whole = Takes-then bytes (number_bytes 4 a.0.0) a.0.1 (number_bytes 4 b.0.0) b.0.1 i.0 r.0 in
        rw k (subst (λ (z : Body × List ℕ). Behind version n 6 bytes z.0 z.1) {x = made} (ok_is made y b.2) (record { kinds = refl; taken = whole; lawful = (i.1, r.1) }))
    | inr d ↦ elim (chosen (eqb kind 7) _ _ _ d.1) [
      | inl f ↦
          let k : kind ≡ 7 = eqb-true _ _ f.0 in
          let made : Body × List ℕ = (Beat, bytes) in
          rw k (subst (λ (z : Body × List ℕ). Behind version n 7 bytes z.0 z.1) {x = made} (ok_is made y f.1) (record { kinds = refl; taken = record { parts = refl; rest_fits = fits }; lawful = tt }))
      | inr f ↦ elim (chosen (eqb kind 8) _ _ _ f.1) [
        | inl g ↦
            let k : kind ≡ 8 = eqb-true _ _ g.0 in
            let a = bind_ok (set_at n bytes) (λ (s : ℕ × List ℕ). Ok (Suspects s.0, s.1)) y g.1 in
            let s = set_takes n bytes a.0 fits a.1 in
            let made : Body × List ℕ = (Suspects a.0.0, a.0.1) in
            rw k (subst (λ (z : Body × List ℕ). Behind version n 8 bytes z.0 z.1) {x = made} (ok_is made y a.2) (record { kinds = refl; taken = s.0; lawful = s.1 }))
        | inr g ↦
            let ne5 = eqb-false _ _ c.0 in
            let ne6 = eqb-false _ _ d.0 in
            let ne7 = eqb-false _ _ f.0 in
            let ne8 = eqb-false _ _ g.0 in
            let k : kind ≡ 9 = omega arith in
            let a = bind_ok (instance_at version bytes) (λ (i : ℕ × List ℕ). Ok (Ask i.0, i.1)) y g.1 in
            let i = instance_takes version bytes a.0 fits a.1 in
            let made : Body × List ℕ = (Ask a.0.0, a.0.1) in
            rw k (subst (λ (z : Body × List ℕ). Behind version n 9 bytes z.0 z.1) {x = made} (ok_is made y a.2) (record { kinds = refl; taken = i.0; lawful = i.1 }))
      ]
    ]
  ]
]

-- what stands behind the kind, read by the kind
abbrev with_kind : (version : Version) → ℕ → ℕ → List ℕ → Reading Body
with_kind version n kind bytes = cond (leb kind 4) (backed_at version kind bytes) (free_at version n kind bytes)

with_kind_takes : (version : Version) (n kind : ℕ) (bytes : List ℕ) (y : Body × List ℕ) → 1 ≤ kind → kind ≤ 9 → IsBytes bytes → with_kind version n kind bytes ≡ Ok y → Behind version n kind bytes y.0 y.1
with_kind_takes version n kind bytes y low high fits e = elim (chosen (leb kind 4) _ _ _ e) [
  | inl c ↦ backed_takes version n kind bytes y low (leb-true _ _ c.0) fits c.1
  | inr c ↦
      let past : 4 < kind = leb-false _ _ c.0 in
      free_takes version n kind bytes y (omega arith) high fits c.1
]

with_kind_again : (version : Version) (n : ℕ) (b : Body) (rest : List ℕ) → 2 ^ n ≤ 128 → IsLawfulBodyIn version n b → with_kind version n (kind_of b) (behind_kind b ++ rest) ≡ Ok (b, rest)
unfolding backed_at free_at
with_kind_again version n (Estimate i e) rest few h = rw (append_assoc (number_bytes 4 i) (estimate_bytes e) rest, instance_again version i (estimate_bytes e ++ rest) h.0, estimate_again version e rest h.1) refl
with_kind_again version n (Proposal i r v) rest few h =
    let regrouped : (number_bytes 4 i ++ (number_bytes 4 r ++ command_bytes v)) ++ rest ≡ number_bytes 4 i ++ (number_bytes 4 r ++ (command_bytes v ++ rest)) =
    append_assoc (number_bytes 4 i) (number_bytes 4 r ++ command_bytes v) rest ∙ ap (λ (t : List ℕ). number_bytes 4 i ++ t) (append_assoc (number_bytes 4 r) (command_bytes v) rest) in
    rw (regrouped, instance_again version i (number_bytes 4 r ++ (command_bytes v ++ rest)) h.0, round_again r (command_bytes v ++ rest) h.1, command_again version v rest h.2) refl
with_kind_again version n (Ack i r) rest few h = rw (append_assoc (number_bytes 4 i) (number_bytes 4 r) rest, instance_again version i (number_bytes 4 r ++ rest) h.0, round_again r rest h.1) refl
with_kind_again version n (Decision i v) rest few h = rw (append_assoc (number_bytes 4 i) (command_bytes v) rest, instance_again version i (command_bytes v ++ rest) h.0, command_again version v rest h.1) refl
with_kind_again version n (Request v) rest few h = rw (command_again version v rest h) refl
with_kind_again version n (Nack i r) rest few h = rw (append_assoc (number_bytes 4 i) (number_bytes 4 r) rest, instance_again version i (number_bytes 4 r ++ rest) h.0, round_again r rest h.1) refl
with_kind_again version n Beat rest few h = refl
with_kind_again version n (Suspects set) rest few h = rw (set_again n set rest few h) refl
with_kind_again version n (Ask i) rest few h = rw (instance_again version i rest h) refl

kind_low : (b : Body) → 1 ≤ kind_of b
kind_low (Estimate i e) = omega arith
kind_low (Proposal i r v) = omega arith
kind_low (Ack i r) = omega arith
kind_low (Decision i v) = omega arith
kind_low (Request v) = omega arith
kind_low (Nack i r) = omega arith
kind_low Beat = omega arith
kind_low (Suspects set) = omega arith
kind_low (Ask i) = omega arith

kind_high : (b : Body) → kind_of b ≤ 9
kind_high (Estimate i e) = omega arith
kind_high (Proposal i r v) = omega arith
kind_high (Ack i r) = omega arith
kind_high (Decision i v) = omega arith
kind_high (Request v) = omega arith
kind_high (Nack i r) = omega arith
kind_high Beat = omega arith
kind_high (Suspects set) = omega arith
kind_high (Ask i) = omega arith

-- ---- kind and body

body_takes : (version : Version) (n : ℕ) (bytes : List ℕ) (y : Body × List ℕ) → IsBytes bytes → body_at version n bytes ≡ Ok y → Takes bytes (body_bytes y.0) y.1 × IsLawfulBodyIn version n y.0
unfolding body_at
body_takes version n bytes y fits e =
    let a = checked_takes 1 (λ k. leb 1 k && leb k 9) bytes (λ kind. with_kind version n kind.0 kind.1) y fits e in
    let range = and_parts (leb 1 a.0.0) (leb a.0.0 9) a.3 in
    let w = with_kind_takes version n a.0.0 a.0.1 y (leb-true _ _ range.0) (leb-true _ _ range.1) a.1.rest_fits a.4 in
    let whole = Takes-then bytes (number_bytes 1 a.0.0) a.0.1 (behind_kind y.0) y.1 a.1 w.taken in
    (rw (body_bytes-parts y.0, w.kinds) whole, w.lawful)

body_again : (version : Version) (n : ℕ) (b : Body) (rest : List ℕ) → 2 ^ n ≤ 128 → IsLawfulBodyIn version n b → body_at version n (body_bytes b ++ rest) ≡ Ok (b, rest)
unfolding body_at
body_again version n b rest few h =
    let tail : List ℕ = behind_kind b ++ rest in
    let regrouped : body_bytes b ++ rest ≡ number_bytes 1 (kind_of b) ++ tail = ap (λ (t : List ℕ). t ++ rest) (body_bytes-parts b) ∙ append_assoc (number_bytes 1 (kind_of b)) (behind_kind b) rest in
    let low = kind_low b in
    let high = kind_high b in
    let passes : (leb 1 (kind_of b) && leb (kind_of b) 9) ≡ true = and_from _ _ (le-leb _ _ low) (le-leb _ _ high) in
    ap (body_at version n) regrouped
    ∙ checked_again 1 (λ k. leb 1 k && leb k 9) (kind_of b) tail (λ kind. with_kind version n kind.0 kind.1) (omega arith) passes
    ∙ with_kind_again version n b rest few h

-- ---- a message

-- a version in which a message has this spelling in front
record TakesMessage (n : ℕ) (bytes : List ℕ) (m : Message) (rest : List ℕ) : Type 0 where
  version : Version
  taken : Takes bytes (message_bytes_in version m) rest
  lawful : IsLawfulMessageIn version n m

message_takes : (n : ℕ) (bytes : List ℕ) (y : Message × List ℕ) → IsBytes bytes → message_at n bytes ≡ Ok y → TakesMessage n bytes y.0 y.1
unfolding message_at message_bytes_in
message_takes n bytes y fits e =
    let v = bind_ok (version_at bytes) _ y e in
    let first = version_takes bytes v.0 fits v.1 in
    let b = bind_ok (node_at n v.0.1) _ y v.2 in
    let from = node_takes n v.0.1 b.0 first.rest_fits b.1 in
    let d = bind_ok (node_at n b.0.1) _ y b.2 in
    let to = node_takes n b.0.1 d.0 from.0.rest_fits d.1 in
    let f = bind_ok (body_at v.0.0 n d.0.1) _ y d.2 in
    let body = body_takes v.0.0 n d.0.1 f.0 to.0.rest_fits f.1 in
    let front : List ℕ = number_bytes 1 (version_number v.0.0) in
    let made : Message × List ℕ = (record { from = b.0.0; to = d.0.0; body = f.0.0 }, f.0.1) in
    let behind_from = Takes-then b.0.1 (number_bytes 1 d.0.0) d.0.1 (body_bytes f.0.0) f.0.1 to.0 body.0 in
    let behind_version = Takes-then v.0.1 (number_bytes 1 b.0.0) b.0.1 (number_bytes 1 d.0.0 ++ body_bytes f.0.0) f.0.1 from.0 behind_from in
    let whole = Takes-then bytes front v.0.1 (number_bytes 1 b.0.0 ++ (number_bytes 1 d.0.0 ++ body_bytes f.0.0)) f.0.1 first behind_version in
    subst (λ (z : Message × List ℕ). TakesMessage n bytes z.0 z.1) {x = made} (ok_is made y f.2) (record { version = v.0.0; taken = whole; lawful = record { from = from.1; to = to.1; body = body.1 } })

message_again : (version : Version) (n : ℕ) (m : Message) (rest : List ℕ) → n ≤ 7 → 2 ^ n ≤ 128 → IsLawfulMessageIn version n m → message_at n (message_bytes_in version m ++ rest) ≡ Ok (m, rest)
unfolding message_at message_bytes_in
message_again version n m rest few sets h =
    let front : List ℕ = number_bytes 1 (version_number version) in
    let body : List ℕ = body_bytes m.body in
    let to : List ℕ = number_bytes 1 m.to in
    let from : List ℕ = number_bytes 1 m.from in
    let regrouped : (front ++ (from ++ (to ++ body))) ++ rest ≡ front ++ (from ++ (to ++ (body ++ rest))) =
    append_assoc front (from ++ (to ++ body)) rest
    ∙ ap (λ (t : List ℕ). front ++ t) (append_assoc from (to ++ body) rest ∙ ap (λ (t : List ℕ). from ++ t) (append_assoc to body rest)) in
    ap (message_at n) regrouped
    ∙ rw (version_again version (from ++ (to ++ (body ++ rest))), node_again n m.from (to ++ (body ++ rest)) few h.from, node_again n m.to (body ++ rest) few h.to, body_again version n m.body rest sets h.body) refl

-- ---- all the bytes

-- a version in which these bytes are the message's spelling
abbrev pub IsSpelling : ℕ → List ℕ → Message → Type 0
IsSpelling n bytes m = (version : Version) × IsLawfulMessageIn version n m × (bytes ≡ message_bytes_in version m)

pub message_found : (n : ℕ) (bytes : List ℕ) (m : Message) → IsBytes bytes → message_in n bytes ≡ Ok m → IsSpelling n bytes m
unfolding message_in
message_found n bytes m fits e =
    let t = message_takes n bytes (m, []) fits (at_end_ok (length bytes) (message_at n bytes) m e) in
    (t.version, t.lawful, t.taken.parts ∙ append-nil (message_bytes_in t.version m))

-- 2 to the number of nodes fits a byte
few_sets : (n : ℕ) → n ≤ 7 → 2 ^ n ≤ 128
few_sets n h = pow_mono h

pub message_spelt : (version : Version) (n : ℕ) (m : Message) → n ≤ 7 → IsLawfulMessageIn version n m → message_in n (message_bytes_in version m) ≡ Ok m
unfolding message_in
message_spelt version n m few h =
    let read : message_at n (message_bytes_in version m) ≡ Ok (m, []) = ap (message_at n) (sym (append-nil (message_bytes_in version m))) ∙ message_again version n m [] few (few_sets n few) h in
    rw read refl

pub message_answer_found : (n : ℕ) (bytes : List ℕ) (r : Result Message Refusal) → IsBytes bytes → r ≡ answer_of (message_in n bytes) → IfOk r (λ m. IsSpelling n bytes m)
message_answer_found n bytes (Ok m) fits e = message_found n bytes m fits (answered (message_in n bytes) m e)
  where
    answered : (read : Result Message ℕ) (m : Message) → Ok m ≡ answer_of read → read ≡ Ok m
    answered (Ok x) m e = cc
    answered (Err k) m e = absurd cc
message_answer_found n bytes (Err x) fits e = tt
