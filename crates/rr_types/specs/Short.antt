-- A text of at most 64 bytes, kept in an array of 64 with zeros behind it.
use Rattle.std.specs.Prelude.{◌≡◌, ℕ, ◌-◌, ◌≤◌, List, ◌++◌, length, take, drop, replicate}
use Rattle.rr_types.specs.declared.short.Short.TheInside.{Inside}
use Rattle.std.proofs.Common.{arith, ap, sym, ◌∙◌}
use Rattle.std.proofs.lemmas.List.{length-take-le, take-append-drop}

-- the bytes behind the text are zeros, and the array has 64
pub record IsPadded (len : ℕ) (bytes : List ℕ) : Type 0 where
  pub short : len ≤ 64
  pub whole : length bytes ≡ 64
  pub zeros : drop len bytes ≡ replicate (64 - len) 0

-- the fields follow from the text alone
pub inverse-view : (s : Inside) → IsPadded s.len s.bytes
    → (let make : ℕ → List ℕ → Inside = (λ n b. record { len = n; bytes = b })
    in make (length (take s.len s.bytes))
    (take s.len s.bytes ++ replicate (64 - length (take s.len s.bytes)) 0)
    ≡ s)
inverse-view s h =
    let make : ℕ → List ℕ → Inside = (λ n b. record { len = n; bytes = b }) in
    let front : length (take s.len s.bytes) ≡ s.len = length-take-le s.len s.bytes (omega (arith, h.whole, h.short)) in
    ap (λ n. make n (take s.len s.bytes ++ replicate (64 - n) 0)) front
    ∙ ap (λ z. make s.len (take s.len s.bytes ++ z)) (sym h.zeros)
    ∙ ap (λ b. make s.len b) (take-append-drop s.len s.bytes)
