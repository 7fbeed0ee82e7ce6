-- A version that is read is the one that was written, and is read again. Version 2 allows whatever version 1 does.
use Rattle.std.proofs.Common.{◌≡◌, ℕ, ◌≤◌, Bool, true, false, cond, eqb, ◌||◌, List, length, ◌++◌, Ok, refl, sym, subst, arith}
use Rattle.std.proofs.lemmas.Bool.{eqb-true}
use Rattle.rr_types.specs.Commands.{op_kinds}
use Rattle.rr_frame.specs.declared.version.Version.{Version}
use Rattle.rr_frame.specs.declared.version.Version.TheVariants.{One, Two}
use Rattle.rr_frame.specs.Numbers.{number_bytes}
use Rattle.rr_frame.specs.Versions.{version_number, longest_name, instances, operations, version_of, version_at}
use Rattle.rr_frame.proofs.FieldLaws.{IsBytes, ok_is, Takes, checked_takes, checked_again}

pub names_at_most : (version : Version) → longest_name version ≤ 64
names_at_most One = omega arith
names_at_most Two = omega arith

pub instances_at_most : (version : Version) → instances version ≤ 1048576
instances_at_most One = omega arith
instances_at_most Two = omega arith

pub operations_at_most : (version : Version) → operations version ≤ length op_kinds
operations_at_most One = omega arith
operations_at_most Two = omega arith

abbrev is_version : ℕ → Bool
is_version k = eqb k 1 || eqb k 2

number_is : (k : ℕ) → is_version k ≡ true → version_number (version_of k) ≡ k
number_is k h = by (eqb k 1) refl h
  where
    by : (t : Bool) → eqb k 1 ≡ t → (t || eqb k 2) ≡ true → version_number (cond t One Two) ≡ k
    by true e h = sym (eqb-true _ _ e)
    by false e h = sym (eqb-true _ _ h)

pub version_takes : (bytes : List ℕ) (y : Version × List ℕ) → IsBytes bytes → version_at bytes ≡ Ok y → Takes bytes (number_bytes 1 (version_number y.0)) y.1
unfolding version_at
version_takes bytes y fits e =
    let a = checked_takes 1 is_version bytes _ y fits e in
    let made : Version × List ℕ = (version_of a.0.0, a.0.1) in
    let here : Takes bytes (number_bytes 1 (version_number (version_of a.0.0))) a.0.1 = rw (number_is a.0.0 a.3) a.1 in
    subst (λ (z : Version × List ℕ). Takes bytes (number_bytes 1 (version_number z.0)) z.1) {x = made} (ok_is made y a.4) here

pub version_again : (version : Version) (rest : List ℕ) → version_at (number_bytes 1 (version_number version) ++ rest) ≡ Ok (version, rest)
unfolding version_at
version_again One rest = checked_again 1 is_version 1 rest (λ k. Ok (version_of k.0, k.1)) (omega arith) refl
version_again Two rest = checked_again 1 is_version 2 rest (λ k. Ok (version_of k.0, k.1)) (omega arith) refl
