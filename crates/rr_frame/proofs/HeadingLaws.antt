-- Reading entries one after the other without keeping them.
use Rattle.std.proofs.Common.{◌≡◌, ℕ, suc, ◌-◌, ◌+◌, ◌≤◌, ◌<◌, List, [], ◌∷◌, length, Option, None, Some, Ok, Err, refl, sym, ap, ◌∙◌, arith}
use Rattle.rr_types.specs.declared.promise.Entry.{Entry}
use Rattle.rr_frame.specs.declared.version.Version.{Version}
use Rattle.rr_frame.specs.declared.heading.Heading.{Heading}
use Rattle.rr_frame.specs.Snapshots.{Snapped}
use Rattle.rr_frame.specs.Reading.{Reading, ◌>>=◌, at_end}
use Rattle.rr_frame.specs.SnapshotFormat.{entry_at, entries_at}
use Rattle.rr_frame.specs.Headings.{nothing, told}

-- what is kept of a value that is made of another one
pub told_bind : {A B C : Type 0} (make : A → B) (keep : B → C) (read : Reading A) → told keep (read >>= λ x. Ok (make x.0, x.1)) ≡ told (λ a. keep (make a)) read
told_bind make keep (Ok x) = refl
told_bind make keep (Err left) = refl

pub pass_on : (version : Version) (n p low count i : ℕ) (bytes : List ℕ) (x : Entry) (after : List ℕ) → i < count → entry_at version n p low bytes ≡ Ok (x, after)
    → told nothing (entries_at version n p low (count - i) bytes) ≡ told nothing (entries_at version n p (x.instance + 1) (count - (i + 1)) after)
unfolding entries_at
pass_on version n p low count i bytes x after lt h =
    let k : count - i ≡ suc (count - (i + 1)) = omega arith in
    rw (k, h) (told_bind (λ (es : List Entry). x ∷ es) nothing (entries_at version n p (x.instance + 1) (count - (i + 1)) after))

pub pass_stop : (version : Version) (n p low count i : ℕ) (bytes : List ℕ) (left : ℕ) → i < count → entry_at version n p low bytes ≡ Err left
    → told nothing (entries_at version n p low (count - i) bytes) ≡ Err left
unfolding entries_at
pass_stop version n p low count i bytes left lt h =
    let k : count - i ≡ suc (count - (i + 1)) = omega arith in
    rw (k, h) refl

pub pass_end : (version : Version) (n p low count i : ℕ) (bytes : List ℕ) → count ≤ i → told nothing (entries_at version n p low (count - i) bytes) ≡ Ok (tt, bytes)
unfolding entries_at
pass_end version n p low count i bytes le =
    let k : count - i ≡ 0 = omega arith in
    rw k refl
