-- Folders that were read, one after another.
use Rattle.std.proofs.Common.{◌≡◌, ◌∙◌, ℕ, zero, suc, ◌+◌, ◌≤◌, Bool, true, false, List, [], ◌∷◌, ◌++◌, length, take, arith, refl, sym, ap, ap₂, subst}
use Rattle.std.proofs.lemmas.Bool.{false≢true}
use Rattle.std.proofs.Math.Seq.{take-append_seam}
use Rattle.rr_stream.specs.Streams.{Printing}
use Rattle.rr_words.specs.declared.tasks.Form.{Form}
use Rattle.rr_folders.specs.Judged.{MayStart}
use Rattle.rr_folders.specs.Sifts.{AreUsed, set_aside}
use Rattle.rr_folders.specs.declared.verdict.Verdict.{Verdict}
use Rattle.rr_folders.specs.Agreement.{Agree, HaveOneList, clashes_from}
use Rattle.rr_folders.specs.Texts.{verdict_text}
use Rattle.rr_cli.specs.Ends.{Prints, EndsOnVerification, verified, differing}
use Rattle.std.specs.List.{AllByRecursion}
use Rattle.rr_folders.specs.declared.verify_folder.Reading.{Reading}
use Rattle.rr_cli.specs.Clusters.{IsRead, AreRead, form_in, unlike, left_status}

-- one more
pub all_more : (rs : List Reading) (r : Reading) → AllByRecursion IsRead rs → IsRead r → AllByRecursion IsRead (rs ++ r ∷ [])
all_more [] r all one = (one, tt)
all_more (s ∷ rs) r all one = (all.0, all_more rs r all.1 one)

all_taken : (n : ℕ) (rs : List Reading) → AllByRecursion IsRead rs → AllByRecursion IsRead (take n rs)
all_taken zero rs all = tt
all_taken (suc n) [] all = tt
all_taken (suc n) (r ∷ rs) all = (all.0, all_taken n rs all.1)

some_taken : (n : ℕ) (rs : List Reading) → 1 ≤ n → 1 ≤ length rs → 1 ≤ length (take n rs)
some_taken zero rs least some = absurd (omega arith)
some_taken (suc n) [] least some = absurd (omega arith)
some_taken (suc n) (r ∷ rs) least some = omega arith

-- the first of them
pub taken : (n : ℕ) (rs : List Reading) → 1 ≤ n → 1 ≤ length rs → AllByRecursion IsRead rs → AreRead (take n rs)
taken n rs least some all = record { some = some_taken n rs least some; each = all_taken n rs all }

-- ---- verification

agree_is : {A : Type 0} (b : Bool) → (b ≡ true → A) × (A → b ≡ true) → b ≡ false → A → ⊥
agree_is b both differs agree = false≢true (sym differs ∙ both.1 agree)

-- what was printed says that they agree, and that a start over them wouldn't be refused
pub agreed_ends : (form : Form) (refused : Bool) (rs : List Reading) (v : Verdict) (text : List ℕ) (status : ℕ) (old new : Printing) → AreRead rs
    → (v.agree ≡ true → Agree rs × (refused ≡ false)) × (Agree rs × (refused ≡ false) → v.agree ≡ true) → (v.agree ≡ true → HaveOneList rs) → (refused ≡ false → MayStart (length rs))
    → v.clashes.items ≡ clashes_from 0 rs → text ≡ verdict_text (form_in form) rs v.clashes.items v.agree → v.agree ≡ true → Prints text status old new
    → EndsOnVerification form refused status old new
agreed_ends form refused rs v text status old new read both one start exact is said prints =
    verified rs read (both.0 said).0 (one said) (start (both.0 said).1)
    (subst (λ t. Prints t status old new) (is ∙ ap₂ (λ cs b. verdict_text (form_in form) rs cs b) exact said) prints)

-- or that they don't, or that it would
pub disagreed_ends : (form : Form) (refused : Bool) (rs : List Reading) (v : Verdict) (text : List ℕ) (printing status : ℕ) (old new : Printing) → AreRead rs
    → (v.agree ≡ true → Agree rs × (refused ≡ false)) × (Agree rs × (refused ≡ false) → v.agree ≡ true)
    → v.clashes.items ≡ clashes_from 0 rs → text ≡ verdict_text (form_in form) rs v.clashes.items v.agree → v.agree ≡ false → Prints text printing old new → status ≡ unlike printing
    → EndsOnVerification form refused status old new
disagreed_ends form refused rs v text printing status old new read both exact is said prints ends =
    differing rs printing read (agree_is v.agree both said)
    (subst (λ t. Prints t printing old new) (is ∙ ap₂ (λ cs b. verdict_text (form_in form) rs cs b) exact said) prints) ends

pub unlike_some : (printing : ℕ) → unlike printing ≡ 0 → ⊥
unlike_some zero none = absurd cc
unlike_some (suc n) none = absurd (omega (arith, none))

-- an export that ends well has used each folder that holds facts
pub left_well : (told : Bool) (status : ℕ) → left_status told status ≡ 0 → (told ≡ false) × (status ≡ 0)
left_well true status well = absurd (unlike_some status well)
left_well false status well = (refl, well)

-- ---- folders that are used

as_many : (w p : ℕ) (rs : List Reading) → length (set_aside w p rs) ≡ length rs
as_many w p [] = refl
as_many w p (r ∷ rs) = ap suc (as_many w (p + 1) rs)

-- those that are used stand in the place of those that were read
pub used_in_place : (before after rest : List Reading) (told : Bool) (n : ℕ) → AreUsed before after told → n ≡ length before → take n (after ++ rest) ≡ after
used_in_place before after rest told n used is =
    let same : length after ≡ length before = ap (λ (rs : List Reading). length rs) used.1 ∙ as_many used.0 0 before in
    subst (λ (k : ℕ). take k (after ++ rest) ≡ after) (same ∙ sym is) (take-append_seam after rest)
