-- Showing a folder ends as defined: the text on what an inspection tells is printed, or a refusal has its status.
use Rattle.std.proofs.Common.{◌≡◌, ◌⊎◌, ℕ, List, [], ◌∷◌, ◌++◌, Option, None, Result, Ok, Err, refl, ap, inl, inr, codes, append_assoc}
use Rattle.std.specs.Prelude.{decimal}
use Rattle.std.specs.Prelude.{Vec}
use Rattle.std.specs.declared.alloc.Global.{Global}
use Rattle.rr_types.specs.declared.refusal.Refusal.{Refusal}
use Rattle.rr_types.specs.declared.refusal.Refusal.TheVariants as refusals
use Rattle.rr_disk.specs.declared.area.Area.{Area}
use Rattle.rr_journal.specs.declared.inspection.AreaReport.{AreaReport}
use Rattle.rr_journal.specs.Inspect.{Inspects, IsTold, inspected}
use Rattle.rr_journal.proofs.InspectLaws.{seen_by}
use Rattle.rr_text.specs.ReportTexts.{line}
use Rattle.rr_words.specs.declared.tasks.Form.{Form}
use Rattle.rr_words.specs.declared.tasks.Form.TheVariants.{Plain}
use Rattle.rr_cli.specs.Areas.{area_words, areas_in, IsShownIn}
use Rattle.rr_stream.specs.Streams.{Printing}
use Rattle.rr_cli.specs.Ends.{Prints, EndsOnFolder, told, broken, failed}
use Rattle.rr_cli.specs.Refusals.{status_of}

-- some areas were shown so in a form, or the device refused
abbrev pub ShowsSomeIn : Form → Result (Vec ℕ Global) Refusal → Type 0
ShowsSomeIn form result = ((first : List ℕ) × (second : List ℕ) × IsShownIn form result (inspected first second)) ⊎ (result ≡ Err refusals.Device)

-- the same for people
abbrev pub ShowsSome : Result (Vec ℕ Global) Refusal → Type 0
ShowsSome result = ShowsSomeIn Plain result

abbrev answered : Option AreaReport → Option AreaReport → Result (Option AreaReport × Option AreaReport) Refusal
answered first second = Ok (first, second)

abbrev refused : Refusal → Result (Option AreaReport × Option AreaReport) Refusal
refused e = Err e

-- the text on what an inspection told is the text on some areas
pub text_shown : (form : Form) {D : Type 0} (of_read : D → Area → ℕ → ℕ → Result (Vec ℕ Global) Refusal → D → Type 0) (old new : D) (first second : Option AreaReport) (text : Vec ℕ Global)
    → Inspects of_read old (Ok (first, second)) new → text.items ≡ areas_in form first second → ShowsSomeIn form (Ok text)
text_shown form of_read old new first second text seen is = by_seen (seen_by of_read old new (answered first second) seen)
  where
    by_seen : ((a : List ℕ) × (b : List ℕ) × IsTold (answered first second) (inspected a b)) ⊎ (answered first second ≡ refused refusals.Device) → ShowsSomeIn form (Ok text)
    by_seen (inl (a, b, tells)) = inl (a, b, (first, second, tells, is))
    by_seen (inr device) = absurd cc

-- the refusal of an inspection is handed on
pub refusal_shown : (form : Form) {D : Type 0} (of_read : D → Area → ℕ → ℕ → Result (Vec ℕ Global) Refusal → D → Type 0) (old new : D) (e : Refusal) → Inspects of_read old (Err e) new → ShowsSomeIn form (Err e)
refusal_shown form of_read old new e seen = by_seen (seen_by of_read old new (refused e) seen)
  where
    by_seen : ((a : List ℕ) × (b : List ℕ) × IsTold (refused e) (inspected a b)) ⊎ (refused e ≡ refused refusals.Device) → ShowsSomeIn form (Err e)
    by_seen (inl seen) = inl seen
    by_seen (inr device) = let is : e ≡ refusals.Device = cc in rw is (inr refl)

pub no_memory_shown : (form : Form) → ShowsSomeIn form (Err refusals.OutOfMemory)
no_memory_shown form = inl ([], [], tt)

-- the text was printed
pub text_ends : (form : Form) (text : Vec ℕ Global) (status : ℕ) (old new : Printing) → ShowsSomeIn form (Ok text) → Prints text.items status old new → EndsOnFolder form status old new
text_ends form text status old new (inl (a, b, (first, second, tells, is))) prints = told a b first second tells (rw is at prints)
text_ends form text status old new (inr device) prints = absurd cc

abbrev pub the_err : Refusal → Result (Vec ℕ Global) Refusal
the_err e = Err e

pub err_is : (e d : Refusal) → the_err e ≡ the_err d → e ≡ d
err_is e d is = cc

-- nothing was printed
pub refusal_ends : (form : Form) (e : Refusal) (status : ℕ) (old new : Printing) → ShowsSomeIn form (Err e) → status ≡ status_of e → new ≡ old → EndsOnFolder form status old new
refusal_ends form e status old new (inr device) is same = let by_device : e ≡ refusals.Device = err_is e refusals.Device device in failed (inl (rw by_device at is)) same
refusal_ends form refusals.OutOfMemory status old new (inl seen) is same = failed (inr is) same
refusal_ends form (refusals.Damaged number offset) status old new (inl (a, b, (area, named, breaks))) is same = broken a b area offset breaks is same
refusal_ends form refusals.Device status old new (inl (a, b, none)) is same = absurd none
refusal_ends form refusals.Failed status old new (inl (a, b, none)) is same = absurd none
refusal_ends form refusals.Down status old new (inl (a, b, none)) is same = absurd none
refusal_ends form refusals.BadNodes status old new (inl (a, b, none)) is same = absurd none
refusal_ends form refusals.BadName status old new (inl (a, b, none)) is same = absurd none
refusal_ends form refusals.BadValue status old new (inl (a, b, none)) is same = absurd none
refusal_ends form refusals.ListFull status old new (inl (a, b, none)) is same = absurd none
refusal_ends form refusals.RoundsOut status old new (inl (a, b, none)) is same = absurd none
refusal_ends form (refusals.Malformed offset) status old new (inl (a, b, none)) is same = absurd none
refusal_ends form refusals.StrangeMark status old new (inl (a, b, none)) is same = absurd none
refusal_ends form refusals.Busy status old new (inl (a, b, none)) is same = absurd none
refusal_ends form (refusals.BadEvent line) status old new (inl (a, b, none)) is same = absurd none
refusal_ends form refusals.SeatsTaken status old new (inl (a, b, none)) is same = absurd none
refusal_ends form refusals.TooLarge status old new (inl (a, b, none)) is same = absurd none
refusal_ends form (refusals.AuditNo index) status old new (inl (a, b, none)) is same = absurd none
refusal_ends form refusals.NoGuard status old new (inl (a, b, none)) is same = absurd none

-- the line on an area that isn't formatted
pub unformatted_line : (n : ℕ) → line (area_words n None) ≡ codes "area " ++ (decimal n ++ (32 ∷ codes "unformatted" ++ 10 ∷ []))
unformatted_line n = ap (λ text. codes "area " ++ text) (append_assoc (decimal n) (32 ∷ codes "unformatted") (10 ∷ []))
