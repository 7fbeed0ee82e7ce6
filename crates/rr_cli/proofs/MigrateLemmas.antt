-- A migration of a folder ends as defined: the text on both areas is printed, or a refusal has its status.
use Rattle.std.proofs.Common.{◌≡◌, ◌⊎◌, ℕ, Result, Ok, Err, refl, sym, subst, inl, inr}
use Rattle.std.specs.Prelude.{Vec, IfOk, IfErr}
use Rattle.std.specs.declared.alloc.Global.{Global}
use Rattle.rr_types.specs.declared.refusal.Refusal.{Refusal}
use Rattle.rr_types.specs.declared.refusal.Refusal.TheVariants as refusals
use Rattle.rr_journal.specs.Inspect.{Inspected}
use Rattle.rr_journal.specs.OpeningCourse.{IsRefused}
use Rattle.rr_stream.specs.Streams.{Printing}
use Rattle.rr_cli.specs.Areas.{IsShown}
use Rattle.rr_cli.specs.Migrations.{TellsSome, IsUnmigrated}
use Rattle.rr_cli.specs.Ends.{Prints, IsStreamStatus, EndsOnMigration, migrated, unmigrated}
use Rattle.rr_cli.proofs.ShowLemmas.{ShowsSome, err_is}

-- an opening is refused so
pub unopened : {D : Type 0} (faults : D → ℕ) (old new : D) (e : Refusal) → IsRefused faults old (e, new) → IsUnmigrated e
unopened faults old new e (inl memory) = subst (λ r. IsUnmigrated r) (sym memory) (inr (inr refl))
unopened faults old new e (inr (inl (device, grew))) = subst (λ r. IsUnmigrated r) (sym device) (inr (inl refl))
unopened faults old new e (inr (inr (inl (area, offset, damaged)))) = subst (λ r. IsUnmigrated r) (sym damaged) (inl refl)
unopened faults old new e (inr (inr (inr large))) = subst (λ r. IsUnmigrated r) (sym large) (inr (inl refl))

-- so is a text on areas
pub unshown : (e : Refusal) → ShowsSome (Err e) → IsUnmigrated e
unshown e (inr device) = let by_device : e ≡ refusals.Device = err_is e refusals.Device device in subst (λ r. IsUnmigrated r) (sym by_device) (inr (inl refl))
unshown refusals.OutOfMemory (inl seen) = inr (inr refl)
unshown (refusals.Damaged number offset) (inl seen) = inl refl
unshown refusals.Device (inl seen) = inr (inl refl)
unshown refusals.Failed (inl seen) = inr (inl refl)
unshown refusals.Down (inl seen) = inr (inl refl)
unshown refusals.BadNodes (inl (a, b, none)) = absurd none
unshown refusals.BadName (inl seen) = inr (inl refl)
unshown refusals.BadValue (inl seen) = inr (inl refl)
unshown refusals.ListFull (inl seen) = inr (inl refl)
unshown refusals.RoundsOut (inl seen) = inr (inl refl)
unshown (refusals.Malformed offset) (inl seen) = inr (inl refl)
unshown refusals.StrangeMark (inl seen) = inr (inl refl)
unshown refusals.Busy (inl seen) = inr (inl refl)
unshown (refusals.BadEvent line) (inl (a, b, none)) = absurd none
unshown refusals.SeatsTaken (inl seen) = inr (inl refl)
unshown refusals.TooLarge (inl seen) = inr (inl refl)
unshown (refusals.AuditNo index) (inl (a, b, none)) = absurd none
unshown refusals.NoGuard (inl seen) = inr (inl refl)

-- the disk of a folder can't be opened
pub unmade : (e : Refusal) → (e ≡ refusals.OutOfMemory) ⊎ (e ≡ refusals.Device) → IsUnmigrated e
unmade e (inl memory) = subst (λ r. IsUnmigrated r) (sym memory) (inr (inr refl))
unmade e (inr device) = subst (λ r. IsUnmigrated r) (sym device) (inr (inl refl))

-- a text is one on some areas, and a refusal one of a migration
pub tells_some : (result : Result (Vec ℕ Global) Refusal) → ShowsSome result → IfOk result TellsSome
tells_some (Ok text) (inl seen) = seen
tells_some (Ok text) (inr device) = absurd cc
tells_some (Err e) seen = tt

pub refused_so : (result : Result (Vec ℕ Global) Refusal) → ShowsSome result → IfErr result IsUnmigrated
refused_so (Ok text) seen = tt
refused_so (Err e) seen = unshown e seen

-- the text is on these areas, or it is refused
pub shown_so : (result : Result (Vec ℕ Global) Refusal) (seen : Inspected) → IsShown result seen ⊎ (result ≡ Err refusals.Device) → IfOk result (λ text. IsShown (Ok text) seen)
shown_so (Ok text) seen (inl is) = is
shown_so (Ok text) seen (inr device) = absurd cc
shown_so (Err e) seen either = tt

pub unshown_so : (Z : Refusal → Type 0) (result : Result (Vec ℕ Global) Refusal) (seen : Inspected) → IsShown result seen ⊎ (result ≡ Err refusals.Device)
    → IfErr result (λ e. (e ≡ refusals.OutOfMemory) ⊎ (e ≡ refusals.Device) ⊎ Z e ⊎ IsShown (Err e) seen)
unshown_so Z (Ok text) seen either = tt
unshown_so Z (Err e) seen (inl is) = inr (inr (inr is))
unshown_so Z (Err e) seen (inr device) = inr (inl (err_is e refusals.Device device))

-- the text was printed
pub text_migrates : (text : Vec ℕ Global) (status : ℕ) (old new : Printing) → TellsSome text → Prints text.items status old new → EndsOnMigration status old new
text_migrates text status old new (a, b, (first, second, tells, is)) prints = migrated a b first second tells (rw is at prints)

-- the folder couldn't be locked
pub unlocked_migrates : (status : ℕ) (old new : Printing) → IsStreamStatus status → new ≡ old → EndsOnMigration status old new
unlocked_migrates status old new (inl device) same = unmigrated refusals.Device (inr (inl refl)) device same
unlocked_migrates status old new (inr memory) same = unmigrated refusals.OutOfMemory (inr (inr refl)) memory same
