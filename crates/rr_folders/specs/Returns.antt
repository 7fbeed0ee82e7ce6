-- A node's disk at home: a node that starts again comes back to it only if it is the node's, and as far as the node left it.
use Rattle.std.specs.Prelude.{◌≡◌, ◌⊎◌, ℕ, Option, None, Some, Result, Ok, Err, MatchResult}
use Rattle.rr_types.specs.declared.refusal.Refusal.{Refusal}
use Rattle.rr_types.specs.declared.refusal.Refusal.TheVariants.{Device, OutOfMemory}
use Rattle.rr_types.specs.Counts.{counted}
use Rattle.rr_folders.specs.declared.cluster.Reached.{Reached}
use Rattle.rr_folders.specs.declared.cluster.Course.{Course}
use Rattle.rr_folders.specs.declared.cluster.Mark.{Mark}
use Rattle.rr_folders.specs.declared.judging.Found.{Found}
use Rattle.rr_folders.specs.declared.judging.Owner.{Owner}
use Rattle.rr_folders.specs.Judging.{IsAsNoted, MayReturn}

-- a node came back to a folder, by what was found in it
abbrev pub IsReturn : Owner → Option Course → Type 0
IsReturn o left = (f : Found) × (reached : Option Reached) × MayReturn o f left reached

-- how far a disk came, by what was known before and by what is known since: the same, or not behind that
abbrev pub IsKept : Option Course → Option Course → Type 0
IsKept before since = (since ≡ before) ⊎ IsAsNoted before since

-- the disk of a node, which had been replaced so often, was let go: how far it came isn't forgotten, and is what is to be noted of the node
abbrev pub WasLeft : Owner → ℕ → Option Course → Option Course → Option Mark → Type 0
WasLeft o times before since last =
    IsKept before since × (last ≡ Some (record { identity = o.identity; node = o.node; course = since; replaced = times }))

-- the home of a disk, the disk while it is open, and how many device calls were made and failed
pub record HomeState (D H : Type 0) : Type 0 where
  pub home : H
  pub disk : Option D
  pub calls : ℕ
  pub faults : ℕ

-- what a call gives: what the disk gives that is open; where none is, a device that fails
abbrev pub Through : {A D : Type 0} → (D → Result A Refusal → D → Type 0) → Option D → Result A Refusal → Option D → Type 0
Through {A} {D} gives None result after = (result ≡ Err Device) × (after ≡ None)
Through {A} {D} gives (Some d) result after = (e : D) × (after ≡ Some e) × gives d result e

-- a call through the home, which is counted, and as a fault if the device failed
pub record Called {A D H : Type 0} (gives : D → Result A Refusal → D → Type 0) (old : HomeState D H) (result : Result A Refusal) (new : HomeState D H) : Type 0 where
  pub through : Through gives old.disk result new.disk
  pub home : new.home ≡ old.home
  pub calls : new.calls ≡ counted old.calls
  pub faults : MatchResult result (λ _. new.faults ≡ old.faults)
      (λ e. ((e ≡ OutOfMemory) × (new.faults ≡ old.faults)) ⊎ ((e ≡ Device) × (new.faults ≡ counted old.faults)))

-- the disk that was open is let go
abbrev pub LetsGo : {D H : Type 0} → (H → D → H → Type 0) → Option D → H → H → Type 0
LetsGo {D} {H} leaves None home after = after ≡ home
LetsGo {D} {H} leaves (Some d) home after = leaves home d after

-- the disk is open that the home gives; where it gives none, none is
abbrev pub Stands : {D H : Type 0} → (H → Result D Refusal → H → Type 0) → H → Result (Unit {0}) Refusal → HomeState D H → Type 0
Stands {D} {H} enters home (Ok u) new = (d : D) × (new.disk ≡ Some d) × enters home (Ok d) new.home
Stands {D} {H} enters home (Err e) new = (new.disk ≡ None) × enters home (Err e) new.home

-- a disk that is opened again: what was open is let go first
pub record Reopened {D H : Type 0} (leaves : H → D → H → Type 0) (enters : H → Result D Refusal → H → Type 0) (old : HomeState D H) (result : Result (Unit {0}) Refusal) (new : HomeState D H) : Type 0 where
  pub empty : H
  pub left : LetsGo leaves old.disk old.home empty
  pub stands : Stands enters empty result new
  pub calls : new.calls ≡ old.calls
  pub faults : new.faults ≡ old.faults
