-- A disk whose node's mark says how far it came, and what its device calls give.
use Rattle.std.specs.Prelude.{◌≡◌, ◌⊎◌, ℕ, ◌==◌, ◌&&◌, Bool, true, false, List, [], ◌∷◌, Result, Ok, Err, MatchResult, Vec}
use Rattle.std.specs.declared.alloc.Global.{Global}
use Rattle.rr_types.specs.declared.refusal.Refusal.{Refusal}
use Rattle.rr_types.specs.declared.refusal.Refusal.TheVariants.{Device, OutOfMemory}
use Rattle.rr_types.specs.Counts.{counted}
use Rattle.rr_disk.specs.declared.area.Area.{Area}
use Rattle.rr_folders.specs.declared.cluster.Course.{Course}

-- the disk below, the keeper of the mark, whether an area's first gate is open whose mark isn't settled, and how many device calls were made and failed
pub record MarkedState (D K : Type 0) : Type 0 where
  pub below : D
  pub keeper : K
  pub switching : Bool
  pub calls : ℕ
  pub faults : ℕ

-- whether a write opens the first gate of an area
abbrev pub opens_area : ℕ → List ℕ → Bool
opens_area at (b ∷ []) = (at == 0) && (b == 165)
opens_area at bytes = false

-- a mark was put
abbrev pub WasPut : {K : Type 0} → (K → Course → Bool → K → Type 0) → K → K → Type 0
WasPut puts old new = (c : Course) × puts old c true new

-- the disk after one more call, and after one more that failed
abbrev pub asked : {D K : Type 0} → MarkedState D K → MarkedState D K → Type 0
asked old new = (new.calls ≡ counted old.calls) × (new.faults ≡ old.faults)

abbrev pub refused : {D K : Type 0} → MarkedState D K → MarkedState D K → Type 0
refused old new = (new.calls ≡ counted old.calls) × (new.faults ≡ counted old.faults)

module _ {D K : Type 0} (puts : K → Course → Bool → K → Type 0) where
  -- what a read gives: what the disk below gives, unless its areas aren't as far as marked, or the mark can't be put
  abbrev pub MarkedRead : (D → Area → ℕ → ℕ → Result (Vec ℕ Global) Refusal → D → Type 0)
      → MarkedState D K → Area → ℕ → ℕ → Result (Vec ℕ Global) Refusal → MarkedState D K → Type 0
  MarkedRead gives old area at count result new =
      (new.switching ≡ old.switching)
      × MatchResult result (λ v. gives old.below area at count (Ok v) new.below × asked old new)
      (λ e. ((e ≡ OutOfMemory) × gives old.below area at count (Err OutOfMemory) new.below × asked old new)
      ⊎ ((e ≡ Device) × ((r : Result (Vec ℕ Global) Refusal) × gives old.below area at count r new.below) × refused old new))

  -- what a write gives: what the disk below gives; an area's first gate is opened only behind a mark that was put
  abbrev pub MarkedWrite : (D → Area → ℕ → List ℕ → Result (Unit {0}) Refusal → D → Type 0)
      → MarkedState D K → Area → ℕ → List ℕ → Result (Unit {0}) Refusal → MarkedState D K → Type 0
  MarkedWrite gives old area at bytes result new =
      MatchResult result
      (λ _. gives old.below area at bytes result new.below × asked old new
      × (opens_area at bytes ≡ true → WasPut puts old.keeper new.keeper × (new.switching ≡ true)))
      (λ e. (e ≡ Device) × (gives old.below area at bytes (Err Device) new.below ⊎ (new.below ≡ old.below)) × refused old new)

  -- what a sync gives: what the disk below gives; behind the opening of a first gate it succeeds only with a mark that was put
  abbrev pub MarkedSync : (D → Result (Unit {0}) Refusal → D → Type 0) → MarkedState D K → Result (Unit {0}) Refusal → MarkedState D K → Type 0
  MarkedSync gives old result new =
      MatchResult result
      (λ _. gives old.below result new.below × asked old new × (old.switching ≡ true → WasPut puts old.keeper new.keeper) × (new.switching ≡ false))
      (λ e. (e ≡ Device) × ((r : Result (Unit {0}) Refusal) × gives old.below r new.below) × refused old new)
