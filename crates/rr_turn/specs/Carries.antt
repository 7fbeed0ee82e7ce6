-- A turn of a flusher.
use Rattle.std.specs.Prelude.{◌≡◌, ◌⊎◌, ℕ, ◌++◌, ◌∷◌, [], true, false, List, length, Option, None, Some, Result, IfOk, IfErr, OnOk}
use Rattle.rr_types.specs.declared.fact.Fact.{Fact}
use Rattle.rr_types.specs.declared.refusal.Refusal.{Refusal}
use Rattle.rr_types.specs.declared.refusal.Refusal.TheVariants.{OutOfMemory, Device, Failed, Busy, TooLarge}
use Rattle.rr_types.specs.Counts.{counted}
use Rattle.rr_types.specs.Groups.{Grouped}
use Rattle.rr_types.specs.Promises.{all_fit}
use Rattle.rr_disk.specs.Areas.{Areas}
use Rattle.rr_disk.specs.Crash.{Images, restarted}
use Rattle.rr_journal.specs.Held.{Holds}
use Rattle.rr_journal.specs.Flushes.{Kept}
use Rattle.rr_journal.specs.Journals.{IsOver}
use Rattle.rr_journal.specs.Moments.{EachHolds, EachHoldsEither}
use Rattle.rr_journal.specs.declared.journal.Journal.{Journal}
use Rattle.rr_turn.specs.Flushed.{IfRefused, IfFailed, HasFailed, HasMore, IsBehind}
use Rattle.rr_turn.specs.declared.flusher.Unflushed.{Unflushed}
use Rattle.rr_turn.specs.Asked.{Call, Ran, receives, hands_back, wakes_loop}

-- why no flush of a group began: memory, or its length; or a flush had failed, or was under way
abbrev pub IsUnbegun : {D : Type 0} → Refusal → Journal D → Type 0
IsUnbegun e j = (e ≡ OutOfMemory) ⊎ (e ≡ TooLarge) ⊎ ((e ≡ Failed) × (j.failed ≡ true)) ⊎ ((e ≡ Busy) × (j.busy ≡ true))

-- what becomes of a group, and of the journal over such disks
pub record Becomes {D : Type 0} (tells : D → Type 0) (areas : D → Areas) (calls_of faults : D → ℕ) (group : Grouped)
    (back : Result Kept Unflushed) (j k : Journal D) : Type 0 where
  -- it is synced, by four device calls, and the journal goes on behind it
  pub synced : IfOk back (λ synced. (synced ≡ record { node = j.node; group = group }) × (j.failed ≡ false) × (j.busy ≡ false))
  pub calls : IfOk back (λ synced. calls_of k.disk ≡ counted (counted (counted (counted (calls_of j.disk)))))
  pub goes_on : IfOk back (λ synced. IsBehind group j k)
  -- or no flush of it began: nothing has changed, and it comes back whole
  pub refused : IfErr back (λ u. IfRefused u (λ e g. (g ≡ group) × (k ≡ j)))
  pub cause : IfErr back (λ u. IfRefused u (λ e g. IsUnbegun e j))
  -- or a device call failed, and the journal has taken note
  pub failed : IfErr back (λ u. IfFailed u (λ e. (e ≡ Device) × HasFailed faults j k))
  -- where the group follows the facts that the journal is over: each image that a crash may leave holds them and the group's once it is
  -- synced, and them with or without the group's once its flush failed
  pub kept : tells j.disk → tells k.disk
  pub table : tells j.disk → (start : Images) (facts : List Fact) → areas j.disk ≡ restarted start → IsOver j start facts
      → all_fit j.nodes j.node [] (facts ++ group.facts) ≡ true → group.serial ≡ length facts
      → OnOk back (EachHolds (Holds j.nodes j.node) (areas k.disk) (facts ++ group.facts) × HasMore areas k facts group.facts)
      × IfErr back (λ u. IfFailed u (λ e. EachHoldsEither (Holds j.nodes j.node) (areas k.disk) facts group.facts))

module _ {D E : Type 0} (tells : D → Type 0) (areas : D → Areas) (calls faults : D → ℕ) (gives : E → Call → E → Type 0) where
  -- what came is asked for; of a group, what became of it goes back, and then the loop of this node is rung
  abbrev pub Carries : ℕ → Option Grouped → Journal D → Journal D → E → E → Type 0
  Carries node None j k from to = Ran gives (receives None ∷ []) from to × (k ≡ j)
  Carries node (Some group) j k from to = (back : Result Kept Unflushed) × Ran gives (receives (Some group) ∷ hands_back back ∷ wakes_loop node ∷ []) from to
      × Becomes tells areas calls faults group back j k
