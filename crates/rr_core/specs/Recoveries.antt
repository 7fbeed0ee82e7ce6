-- What an opening of a node gives, in the words of its journal's opening.
use Rattle.std.specs.Prelude.{◌≡◌, ◌⊎◌, ℕ, List, Result, Ok, Err, Vec}
use Rattle.std.specs.declared.alloc.Global.{Global}
use Rattle.rr_types.specs.declared.promise.Entry.{Entry}
use Rattle.rr_types.specs.declared.refusal.Refusal.{Refusal}
use Rattle.rr_types.specs.declared.refusal.Refusal.TheVariants.{OutOfMemory}
use Rattle.rr_model.specs.NodeState.{NodeState}
use Rattle.rr_model.specs.NodeStep.{started}
use Rattle.rr_disk.specs.declared.area.Area.{Area}
use Rattle.rr_disk.specs.Areas.{Areas}
use Rattle.rr_disk.specs.Crash.{Images, restarted}
use Rattle.rr_journal.specs.declared.journal.Journal.{Journal}
use Rattle.rr_journal.specs.declared.opened.Opened.{Opened}
use Rattle.rr_journal.specs.OpeningStates.{OpeningState}
use Rattle.rr_journal.specs.declared.opening.Progress as journal
use Rattle.rr_journal.specs.declared.opening.Progress.TheVariants as of_journal
use Rattle.rr_journal.specs.Image.{Active, found}
use Rattle.rr_journal.specs.OpeningSteps.{Steps}
use Rattle.rr_core.specs.Known.{HoldSoMany}
use Rattle.rr_core.specs.declared.steps.Progress.{Progress}
use Rattle.rr_core.specs.declared.steps.Progress.TheVariants as progress

-- the end of an opening, as the core that started from it and the areas have it
abbrev pub end_of : {D : Type 0} → NodeState → Journal D → Opened
end_of core slots = record { nodes = slots.nodes; node = slots.node; promise = core.marked; next = slots.next }

-- what a step answered, as a step of the journal's opening: the core has its promise, the areas have its journal
abbrev pub as_step : {D : Type 0} → Result (Progress D) (Refusal × D) → Result (journal.Progress D) (Refusal × D)
as_step (Ok (progress.More o)) = Ok (of_journal.More o)
as_step (Ok (progress.Done core slots)) = Ok (of_journal.Done slots (end_of core slots))
as_step (Err refused) = Err refused

-- what a whole opening answered, in the same way
abbrev pub as_opened : {D : Type 0} → Result (NodeState × Journal D) (Refusal × D) → Result (Journal D × Opened) (Refusal × D)
as_opened (Ok (core, slots)) = Ok (slots, end_of core slots)
as_opened (Err refused) = Err refused

-- the core has just started from its promise and from the next number of the areas: it owes the restatement of its open instances
abbrev pub IsStarted : {D : Type 0} → NodeState → Journal D → Type 0
IsStarted core slots = core ≡ started slots.nodes slots.node core.marked slots.next

-- the same behind a step, where it is the last
abbrev pub StartsAtEnd : {D : Type 0} → Progress D → Type 0
StartsAtEnd (progress.More o) = Unit {0}
StartsAtEnd (progress.Done core slots) = IsStarted core slots

-- nothing is loose, and the bytes of both areas stand for this promise and for where the journal appends
abbrev pub StandsFor : {D : Type 0} → (D → Areas) → List Entry → Journal D → Type 0
StandsFor areas promise j =
    (start : Images) × (areas j.disk ≡ restarted start)
    × (found j.nodes j.node start.of_first start.of_second ≡ Active j.area (record { epoch = j.epoch; promise = promise; next = j.next; gate = j.gate }))

-- the same behind a step, where it is the last
abbrev pub RestsAtEnd : {D : Type 0} → (D → Areas) → Progress D → Type 0
RestsAtEnd areas (progress.More o) = Unit {0}
RestsAtEnd areas (progress.Done core slots) = StandsFor areas core.marked slots

-- and whatever a crash may leave holds as many facts of the node as the core has marked
abbrev pub CountsAtEnd : {D : Type 0} → (D → Areas) → Progress D → Type 0
CountsAtEnd areas (progress.More o) = Unit {0}
CountsAtEnd areas (progress.Done core slots) = HoldSoMany slots.nodes slots.node (areas slots.disk) core.marked_end

module _ {D : Type 0} (of_read : D → Area → ℕ → ℕ → Result (Vec ℕ Global) Refusal → D → Type 0)
    (of_write : D → Area → ℕ → List ℕ → Result (Unit {0}) Refusal → D → Type 0)
    (of_sync : D → Result (Unit {0}) Refusal → D → Type 0) where
  -- the last step of the journal's opening was made, and memory is wanting for the core
  abbrev pub WantsCore : OpeningState D → Result (Progress D) (Refusal × D) → Type 0
  WantsCore o result =
      (j : Journal D) × (opened : Opened) × Steps of_read of_write of_sync o (Ok (of_journal.Done j opened)) × (result ≡ Err (OutOfMemory, j.disk))

  -- a step is one of the journal's opening, unless memory is wanting for the core at its end
  abbrev pub Recovers : OpeningState D → Result (Progress D) (Refusal × D) → Type 0
  Recovers o result = Steps of_read of_write of_sync o (as_step result) ⊎ WantsCore o result
