-- An opening by its steps: what holds of each step holds of all of them.
use Rattle.std.proofs.Common.{◌≡◌, ◌⊎◌, inl, inr, ℕ, ◌+◌, ◌-◌, ◌^◌, ◌<◌, ◌≤◌, List, Vec, Result, Ok, Err, refl, sym, ap, subst, ◌∙◌, arith}
use Rattle.std.proofs.Math.Nat.{min-le_left}
use Rattle.std.specs.declared.alloc.Global.{Global}
use Rattle.rr_types.specs.declared.refusal.Refusal.{Refusal}
use Rattle.rr_types.specs.Counts.{counted}
use Rattle.rr_disk.specs.declared.area.Area.{Area}
use Rattle.rr_disk.specs.Areas.{Areas}
use Rattle.rr_journal.specs.Image.{Found}
use Rattle.rr_model.specs.NodeState.{NodeState}
use Rattle.rr_journal.specs.declared.journal.Journal.{Journal}
use Rattle.rr_journal.specs.declared.opening.Progress.TheVariants as progress
use Rattle.rr_journal.specs.OpeningCourse.{calls_left, found_from, EndsBy, StaysOnCourse, IsRefused}
use Rattle.rr_journal.specs.OpeningStates.{OpeningState}
use Rattle.rr_journal.specs.OpeningSteps.{Steps}
use Rattle.rr_journal.specs.Phases.{phase_of}
use Rattle.rr_core.specs.Recoveries.{end_of, Recovers}
use Rattle.rr_core.specs.declared.steps.Progress.TheVariants as core

-- an opening came from another by steps: it finds the same, and has made so many fewer device calls
pub record HasCome {D : Type 0} (tells : D → Type 0) (areas : D → Areas) (calls faults : D → ℕ) (first now : OpeningState D) : Type 0 where
  pub fewer : calls now.disk + calls_left (phase_of now.phase) ≤ calls first.disk + calls_left (phase_of first.phase)
  pub rising : faults first.disk ≤ faults now.disk
  pub same_found : tells first.disk → found_from now.nodes now.node (phase_of now.phase) (areas now.disk) ≡ found_from first.nodes first.node (phase_of first.phase) (areas first.disk)

module _ {D : Type 0} (tells : D → Type 0) (areas : D → Areas) (calls faults : D → ℕ) where
  -- an opening that has made no step
  pub is_here : (first : OpeningState D) → HasCome tells areas calls faults first first
  is_here first = record { fewer = omega arith; rising = omega arith; same_found = λ tell. refl }

  module _ (first now : OpeningState D) (came : HasCome tells areas calls faults first now) where
    -- one more step that isn't the last
    pub comes_on : (next : OpeningState D) → (tells first.disk → StaysOnCourse areas now (Ok (progress.More next)))
        → calls next.disk ≡ counted (calls now.disk) → faults now.disk ≤ faults next.disk → calls_left (phase_of next.phase) < calls_left (phase_of now.phase) → HasCome tells areas calls faults first next
    comes_on next course call rising less = record {
      fewer = omega (arith, came.fewer, call, less, min-le_left (calls now.disk + 1) (2 ^ 64 - 1));
      rising = omega (arith, came.rising, rising);
      same_found = λ tell. (course tell).1 ∙ came.same_found tell;
    }

    -- one more call is among those that were left
    pub last_call : (end : D) → calls end ≡ counted (calls now.disk) → 1 ≤ calls_left (phase_of now.phase) → calls end ≤ calls first.disk + calls_left (phase_of first.phase)
    last_call end call one = omega (arith, came.fewer, call, one, min-le_left (calls now.disk + 1) (2 ^ 64 - 1))

    -- a refused step refuses the opening
    pub refused_by : (refused : Refusal × D) → IsRefused faults now.disk refused → IsRefused faults first.disk refused
    refused_by refused (inl memory) = inl memory
    refused_by refused (inr (inl (device, (inl more)))) = inr (inl (device, inl (omega (arith, came.rising, more))))
    refused_by refused (inr (inl (device, (inr end)))) = inr (inl (device, inr end))
    refused_by refused (inr (inr damaged)) = inr (inr damaged)

    pub stops_by : (refused : Refusal × D) → tells first.disk → StaysOnCourse areas now (Err refused) → EndsBy (found_from first.nodes first.node (phase_of first.phase) (areas first.disk)) (Err refused)
    stops_by refused tell course = subst (λ (f : Found). EndsBy f (Err refused)) (came.same_found tell) course

-- a step that went on, or came to its end, is one of the journal's opening
module _ {D : Type 0} (of_read : D → Area → ℕ → ℕ → Result (Vec ℕ Global) Refusal → D → Type 0)
    (of_write : D → Area → ℕ → List ℕ → Result (Unit {0}) Refusal → D → Type 0)
    (of_sync : D → Result (Unit {0}) Refusal → D → Type 0) where
  pub more_made : (o next : OpeningState D) → Recovers of_read of_write of_sync o (Ok (core.More next)) → Steps of_read of_write of_sync o (Ok (progress.More next))
  more_made o next (inl steps) = steps
  more_made o next (inr (j, opened, steps, is)) = absurd cc

  pub done_made : (o : OpeningState D) (state : NodeState) (slots : Journal D) → Recovers of_read of_write of_sync o (Ok (core.Done state slots))
      → Steps of_read of_write of_sync o (Ok (progress.Done slots (end_of state slots)))
  done_made o state slots (inl steps) = steps
  done_made o state slots (inr (j, opened, steps, is)) = absurd cc
