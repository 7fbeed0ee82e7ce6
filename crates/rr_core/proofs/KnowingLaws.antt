-- What an opening knows of its disk at its beginning, and at its end.
use Rattle.std.proofs.Common.{◌≡◌, ◌<◌, ◌^◌, ℕ, length, Option, None, Some, Result, Ok, Err, IfOk, sym, ap, subst, ◌∙◌}
use Rattle.std.specs.Prelude.{IsSome}
use Rattle.std.proofs.lemmas.Bool.{false≢true}
use Rattle.rr_types.specs.declared.refusal.Refusal.{Refusal}
use Rattle.rr_disk.specs.Areas.{Areas}
use Rattle.rr_disk.specs.Crash.{IsCrashImage}
use Rattle.rr_journal.specs.declared.journal.Journal.{Journal}
use Rattle.rr_journal.specs.declared.opened.Opened.{Opened}
use Rattle.rr_journal.specs.OpeningStates.{OpeningState}
use Rattle.rr_journal.specs.Image.{Active}
use Rattle.rr_journal.specs.Held.{Holds}
use Rattle.rr_journal.proofs.ImageLaws.{facts_after_a_crash}
use Rattle.rr_journal.specs.declared.opening.End.{End}
use Rattle.rr_journal.specs.declared.opening.Progress.{Progress}
use Rattle.rr_journal.specs.declared.opening.Progress.TheVariants as progress
use Rattle.rr_journal.specs.declared.opening.Stepped.{Stepped}
use Rattle.rr_journal.specs.declared.opening.Stepped.TheVariants.{More, Ended}
use Rattle.rr_journal.specs.StepsInPlace.{journal_of, opened_of, ended_by, as_progress, Begins, BeginsAgain}
use Rattle.rr_journal.specs.Fronts.{KnowsFronts, KnowsOther}
use Rattle.rr_journal.specs.Openings.{Phase, Settling}
use Rattle.rr_journal.specs.OpeningTable.{OpensAny, ComesToAny}
use Rattle.rr_journal.specs.OpenDisks.{IsOpenAtRest}
use Rattle.rr_journal.specs.Phases.{phase_of}
use Rattle.rr_core.specs.Known.{KnowsDisk, HoldSoMany}
use Rattle.rr_core.specs.Recoveries.{StandsFor}

-- an opening that has just begun
pub begins_with : {D : Type 0} (areas : D → Areas) (o : OpeningState D) (n p : ℕ) (disk : D) → o.nodes ≡ n → o.node ≡ p → o.disk ≡ disk → phase_of o.phase ≡ Settling → OpensAny n p o.phase (areas disk) → KnowsDisk areas o
begins_with {D} areas o n p disk nodes node same phase opens = record {
  stands = subst (λ (d : D). OpensAny o.nodes o.node o.phase (areas d)) (sym same) (subst (λ (k : ℕ). OpensAny k o.node o.phase (areas disk)) (sym nodes) (subst (λ (k : ℕ). OpensAny n k o.phase (areas disk)) (sym node) opens));
  fronts = subst (λ (q : Phase). KnowsFronts q o.fronts (areas o.disk)) (sym phase) tt;
}

-- an opening that stands at its beginning again
begins_again : {D : Type 0} (areas : D → Areas) (o : OpeningState D) → Begins areas o → length (areas o.disk).first.cells < 2 ^ 64 → length (areas o.disk).second.cells < 2 ^ 64 → KnowsDisk areas o
begins_again {D} areas o again few_first few_second = record {
  stands = again.1 few_first few_second;
  fronts = subst (λ (q : Phase). KnowsFronts q o.fronts (areas o.disk)) (sym again.0) tt;
}

-- an opening behind a step in place
pub knows_on : {D : Type 0} (areas : D → Areas) (o : OpeningState D) (r : Result Stepped Refusal) → BeginsAgain areas o r
    → length (areas o.disk).first.cells < 2 ^ 64 → length (areas o.disk).second.cells < 2 ^ 64
    → IfOk (as_progress o r) (λ (x : Progress D). ComesToAny areas x) → IfOk (as_progress o r) (λ (x : Progress D). KnowsOther areas x) → KnowsDisk areas o
knows_on {D} areas o (Ok More) again few_first few_second comes knows = record { stands = comes; fronts = knows }
knows_on {D} areas o (Ok Ended) again few_first few_second comes knows = begins_again {D = D} areas o again few_first few_second
knows_on {D} areas o (Err e) again few_first few_second comes knows = begins_again {D = D} areas o again few_first few_second

-- what an opening that has found its end comes to, seen from outside
module _ {D : Type 0} (o seen : OpeningState D) where
  pub journal_at_end : (end : End) (j : Journal D) (opened : Opened) → o ≡ seen → seen.end ≡ Some end → ended_by o o.end ≡ progress.Done j opened → j ≡ journal_of seen end
  journal_at_end end j opened same is done =
      let at_end : ended_by seen (Some end) ≡ progress.Done j opened = subst (λ (x : Option End). ended_by seen x ≡ progress.Done j opened) is (subst (λ (x : OpeningState D). ended_by x x.end ≡ progress.Done j opened) same done) in cc

  pub opened_at_end : (end : End) (j : Journal D) (opened : Opened) → o ≡ seen → seen.end ≡ Some end → ended_by o o.end ≡ progress.Done j opened → opened ≡ opened_of seen end
  opened_at_end end j opened same is done =
      let at_end : ended_by seen (Some end) ≡ progress.Done j opened = subst (λ (x : Option End). ended_by seen x ≡ progress.Done j opened) is (subst (λ (x : OpeningState D). ended_by x x.end ≡ progress.Done j opened) same done) in cc

  disk_by : (found : Option End) (j : Journal D) (opened : Opened) → IsSome found → ended_by seen found ≡ progress.Done j opened → j.disk ≡ seen.disk
  disk_by None j opened some done = absurd (false≢true some)
  disk_by (Some end) j opened some done = let at_end : journal_of seen end ≡ j = cc in sym (ap (λ (k : Journal D). k.disk) at_end)

  pub disk_at_end : (j : Journal D) (opened : Opened) → o ≡ seen → IsSome seen.end → ended_by o o.end ≡ progress.Done j opened → j.disk ≡ seen.disk
  disk_at_end j opened same some done = disk_by seen.end j opened some (subst (λ (x : OpeningState D). ended_by x x.end ≡ progress.Done j opened) same done)

module _ {D : Type 0} (areas : D → Areas) (j : Journal D) (opened : Opened) (next : j.next ≡ opened.next) where
  -- a journal at rest goes on with the number of the next fact
  pub rests_so : IsOpenAtRest areas (j, opened) → StandsFor areas opened.promise j
  rests_so (start, stands, is) = (
    start,
    stands,
    is ∙ ap (λ (k : ℕ). Active j.area (record { epoch = j.epoch; promise = opened.promise; next = k; gate = j.gate })) (sym next),
  )

  -- whatever a crash may leave then holds as many facts as were found
  pub so_many : (n p : ℕ) → j.nodes ≡ n → j.node ≡ p → StandsFor areas opened.promise j → HoldSoMany n p (areas j.disk) opened.next
  so_many n p nodes node (start, stands, is) images left facts holds =
      let own : Holds j.nodes j.node images facts = subst (λ (k : ℕ). Holds k j.node images facts) (sym nodes) (subst (λ (k : ℕ). Holds n k images facts) (sym node) holds) in
      facts_after_a_crash j.nodes j.node start.of_first start.of_second images facts j.area (record { epoch = j.epoch; promise = opened.promise; next = j.next; gate = j.gate }) is (subst (λ (b : Areas). IsCrashImage b images) stands left) own ∙ next
