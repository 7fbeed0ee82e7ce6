-- What an opening has noted of the areas that it has read: whether each has to be closed before it is written anew.
use Rattle.std.specs.Prelude.{◌≡◌, Bool}
use Rattle.rr_disk.specs.declared.area.Area.{Area}
use Rattle.rr_disk.specs.declared.area.Area.TheVariants.{First, Second}
use Rattle.rr_disk.specs.Areas.{Areas}
use Rattle.rr_journal.specs.declared.opening.Fronts.{Fronts}
use Rattle.rr_journal.specs.declared.opening.Progress as code
use Rattle.rr_journal.specs.declared.opening.Progress.TheVariants as progress
use Rattle.rr_journal.specs.Openings.{Phase, Settling, ReadingFirst, ReadingSecond, Rewriting}
use Rattle.rr_journal.specs.OtherAreas.{closes_in, IsOtherKnown}
use Rattle.rr_journal.specs.Rewrites.{area_anew, area_kept}
use Rattle.rr_journal.specs.Phases.{phase_of}

-- what an opening has noted of the area beside this one
abbrev pub front_beside : Area → Fronts → Bool
front_beside First fronts = fronts.second
front_beside Second fronts = fronts.first

-- what an opening has noted of the areas that it has read is so, unless it writes the area anew
abbrev pub KnowsFronts : Phase → Fronts → Areas → Type 0
KnowsFronts Settling fronts both = Unit {0}
KnowsFronts ReadingFirst fronts both = Unit {0}
KnowsFronts (ReadingSecond first) fronts both = fronts.first ≡ closes_in both First
KnowsFronts (Rewriting found calls) fronts both = front_beside (area_anew found) fronts ≡ closes_in both (area_kept found)

-- the same behind the device call of a phase
abbrev pub KnowsRead : Phase → Fronts → Areas → Type 0
KnowsRead Settling fronts both = Unit {0}
KnowsRead ReadingFirst fronts both = fronts.first ≡ closes_in both First
KnowsRead (ReadingSecond first) fronts both = (fronts.first ≡ closes_in both First) × (fronts.second ≡ closes_in both Second)
KnowsRead (Rewriting found calls) fronts both = front_beside (area_anew found) fronts ≡ closes_in both (area_kept found)

-- the same behind a step of an opening
abbrev pub KnowsOther : {D : Type 0} → (D → Areas) → code.Progress D → Type 0
KnowsOther areas (progress.More o) = KnowsFronts (phase_of o.phase) o.fronts (areas o.disk)
KnowsOther areas (progress.Done journal opened) = IsOtherKnown areas journal
