-- Whether a start over the folders of a cluster would be refused, as somebody finds out who only reads them.
use Rattle.std.specs.Prelude.{◌≡◌, ℕ, List, length, Option, None, Some}
use Rattle.rr_folders.specs.declared.cluster.Cluster.{Cluster}
use Rattle.rr_folders.specs.declared.judging.Found.{Found}
use Rattle.rr_folders.specs.declared.judging.Fault.{Fault}
use Rattle.rr_folders.specs.declared.judging.Verdict.{Verdict}
use Rattle.rr_folders.specs.declared.judging.Verdict.TheVariants.{Open, Begin, TakeOn, Refused}
use Rattle.rr_folders.specs.Judging.{AreLeftOut, verdict_of}

-- the verdict on n folders, by what was found in a cluster's file and in each folder but those that are left out, of which nothing is
abbrev pub IsJudged : ℕ → ℕ → Verdict → Type 0
IsJudged n without v =
    (file : Option Cluster) × (found : List (Option Found)) × (length found ≡ n) × AreLeftOut without 0 found × (v ≡ verdict_of n file found)

-- the folder that a verdict refuses, and why
abbrev pub refused_by : Verdict → Option (ℕ × Fault)
refused_by (Refused p x) = Some (p, x)
refused_by (Open c) = None
refused_by Begin = None
refused_by (TakeOn i) = None

-- n folders are judged, but those of some nodes, which are left out, by a verdict that refuses none
abbrev pub MayStartWithout : ℕ → ℕ → Type 0
MayStartWithout n without = (v : Verdict) × IsJudged n without v × (refused_by v ≡ None)

-- the same, none of them left out
abbrev pub MayStart : ℕ → Type 0
MayStart n = MayStartWithout n 0
