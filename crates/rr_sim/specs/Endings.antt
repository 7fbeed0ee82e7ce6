-- The ways in which a crash ends a device call.
use Rattle.std.specs.Prelude.{ℕ, ◌/◌, ◌%◌, List, [], ◌∷◌}
use Rattle.rr_text.specs.declared.event.Event.{Event}
use Rattle.rr_text.specs.declared.event.Happening.TheVariants.{Crash}
use Rattle.rr_sim.specs.Random.{opening_of}
use Rattle.rr_sim.specs.declared.ending.Ending.{Ending}
use Rattle.rr_sim.specs.declared.ending.Ending.TheVariants.{Open, Closed, Cut, Kept, Drawn}

-- the five, in the order of a sweep's lines
abbrev pub all_endings : List Ending
all_endings = Open ∷ Closed ∷ Cut ∷ Kept ∷ Drawn ∷ []

-- the number of an ending in a line
abbrev pub number_of : Ending → ℕ
number_of Open = 1
number_of Closed = 2
number_of Cut = 3
number_of Kept = 4
number_of Drawn = 5

-- where both areas are cut; the last ending draws that from a word
abbrev pub cut_of : Ending → ℕ → ℕ
cut_of Open w = 4294967295
cut_of Closed w = 4294967295
cut_of Cut w = 0
cut_of Kept w = 4294967295
cut_of Drawn w = w / 256 % 1024

-- the bytes that loose places take in turn; of an empty fill none, they keep theirs
abbrev pub fill_of : Ending → ℕ → List ℕ
fill_of Open w = 165 ∷ []
fill_of Closed w = 0 ∷ []
fill_of Cut w = []
fill_of Kept w = []
fill_of Drawn w = w % 256 ∷ []

-- a crash of node p
abbrev pub crash_of : ℕ → ℕ → ℕ → List ℕ → Event
crash_of p cut_first cut_second fill = record { node = p; what = Crash cut_first cut_second fill }

-- a crash of node p that ends so, and the events by which the node opens its disk
abbrev pub crash_and_opening : ℕ → Ending → ℕ → List Event
crash_and_opening p ending w = crash_of p (cut_of ending w) (cut_of ending w) (fill_of ending w) ∷ opening_of p
