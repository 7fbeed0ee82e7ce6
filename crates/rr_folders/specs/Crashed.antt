-- Folders as crashes leave those of a run's nodes.
use Rattle.std.specs.Prelude.{◌≡◌, ℕ, ◌+◌, List, [], ◌∷◌, length}
use Rattle.rr_types.specs.Promises.{promise_of}
use Rattle.rr_model.specs.World.{World, Step, end_of}
use Rattle.rr_model.specs.Laws.{settled}
use Rattle.rr_folders.specs.declared.verify_folder.Reading.{Reading}
use Rattle.rr_folders.specs.declared.verify_folder.Reading.TheVariants.{Facts, Blank, Refused}

-- a folder names node p of n, and has the promise of what a crash left of its facts
abbrev pub IsLeftOf : ℕ → World → ℕ → Reading → Type 0
IsLeftOf n w p (Facts f) = (f.nodes ≡ n) × (f.node ≡ p) × ((count : ℕ) × (f.promise ≡ promise_of (settled w p count)))
IsLeftOf n w p Blank = ⊥
IsLeftOf n w p (Refused e) = ⊥

-- the same of the folders of the nodes from p on
abbrev pub AreLeftFrom : ℕ → World → ℕ → List Reading → Type 0
AreLeftFrom n w p [] = Unit {0}
AreLeftFrom n w p (r ∷ rs) = IsLeftOf n w p r × AreLeftFrom n w (p + 1) rs

-- these are the folders of all nodes, as crashes behind the run left them
abbrev pub AreLeftBy : List Step → List Reading → Type 0
AreLeftBy run rs = AreLeftFrom (length rs) (end_of run) 0 rs
