-- When a lost node may begin anew, by what is read of the others' folders.
use Rattle.std.specs.Prelude.{◌≡◌, ◌≢◌, ℕ, ◌+◌, ◌<◌, max, List, [], fold, length, None}
use Rattle.std.specs.List.{Contains}
use Rattle.rr_types.specs.declared.fact.Fact.{Fact}
use Rattle.rr_types.specs.declared.promise.Entry.{Entry}
use Rattle.rr_disk.specs.Areas.{Areas}
use Rattle.rr_disk.specs.Crash.{Images, restarted}
use Rattle.rr_journal.specs.Journals.{IsOver}
use Rattle.rr_journal.specs.declared.journal.Journal.{Journal}
use Rattle.rr_model.specs.Deeds.{Life, Lives, FindsItsFacts}
use Rattle.rr_model.specs.Lawful.{HasMajority}
use Rattle.rr_folders.specs.declared.verify_folder.Reading.{Reading}
use Rattle.rr_folders.specs.declared.verify_folder.Reading.TheVariants.{Facts, Blank, Refused}

-- from which instance on entries say nothing: above the highest of which there is one
abbrev pub end_in : List Entry → ℕ
end_in es = fold (λ end e. max end (e.instance + 1)) 0 es

-- where instances stand by a folder; nothing where it holds no facts
abbrev pub entries_of : Reading → List Entry
entries_of (Facts f) = f.promise
entries_of Blank = []
entries_of (Refused e) = []

-- from which instance on none of these folders keeps a fact
abbrev pub end_of : List Reading → ℕ
end_of rs = fold (λ end r. max end (end_in (entries_of r))) 0 rs

-- ---- folders of a history

-- a folder has what a start of this node would find on its disk
abbrev pub IsDiskOf : Life → Reading → Type 0
IsDiskOf l (Facts f) = FindsItsFacts l f.promise f.facts
IsDiskOf l Blank = ⊥
IsDiskOf l (Refused e) = ⊥

-- it is that of a node that is down
abbrev pub IsAtRest : Lives → Reading → Type 0
IsAtRest v r = (q : ℕ) × ((v.life q).state ≡ None) × IsDiskOf (v.life q) r

-- each of these folders has what a start of a node would find that is down
abbrev pub AreDisksOf : Lives → List Reading → Type 0
AreDisksOf v rs = (r : Reading) → Contains rs r → IsAtRest v r

-- among these folders are what starts of a majority of the nodes would find
abbrev pub AreDisksOfSome : ℕ → Lives → List Reading → Type 0
AreDisksOfSome n v rs = HasMajority n (λ q. (r : Reading) × Contains rs r × IsDiskOf (v.life q) r)

-- ---- what is written

-- a journal goes on behind so many more facts, of the same node
pub record GoesBehind {D : Type 0} (old new : Journal D) (count : ℕ) : Type 0 where
  pub nodes : new.nodes ≡ old.nodes
  pub node : new.node ≡ old.node
  pub next : new.next ≡ old.next + count

-- nothing is loose on a journal's disk, and it goes on behind these facts
abbrev pub HoldsNow : {D : Type 0} → (D → Areas) → Journal D → List Fact → Type 0
HoldsNow areas journal facts = (start : Images) × (areas journal.disk ≡ restarted start) × IsOver journal start facts
