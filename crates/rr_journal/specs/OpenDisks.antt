-- What a whole opening gives.
use Rattle.std.specs.Prelude.{◌≡◌, ℕ, ◌+◌, false, List, length, Result, Ok, Err}
use Rattle.rr_types.specs.declared.fact.Fact.{Fact}
use Rattle.rr_types.specs.declared.refusal.Refusal.{Refusal}
use Rattle.rr_types.specs.Promises.{promise_of}
use Rattle.rr_disk.specs.Areas.{Areas}
use Rattle.rr_disk.specs.Crash.{Images, restarted}
use Rattle.rr_frame.specs.Snapshots.{IsSnapshot}
use Rattle.rr_journal.specs.Image.{Active, found}
use Rattle.rr_journal.specs.declared.journal.Journal.{Journal}
use Rattle.rr_journal.specs.declared.opened.Opened.{Opened}
use Rattle.rr_journal.specs.Journals.{IsOver}

-- the journal is over images that hold these facts; beside it the opening ended with their promise and how many they are
abbrev pub IsOpenWith : {D : Type 0} → (D → Areas) → List Fact → Journal D × Opened → Type 0
IsOpenWith areas facts (journal, opened) =
    ((start : Images) × (areas journal.disk ≡ restarted start) × IsOver journal start facts)
    × (opened.promise ≡ promise_of facts) × (opened.next ≡ length facts)

-- nothing is loose, and the bytes of both areas stand for the promise and the number with which the opening ended, and for where the journal appends
abbrev pub IsOpenAtRest : {D : Type 0} → (D → Areas) → Journal D × Opened → Type 0
IsOpenAtRest areas (journal, opened) =
    (start : Images) × (areas journal.disk ≡ restarted start)
    × (found journal.nodes journal.node start.of_first start.of_second
    ≡ Active journal.area
    (record { epoch = journal.epoch; promise = opened.promise; next = opened.next; gate = journal.gate }))

-- the journal and the opening are node p's of n, and it goes on with the number of the next fact; it has neither failed nor
-- lends its disk; a snapshot of the next epoch can hold the promise
abbrev pub IsReady : {D : Type 0} → ℕ → ℕ → Journal D × Opened → Type 0
IsReady n p (journal, opened) = (journal.nodes ≡ n) × (journal.node ≡ p) × (journal.next ≡ opened.next) × (journal.failed ≡ false) × (journal.busy ≡ false)
    × IsSnapshot (record { node = p; nodes = n; epoch = journal.epoch + 1; next = opened.next; entries = opened.promise })
    × (opened.nodes ≡ n) × (opened.node ≡ p)

-- the disk behind a whole opening, whatever it answered
abbrev pub disk_behind : {D : Type 0} → Result (Journal D × Opened) (Refusal × D) → D
disk_behind (Ok (journal, opened)) = journal.disk
disk_behind (Err (e, disk)) = disk
