-- A journal over an open disk.
use Rattle.std.specs.Prelude.{◌≡◌, ◌+◌, false, List, length}
use Rattle.rr_types.specs.declared.fact.Fact.{Fact}
use Rattle.rr_types.specs.Promises.{promise_of}
use Rattle.rr_disk.specs.Crash.{Images}
use Rattle.rr_journal.specs.Held.{Holds}
use Rattle.rr_journal.specs.Image.{Active, found}
use Rattle.rr_journal.specs.Flushes.{Flush}
use Rattle.rr_journal.specs.declared.journal.Journal.{Journal}

-- the journal appends behind these images: they hold these facts, and its area, its last gate and its next number are theirs
pub record IsOver {D : Type 0} (journal : Journal D) (start : Images) (facts : List Fact) : Type 0 where
  pub holds : Holds journal.nodes journal.node start facts
  pub active : found journal.nodes journal.node start.of_first start.of_second
      ≡ Active journal.area
      (record { epoch = journal.epoch; promise = promise_of facts; next = journal.next; gate = journal.gate })

-- the journal once a flush of it has ended: the flush's last byte is the last gate
abbrev pub once_flushed : {D : Type 0} → Flush → Journal D → Journal D
once_flushed flush journal = record journal { gate = flush.gate + length flush.body; next = flush.group.serial + length flush.group.facts; busy = false }
