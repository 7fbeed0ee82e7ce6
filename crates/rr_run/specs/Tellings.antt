-- What a node's client tells to a question.
use Rattle.std.specs.Prelude.{◌≡◌, ℕ, List, Option, IfSome}
use Rattle.rr_types.specs.declared.promise.Entry.{Entry}
use Rattle.rr_types.specs.Registry.{registry_of}
use Rattle.rr_window.specs.Sights.{bindings_with}
use Rattle.rr_folders.specs.Requests.{greatest_in}
use Rattle.rr_threads.specs.Asking.{Asking, IsSeen}
use Rattle.rr_threads.specs.Summaries.{IsSummary}
use Rattle.rr_shell.specs.Watches.{bytes_of}
use Rattle.rr_run.specs.declared.asking.Question.{Question}
use Rattle.rr_run.specs.declared.asking.Question.TheVariants as asks
use Rattle.rr_run.specs.declared.asking.Told.{Told}
use Rattle.rr_run.specs.declared.asking.Told.TheVariants as told
use Rattle.rr_run.specs.Submits.{IsOutcome, IsSynced}

-- the greatest request number of a client, by some facts
abbrev pub IsGreatest : ℕ → Option ℕ → Type 0
IsGreatest client greatest = (facts : List Entry) × (greatest ≡ greatest_in client facts)

-- what a client tells fits what it is asked, by what it knew before and knows then: what a submit or a sync has come to, and its
-- node in brief; what a look has seen; the names that begin so; where changes are heard, and whether they were told; its node in
-- brief; whether a snapshot is written; or a greatest number
abbrev pub IsToldTo : Question → Asking → Asking → Told → Type 0
IsToldTo (asks.Submit p c) before a (told.Outcome outcome s) = IsOutcome c.request a outcome × IsSummary s
IsToldTo (asks.Sync p q) before a (told.Outcome outcome s) = IsSynced q a outcome × IsSummary s
IsToldTo (asks.Look p name) before a (told.Sight answer) = IsSeen name before a answer
IsToldTo (asks.Names p prefix) before a (told.Listing l) =
    (l.node ≡ before.node) × IfSome l.names (λ names. names ≡ bindings_with (bytes_of prefix) (registry_of a.known))
IsToldTo (asks.Watch p prefix) before a (told.Watching new) = new.ear.node ≡ before.node
IsToldTo (asks.Changes p) before a (told.Changed are_told) = Unit {0}
IsToldTo (asks.Summary p) before a (told.Summary summary) = IsSummary summary
IsToldTo (asks.Snapshot p) before a (told.Written written) = Unit {0}
IsToldTo (asks.Greatest p client) before a (told.Greatest greatest) = IsGreatest client greatest.number
IsToldTo _ _ _ _ = ⊥
