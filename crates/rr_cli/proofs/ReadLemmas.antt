-- An input that can't be read ends as defined, and a second file is read as it was before the first.
use Rattle.std.proofs.Common.{◌≡◌, ◌⊎◌, ◌≤◌, ℕ, List, Option, None, Some, refl, subst, inl, inr}
use Rattle.clap.specs.Words.{Text}
use Rattle.rr_types.specs.Counts.{Grew}
use Rattle.rr_stream.specs.Streams.{Printing, Reading, AreAllOf}
use Rattle.rr_stream.specs.Files.{Readable, reading_of}
use Rattle.rr_cli.specs.Ends.{EndsOnInput, IsStreamStatus, IsUnread, unread, unheld}
use Rattle.rr_cli.specs.Views.{left_behind}
use Rattle.rr_cli.proofs.SweepLemmas.{grew_on}

-- the status where an input can't be read, by what kept it
pub unread_status : (M : Type 0) (from to : Reading) (status : ℕ) → M ⊎ Grew from.faults to.faults → (M → status ≡ 6) → IsStreamStatus status → IsUnread from to status
unread_status M from to status (inl memory) by_memory stream = inr (by_memory memory)
unread_status M from to status (inr grew) by_memory (inl device) = inl (device, grew)
unread_status M from to status (inr grew) by_memory (inr memory) = inr memory

-- an input that can't be read ends so
pub unread_ends : (On : List ℕ → ℕ → Printing → Printing → Type 0) (from to : Reading) (status : ℕ) (old : Printing) → IsUnread from to status → EndsOnInput On from to status old old
unread_ends On from to status old (inl device) = unread device.0 device.1 refl
unread_ends On from to status old (inr memory) = unheld memory refl

-- what a second file has to read is what it had before the first was read
pub second_read : (file report : Option Text) (from between : Readable) (text : List ℕ) → between.files.bytes_at ≡ from.files.bytes_at → ((path : List ℕ) → file ≡ Some path → between.input ≡ from.input)
    → AreAllOf (reading_of report between).remaining text → AreAllOf (left_behind file report from).remaining text
second_read None None from between text same untouched all = tt
second_read None (Some path) from between text same untouched all = subst (λ (at : List ℕ → Option (List ℕ)). AreAllOf (at path) text) same all
second_read (Some first) None from between text same untouched all = subst (λ (r : Reading). AreAllOf r.remaining text) (untouched first refl) all
second_read (Some first) (Some path) from between text same untouched all = subst (λ (at : List ℕ → Option (List ℕ)). AreAllOf (at path) text) same all

-- where it can't be read, one of its calls failed behind the first
pub second_unread : (file report : Option Text) (from between to : Readable) (status : ℕ) → from.files.faults ≤ between.files.faults → from.input.faults ≤ between.input.faults
    → IsUnread (reading_of report between) (reading_of report to) status → IsUnread (left_behind file report from) (reading_of report to) status
second_unread file report from between to status files input (inr memory) = inr memory
second_unread None None from between to status files input (inl (device, grew)) = inl (device, grew_on from.input.faults between.input.faults to.input.faults input grew)
second_unread None (Some path) from between to status files input (inl (device, grew)) = inl (device, grew_on from.files.faults between.files.faults to.files.faults files grew)
second_unread (Some first) None from between to status files input (inl (device, grew)) = inl (device, grew_on from.input.faults between.input.faults to.input.faults input grew)
second_unread (Some first) (Some path) from between to status files input (inl (device, grew)) = inl (device, grew_on from.files.faults between.files.faults to.files.faults files grew)
