-- What an entry that is kept in little room says.
use Rattle.std.specs.Prelude.{ℕ}
use Rattle.rr_types.specs.declared.promise.Entry.{Entry}
use Rattle.rr_types.specs.declared.promise.Standing.{Standing}
use Rattle.rr_types.specs.declared.promise.Standing.TheVariants as stands
use Rattle.rr_types.specs.declared.kept.Form.{Form}
use Rattle.rr_types.specs.declared.kept.Form.TheVariants as form

-- where the instance stands
abbrev pub standing_as : Form → Standing
standing_as (form.Decided v) = stands.Decided v
standing_as (form.Open parts) = stands.Open parts.value

-- the entry of instance i that is kept in a form
abbrev pub entry_in : ℕ → Form → Entry
entry_in i f = record { instance = i; standing = standing_as f }
